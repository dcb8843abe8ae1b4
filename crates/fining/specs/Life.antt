-- The program's life: how the structs keep what is known of the input so far.
use Rattle.std.specs.Prelude.{ℕ, ◌*◌, ◌≤◌, ◌≡◌, Bool, true, false, List, [], ◌∷◌, map, ltb, length, take}
use Rattle.rules.specs.Words.{some}
use Rattle.line_words.specs.Said.{Said}
use Rattle.line_words.specs.Held.{counted}
use Rattle.op_lines.specs.Says.{Operation}
use Rattle.op_lines.specs.Read.{said}
use Rattle.op_lines.specs.Held.{Follows}
use Rattle.told_lines.specs.Lines.{Tallied}
use Rattle.told_lines.specs.Seen.{Seen, see}
use Rattle.told_lines.specs.Names.{KeepsNames}
use Rattle.finest.specs.Operations as finest
use Rattle.fining.specs.Programs.{unknown, names_of, numbered_from}
use Rattle.fining.specs.declared.operations.Operations.{Operations}
use Rattle.fining.specs.declared.tally.Tally.{Tally}
use Rattle.fining.specs.declared.Fining.{Fining}

-- operations as rows of four words
abbrev pub word_for : Bool → ℕ
word_for true = 1
word_for false = 0

unfoldable pub row_words : List finest.Operation → List ℕ
row_words [] = []
row_words (o ∷ os) = o.program ∷ o.item ∷ word_for o.writes ∷ word_for o.marked ∷ row_words os

-- the names and the rows, where there are not too many
pub record Holding (os : List Operation) (s : Operations) : Type 0 where
  pub names : KeepsNames (names_of os) s.names
  pub rows : take (length os * 4) s.rows ≡ row_words (numbered_from [] os)

pub record Holds (os : List Operation) (s : Operations) : Type 0 where
  pub count : s.count ≡ counted (length os)
  pub unknown : s.unknown ≡ some unknown os
  pub holding : length os ≤ finest.most → Holding os s

-- what the lines that are ended have come to
abbrev pub Counts : List (Said Operation) → Tally → Type 0
Counts ss s = Tallied Holds ss s.lines s.bad s.operations

pub record Keeps (k : Seen) (s : Fining) : Type 0 where
  pub line : Follows k.line s.line
  pub begun : s.begun ≡ ltb 0 (length k.line)
  pub tally : Counts (map said k.lines) s.tally

-- all these bytes were handed in
abbrev pub Took : List ℕ → Fining → Type 0
Took input s = Keeps (see input) s
