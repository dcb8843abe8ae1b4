-- The program's life: how the structs keep what is known of the input so far.
use Rattle.std.specs.Prelude.{ℕ, ◌*◌, ◌≤◌, ◌≡◌, List, [], ◌∷◌, map, ltb, length, take}
use Rattle.rules.specs.Words.{some}
use Rattle.chop.specs.Pieces as chop
use Rattle.piece_lines.specs.Says.{Piece}
use Rattle.piece_lines.specs.Read.{said}
use Rattle.line_words.specs.Said.{Said}
use Rattle.piece_lines.specs.Items.{unknown_in}
use Rattle.piece_lines.specs.Held.{Follows}
use Rattle.line_words.specs.Held.{counted}
use Rattle.told_lines.specs.Lines.{Tallied}
use Rattle.told_lines.specs.Seen.{Seen, see}
use Rattle.told_lines.specs.Names.{KeepsNames}
use Rattle.cutting.specs.Chopping.{chopped_from}
use Rattle.cutting.specs.declared.pieces.Pieces.{Pieces}
use Rattle.cutting.specs.declared.tally.Tally.{Tally}
use Rattle.cutting.specs.declared.Cutting.{Cutting}

abbrev pub names_of : List Piece → List (List ℕ)
names_of ps = map (λ p. p.name) ps

-- pieces as rows of three words
unfoldable pub row_words : List chop.Piece → List ℕ
row_words [] = []
row_words (q ∷ qs) = q.transaction ∷ q.reads ∷ q.writes ∷ row_words qs

-- the names and the rows, where there are not too many
pub record Holding (ps : List Piece) (s : Pieces) : Type 0 where
  pub names : KeepsNames (names_of ps) s.names
  pub rows : take (length ps * 3) s.rows ≡ row_words (chopped_from [] ps)

pub record Holds (ps : List Piece) (s : Pieces) : Type 0 where
  pub count : s.count ≡ counted (length ps)
  pub unknown : s.unknown ≡ some unknown_in ps
  pub holding : length ps ≤ chop.most → Holding ps s

-- what the lines that are ended have come to
abbrev pub Counts : List (Said Piece) → Tally → Type 0
Counts ss s = Tallied Holds ss s.lines s.bad s.pieces

pub record Keeps (k : Seen) (s : Cutting) : Type 0 where
  pub line : Follows k.line s.line
  pub begun : s.begun ≡ ltb 0 (length k.line)
  pub tally : Counts (map said k.lines) s.tally

-- all these bytes were handed in
abbrev pub Took : List ℕ → Cutting → Type 0
Took input s = Keeps (see input) s
