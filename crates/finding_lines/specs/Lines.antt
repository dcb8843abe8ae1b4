-- "Standard output is one line": the line of what was found of a chopping.
use Rattle.std.specs.Prelude.{ℕ, suc, ◌<◌, ◌≤◌, List, [], ◌∷◌, ◌++◌, map, get_or}
use Rattle.numerals.specs.Print.{spaced}
use Rattle.told_lines.specs.Lines.{unknown_words}
use Rattle.chop.specs.declared.Judged.{Judged}
use Rattle.chop.specs.declared.Finding.{Finding}
use Rattle.chop.specs.declared.Finding.TheVariants.{TooManyPieces, UnknownItem, Malformed, Refused, Accepted}
use Rattle.chop.specs.Verdicts.{Verdict, too_many_pieces, unknown_item, malformed, refused, accepted}

-- `accepted`, `too many pieces`, and what is never said of pieces
abbrev pub accepted_words : List ℕ
accepted_words = 97 ∷ 99 ∷ 99 ∷ 101 ∷ 112 ∷ 116 ∷ 101 ∷ 100 ∷ 10 ∷ []

abbrev pub too_many_words : List ℕ
too_many_words = 116 ∷ 111 ∷ 111 ∷ 32 ∷ 109 ∷ 97 ∷ 110 ∷ 121 ∷ 32 ∷ 112 ∷ 105 ∷ 101 ∷ 99 ∷ 101 ∷ 115 ∷ 10 ∷ []

abbrev pub malformed_words : List ℕ
malformed_words = 109 ∷ 97 ∷ 108 ∷ 102 ∷ 111 ∷ 114 ∷ 109 ∷ 101 ∷ 100 ∷ 10 ∷ []

-- `refused`, before its numbers
abbrev pub refused_word : List ℕ
refused_word = 114 ∷ 101 ∷ 102 ∷ 117 ∷ 115 ∷ 101 ∷ 100 ∷ []

-- "the circle's pieces by their place in the input from 1"
unfoldable pub refused_line : List ℕ → List ℕ
refused_line l = refused_word ++ (spaced (map suc l) ++ (10 ∷ []))

-- the line of each finding, where l is the circle that is shown
abbrev pub line_for : Finding → List ℕ → List ℕ
line_for TooManyPieces l = too_many_words
line_for UnknownItem l = unknown_words
line_for Malformed l = malformed_words
line_for Refused l = refused_line l
line_for Accepted l = accepted_words

unfoldable pub verdict_line : Verdict → List ℕ
verdict_line too_many_pieces = too_many_words
verdict_line unknown_item = unknown_words
verdict_line malformed = malformed_words
verdict_line (refused l) = refused_line l
verdict_line accepted = accepted_words

-- the bytes of the longest line: `refused`, 32 places of at most 20 digits with a space before each, and the line's end
abbrev pub longest_line : ℕ
longest_line = 680

-- a circle of at most 32 places, each below 32
pub record Shown (j : Judged) : Type 0 where
  pub most : j.length ≤ 32
  pub places : (k : ℕ) → k < j.length → get_or j.circle k 0 < 32
