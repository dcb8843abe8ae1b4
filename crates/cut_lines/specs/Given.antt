-- What the code is handed: rows of operations, a cut of them, and names as rows of 32 bytes; and how much room it takes.
use Rattle.std.specs.Prelude.{ℕ, ◌+◌, ◌/◌, ◌≤◌, ◌≡◌, List, [], ◌∷◌, length}
use Rattle.rules.specs.Words.{row}
use Rattle.finest.specs.Operations.{most}
use Rattle.told_lines.specs.Names.{unpadded}

-- not too many rows of four words, and the piece of each
pub record Given (words cut : List ℕ) : Type 0 where
  pub few : length words / 4 ≤ most
  pub each : length cut ≡ length words / 4

-- the name in a row
unfoldable pub name_in : List ℕ → ℕ → List ℕ
name_in names i = unpadded (row 32 i names)

-- numbers, with k added to each
unfoldable pub raised : ℕ → List ℕ → List ℕ
raised k [] = []
raised k (x ∷ xs) = (k + x) ∷ raised k xs

-- the bytes of the longest line of a piece: a name of 32, ` reads` and ` writes` with up to 64 items of two digits, a space before each,
-- ` #` with up to 32 places of two digits, and the line's end
abbrev pub longest_piece : ℕ
longest_piece = 528

-- THE BOUND on the text of a cut: 32 such lines
abbrev pub longest_text : ℕ
longest_text = 16896
