-- Names, each numbered by the place of the first that is the same, and kept as rows of 32 bytes.
use Rattle.std.specs.Prelude.{ℕ, suc, ◌<◌, ◌≡◌, true, cond, List, [], ◌∷◌, eqb, length, get_or}
use Rattle.rules.specs.Words.{every, row, first_from}
use Rattle.line_words.specs.Words.{same, name_byte}
use Rattle.line_words.specs.Held.{padded}

-- the place of the first of these names that is the same; behind them all where none is
unfoldable pub place_of : List ℕ → List (List ℕ) → ℕ
place_of n [] = 0
place_of n (m ∷ ms) = let rest = place_of n ms in cond (same m n) 0 (suc rest)

-- the first of so many rows of 32 bytes that is this name
unfoldable pub first_row : List ℕ → List ℕ → ℕ → ℕ
first_row name names n = first_from (λ i. same (row 32 i names) name) 0 n

-- the bytes of a row in front of the first zero
unfoldable pub unpadded : List ℕ → List ℕ
unpadded [] = []
unpadded (b ∷ bs) = let rest = unpadded bs in cond (eqb b 0) [] (b ∷ rest)

-- a row for each name, zeros behind it, and none has a byte 0
pub record KeepsNames (ns : List (List ℕ)) (names : List ℕ) : Type 0 where
  pub plain : every (every name_byte) ns ≡ true
  pub rows : (i : ℕ) → i < length ns → row 32 i names ≡ padded (get_or ns i [])
