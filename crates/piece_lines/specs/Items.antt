-- The items of a piece: which are known, and those as a word of bits.
use Rattle.std.specs.Prelude.{ℕ, Bool, cond, ◌||◌, List, [], ◌∷◌, ltb}
use Rattle.rules.specs.Words.{some, with_bit}
use Rattle.piece_lines.specs.Says.{Piece}

-- "an item above 63"
abbrev pub unknown : ℕ → Bool
unknown i = ltb 63 i

-- the items that are known, as bits
unfoldable pub word_with : ℕ → List ℕ → ℕ
word_with h [] = h
word_with h (i ∷ is) = let on = word_with (with_bit h i) is in let past = word_with h is in cond (unknown i) past on

unfoldable pub word_of : List ℕ → ℕ
word_of items = word_with 0 items

unfoldable pub unknown_in : Piece → Bool
unknown_in p = some unknown p.reads || some unknown p.writes
