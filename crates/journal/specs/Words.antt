-- Request E1: "all in little-endian 64-bit words".
use Rattle.std.specs.Prelude.{ℕ, zero, suc, ◌+◌, ◌*◌, ◌/◌, ◌%◌, List, [], ◌∷◌, get_or, drop}

-- the bytes of a word; of a count, or of any field
abbrev pub word_size : ℕ
word_size = 8

-- the n lowest bytes of a number, the lowest first
unfoldable pub bytes_of : ℕ → ℕ → List ℕ
bytes_of zero w = []
bytes_of (suc n) w = w % 256 ∷ bytes_of n (w / 256)

-- the number in the first n bytes; a byte that is missing counts as 0
unfoldable pub number_in : ℕ → List ℕ → ℕ
number_in zero bs = 0
number_in (suc n) bs = get_or bs 0 0 + 256 * number_in n (drop 1 bs)

unfoldable pub word_bytes : ℕ → List ℕ
word_bytes w = bytes_of word_size w

-- the word at a place
unfoldable pub word_at : ℕ → List ℕ → ℕ
word_at at bs = number_in word_size (drop at bs)

-- the greatest word
abbrev pub greatest : ℕ
greatest = 18446744073709551615
