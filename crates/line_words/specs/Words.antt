-- The words of a line, "single spaces" between, those in front of a comment, and what a word may be: a name, `reads`, `writes`, an item.
use Rattle.std.specs.Prelude.{ℕ, Bool, true, false, ◌&&◌, ◌||◌, cond, List, [], ◌∷◌, ◌++◌, eqb, leb, ltb, length}
use Rattle.rules.specs.Words.{every}
use Rattle.numerals.specs.Numbers.{digit, worth, greatest}

-- ---- cut at each space

-- w is the word that is not ended yet
unfoldable pub words_from : List ℕ → List ℕ → List (List ℕ)
words_from w [] = w ∷ []
words_from w (b ∷ bs) =
    let next = words_from [] bs in
    let on = words_from (w ++ (b ∷ [])) bs in
    cond (eqb b 32) (w ∷ next) on

unfoldable pub words_of : List ℕ → List (List ℕ)
words_of line = words_from [] line

-- "A line that begins with `#`, what follows ` #` on a line .. are comments": a comment begins with a word that begins with `#`
unfoldable pub hash : List ℕ → Bool
hash [] = false
hash (b ∷ bs) = eqb b 35

unfoldable pub uncommented : List (List ℕ) → List (List ℕ)
uncommented [] = []
uncommented (w ∷ ws) = let rest = uncommented ws in cond (hash w) [] (w ∷ rest)

-- ---- what a word may be

-- "letters, digits, `_`, `-`"
abbrev pub name_byte : ℕ → Bool
name_byte b = (leb 65 b && leb b 90) || (leb 97 b && leb b 122) || digit b || eqb b 95 || eqb b 45

-- "at most 32 bytes"
abbrev pub longest_name : ℕ
longest_name = 32

unfoldable pub is_name : List ℕ → Bool
is_name w = (ltb 0 (length w) && leb (length w) longest_name) && every name_byte w

abbrev pub reads : List ℕ
reads = 114 ∷ 101 ∷ 97 ∷ 100 ∷ 115 ∷ []

abbrev pub writes : List ℕ
writes = 119 ∷ 114 ∷ 105 ∷ 116 ∷ 101 ∷ 115 ∷ []

-- "Items are one or more digits, leading zeros allowed; above 18,446,744,073,709,551,615 the line is bad"
unfoldable pub is_item : List ℕ → Bool
is_item w = ltb 0 (length w) && (every digit w && leb (worth 0 w) greatest)

-- two words are the same, byte by byte
unfoldable pub same : List ℕ → List ℕ → Bool
same [] [] = true
same [] (c ∷ cs) = false
same (b ∷ bs) [] = false
same (b ∷ bs) (c ∷ cs) = eqb b c && same bs cs
