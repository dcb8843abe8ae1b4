-- The input so far, byte after byte: the lines that are ended, and the bytes of the one that is not.
use Rattle.std.specs.Prelude.{ℕ, cond, List, [], ◌∷◌, ◌++◌, eqb, ltb, length}

pub record Seen : Type 0 where
  pub lines : List (List ℕ)
  pub line : List ℕ

abbrev pub seen : List (List ℕ) → List ℕ → Seen
seen ls l = record { lines = ls; line = l }

-- a byte more: byte 10 ends a line
unfoldable pub see_byte : Seen → ℕ → Seen
see_byte s b = cond (eqb b 10) (seen (s.lines ++ (s.line ∷ [])) []) (seen s.lines (s.line ++ (b ∷ [])))

unfoldable pub see_all : Seen → List ℕ → Seen
see_all s [] = s
see_all s (b ∷ bs) = see_all (see_byte s b) bs

unfoldable pub see : List ℕ → Seen
see input = see_all (seen [] []) input

-- the input ends: a line that is begun ends with it
unfoldable pub all_lines : Seen → List (List ℕ)
all_lines s = let last = s.lines ++ (s.line ∷ []) in cond (ltb 0 (length s.line)) last s.lines
