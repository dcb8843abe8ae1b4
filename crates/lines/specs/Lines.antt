-- How input is cut into lines (`lines_of`), and what is kept of a line that is not ended yet (`Held`): a chunk at a time.
use Rattle.std.specs.Prelude.{ℕ, ◌<◌, ◌≤◌, ◌≡◌, Bool, true, cond, List, [], ◌∷◌, ◌++◌, eqb, leb, ltb, length, take, drop, Option, Some, None}
use Rattle.lines.specs.declared.Lines.{Lines}
use Rattle.lines.specs.declared.Next.{Next}

-- ---- the whole input

-- "A line ends at byte 10, which isn't counted .., or at the end of input; empty input prints nothing,
-- and after a byte 10 that ends the input there is no further line." l is the line that is not ended yet.
unfoldable pub lines_from : List ℕ → List ℕ → List (List ℕ)
lines_from l [] = cond (ltb 0 (length l)) (l ∷ []) []
lines_from l (b ∷ bs) =
    let next = lines_from [] bs in
    let on = lines_from (l ++ (b ∷ [])) bs in
    cond (eqb b 10) (l ∷ next) on

unfoldable pub lines_of : List ℕ → List (List ℕ)
lines_of input = lines_from [] input

-- no byte 10
pub data Plain : List ℕ → Type 0 where
  bare : Plain []
  with_byte : {b : ℕ} {l : List ℕ} → (b ≡ 10 → ⊥) → Plain l → Plain (b ∷ l)

-- ---- what is kept of a line: "a line over 80 bytes .. is read to its end"

pub data Held : Type 0 where
  short : List ℕ → Held
  long : Held

unfoldable pub more : Held → ℕ → Held
more (short l) b = cond (ltb (length l) 80) (short (l ++ (b ∷ []))) long
more long b = long

unfoldable pub begun : Held → Bool
begun (short l) = ltb 0 (length l)
begun long = true

-- what the struct keeps
unfoldable pub held_by : Lines → Held
held_by s = cond (leb s.count 80) (short (take s.count s.bytes)) long

-- ---- one line more

-- a line ends and bytes are left, or the bytes are used up
pub data Found : Type 0 where
  ends : Held → List ℕ → Found
  unended : Held → Found

unfoldable pub gather : Held → List ℕ → Found
gather h [] = unended h
gather h (b ∷ bs) = let on = gather (more h b) bs in cond (eqb b 10) (ends h bs) on

abbrev pub found_at : List ℕ → Held → Option ℕ → Found
found_at chunk h (Some k) = ends h (drop k chunk)
found_at chunk h None = unended h

unfoldable pub found_by : List ℕ → Next → Found
found_by chunk r = found_at chunk (held_by r.lines) r.at

-- the right answer, and an index past the line's end
pub record Goes (h : Held) (chunk : List ℕ) (from : ℕ) (r : Next) : Type 0 where
  pub found : found_by chunk r ≡ gather h (drop from chunk)
  pub onward : (k : ℕ) → r.at ≡ Some k → (from < k) × (k ≤ length chunk)

-- ---- chunk after chunk

-- what is kept at its end
unfoldable pub left : Held → List ℕ → Held
left h [] = h
left h (b ∷ bs) =
    let next = left (short []) bs in
    let on = left (more h b) bs in
    cond (eqb b 10) next on

unfoldable pub joined : List (List ℕ) → List ℕ
joined [] = []
joined (c ∷ cs) = c ++ joined cs
