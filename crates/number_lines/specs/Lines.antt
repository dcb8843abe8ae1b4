-- How a line is read as numbers: decimal, with single spaces between.
use Rattle.std.specs.Prelude.{ℕ, ◌+◌, ◌-◌, ◌*◌, ◌<◌, ◌≤◌, ◌≡◌, Bool, true, false, cond, ◌&&◌, ◌||◌, List, [], ◌∷◌, ◌++◌, eqb, leb, ltb, length, take, drop, Option, Some, None}
use Rattle.numerals.specs.Numbers.{digit, greatest}
use Rattle.number_lines.specs.declared.scan.Scan.{Scan}
use Rattle.number_lines.specs.declared.scan.Scan.TheVariants.{Reads, Spoilt}
use Rattle.number_lines.specs.declared.scan.Next.{Next}

-- what is known of a line so far: the numbers that are ended, what the digits of the next one are worth, and whether it
-- has any; or that it is no list of numbers
pub data Held : Type 0 where
  reads : List ℕ → ℕ → Bool → Held
  spoilt : Held

-- a byte that has to be a digit; the number may not be too great
unfoldable pub digit_after : ℕ → Held → Held
digit_after b (reads ns v g) =
    cond (digit b && leb (v * 10 + (b - 48)) greatest) (reads ns (v * 10 + (b - 48)) true) spoilt
digit_after b spoilt = spoilt

-- the number ends: it must have a digit, and there must be room for it
unfoldable pub ends : ℕ → Held → Held
ends room (reads ns v true) = cond (ltb (length ns) room) (reads (ns ++ (v ∷ [])) 0 false) spoilt
ends room (reads ns v false) = spoilt
ends room spoilt = spoilt

-- a space ends a number
unfoldable pub after : ℕ → Held → ℕ → Held
after room h b = cond (eqb b 32) (ends room h) (digit_after b h)

-- byte after byte
unfoldable pub read_on : ℕ → Held → List ℕ → Held
read_on room h [] = h
read_on room h (b ∷ bs) = read_on room (after room h b) bs

-- whether the end of input ends a line here
unfoldable pub begun : Held → Bool
begun (reads ns v g) = g || ltb 0 (length ns)
begun spoilt = true

-- what the scan and the words beside it keep
unfoldable pub held_by : List ℕ → Scan → Held
held_by words (Reads (Some v) n) = reads (take n words) v true
held_by words (Reads None n) = reads (take n words) 0 false
held_by words Spoilt = spoilt

-- ---- along a chunk

-- a line ends and bytes are left, or the bytes are used up
pub data Found : Type 0 where
  ended : Held → List ℕ → Found
  unended : Held → Found

unfoldable pub gather : ℕ → Held → List ℕ → Found
gather room h [] = unended h
gather room h (b ∷ bs) = let on = gather room (after room h b) bs in cond (eqb b 10) (ended h bs) on

abbrev pub found_at : List ℕ → Held → Option ℕ → Found
found_at chunk h (Some k) = ended h (drop k chunk)
found_at chunk h None = unended h

unfoldable pub found_by : List ℕ → List ℕ → Next → Found
found_by chunk words r = found_at chunk (held_by words r.scan) r.at

-- the right answer, and an index past the line's end
pub record Goes (room : ℕ) (h : Held) (chunk : List ℕ) (from : ℕ) (words : List ℕ) (r : Next) : Type 0 where
  pub found : found_by chunk words r ≡ gather room h (drop from chunk)
  pub onward : (k : ℕ) → r.at ≡ Some k → (from < k) × (k ≤ length chunk)
