-- Sets of numbers below 64 as words: bit i says that i is in the set.
use Rattle.std.specs.Prelude.{ℕ, zero, suc, ◌^◌, Bool, not, cond, eqb}
use Rattle.std.specs.Int.Bits.{bit_and, bit_or}
use Rattle.rules.specs.Words.{bit, first_from}

-- those below n that pass
unfoldable pub those : ℕ → (ℕ → Bool) → ℕ
those zero p = 0
those (suc n) p = let rest = those n p in cond (p n) (bit_or rest (2 ^ n)) rest

-- the two sets have a common element
unfoldable pub meets : ℕ → ℕ → Bool
meets a b = not (eqb (bit_and a b) 0)

-- the lowest of a set; 64 if it is empty
unfoldable pub lowest : ℕ → ℕ
lowest m = first_from (bit m) 0 64
