-- Where a search among the numbers below n ended.
use Rattle.std.specs.Prelude.{ℕ, cond, eqb, Option, Some, None}

-- a number that was searched for: n where there is none
unfoldable pub found_below : ℕ → ℕ → Option ℕ
found_below n i = cond (eqb i n) None (Some i)
