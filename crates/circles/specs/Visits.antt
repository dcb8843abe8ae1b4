-- What is known between two visits of the search.
use Rattle.std.specs.Prelude.{ℕ, ◌^◌, ◌<◌, ◌⊎◌, List, T}
use Rattle.names.specs.Sizes.{base}
use Rattle.rules.specs.Words.{bit}
use Rattle.circles.specs.Links.{linked}

-- the slots done lead only to slots done or still to do, and the goal is not done
pub record Open (w : List ℕ) (done todo goal : ℕ) : Type 0 where
  pub done_small : done < 2 ^ base.slots
  pub todo_small : todo < 2 ^ base.slots
  pub apart : (a : ℕ) → T (bit todo a) → T (bit done a) → ⊥
  pub goal_out : T (bit done goal) → ⊥
  pub leads : (a b : ℕ) → T (bit done a) → T (linked w a b) → T (bit done b) ⊎ T (bit todo b)
