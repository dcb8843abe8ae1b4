-- The search for a start that is at least hi ends at the guard.
use Prim.Native.Nat.{ℕ, ◌≤◌, ◌<◌, ◌-◌}
use lib.ListN.{get_or}
use Rattle.names.specs.Sizes.{base}
use Rattle.versions.proofs.skip.Given as goal

abbrev pub invariant-loop-k : goal.invariant-loop-k
invariant-loop-k l = (l.p ≤ l.k) × (l.k ≤ base.slots) × ((i : ℕ) → l.p ≤ i → i < l.k → get_or l.starts i 0 < l.hi)

abbrev pub decreases-loop-k : goal.decreases-loop-k
decreases-loop-k l = base.slots - l.k
