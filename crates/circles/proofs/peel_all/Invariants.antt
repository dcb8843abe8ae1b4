-- `circles::peel_all` meets its contract. The invariant: the slots named so far were peeled.
use Prim.Native.Nat.{ℕ, ◌<◌}
use mathlib.Core.Path.{◌≡◌}
use Rattle.circles.proofs.Peeling.{Sweeping}
use Rattle.circles.proofs.peel_all.Given as goal

abbrev pub invariant-loop-k : goal.invariant-loop-k
invariant-loop-k g l = Sweeping l.waits l.left l.rest (λ a. (k : ℕ) × (k < l.k) × ((s : ℕ) → goal.F-post g l.slot_at k s → s ≡ a))
