-- The set is what `turn` links reach, and fewer do not reach `from`.
use Prim.Native.Nat.{ℕ, ◌<◌}
use mathlib.Core.Path.{◌≡◌}
use lib.Dec.{T}
use Rattle.rules.specs.Words.{bit}
use Rattle.graph.specs.Near.{near}
use Rattle.graph.proofs.distance.Given as goal

abbrev pub invariant-loop-turn : goal.invariant-loop-turn
invariant-loop-turn l = (l.set ≡ near l.links l.room l.goal l.turn) × ((k : ℕ) → k < l.turn → T (bit (near l.links l.room l.goal k) l.from) → ⊥)
