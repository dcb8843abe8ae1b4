-- The set is what `turn` links reach.
use mathlib.Core.Path.{◌≡◌}
use Rattle.graph.specs.Near.{near}
use Rattle.graph.proofs.near.Given as goal

abbrev pub invariant-loop-turn : goal.invariant-loop-turn
invariant-loop-turn l = l.set ≡ near l.links l.room l.goal l.turn
