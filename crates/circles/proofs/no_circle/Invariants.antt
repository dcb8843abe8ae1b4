-- `circles::no_circle` meets its contract. The invariant: every slot on a circle is left; the measure is the word that is left, since
-- a slot less is a smaller word.
use Prim.Native.Nat.{◌^◌, ◌<◌}
use Rattle.names.specs.Sizes.{base}
use Rattle.circles.specs.Peel.{Keeps}
use Rattle.circles.proofs.no_circle.Given as goal

abbrev pub invariant-loop-left : goal.invariant-loop-left
invariant-loop-left l = (l.left < 2 ^ base.slots) × Keeps l.waits l.left

abbrev pub decreases-loop-left : goal.decreases-loop-left
decreases-loop-left l = l.left
