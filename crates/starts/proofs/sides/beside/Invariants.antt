-- The neighbours among the starts of the slots passed.
use Rattle.starts.specs.Starts.{starts_from}
use Rattle.starts.specs.Beside.{Beside}
use Rattle.starts.proofs.sides.beside.Given as goal

abbrev pub invariant-loop-i : goal.invariant-loop-i
invariant-loop-i l = Beside (starts_from l.txns 0 l.i) l.stamp l.known.below l.known.next
