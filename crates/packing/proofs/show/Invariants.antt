-- The first k versions are hidden from the slot no more, the others are as they were.
use Rattle.packing.specs.Moved.{Shown}
use Rattle.packing.proofs.show.Given as goal

abbrev pub invariant-loop-k : goal.invariant-loop-k
invariant-loop-k l = Shown l.initial.row l.row l.slot l.k
