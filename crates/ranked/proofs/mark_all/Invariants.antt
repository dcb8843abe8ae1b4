-- Slot by slot the ranks are marked.
use Rattle.ranked.specs.Marks.{Marked}
use Rattle.ranked.proofs.mark_all.Given as goal

abbrev pub invariant-loop-slot : goal.invariant-loop-slot
invariant-loop-slot l = Marked l.txns l.locks l.marks l.slot
