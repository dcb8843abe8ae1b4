-- Nothing is hidden from the slot in the rows passed, and what it alone has read is gone from them.
use Rattle.rewrites.proofs.Shown.{ShownTo}
use Rattle.rewrites.proofs.reveal_all.Given as goal

abbrev pub invariant-loop-i : goal.invariant-loop-i
invariant-loop-i l = ShownTo l.initial.versions l.slot l.starts l.versions l.i
