-- What the one who left has read alone is gone from the rows passed.
use Rattle.rewrites.proofs.Forgotten.{Forgotten}
use Rattle.rewrites.proofs.forget_all.Given as goal

abbrev pub invariant-loop-i : goal.invariant-loop-i
invariant-loop-i l = Forgotten l.initial.versions l.start l.fn.beside.below l.fn.beside.next l.versions l.i
