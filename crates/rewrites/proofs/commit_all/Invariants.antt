-- The rows passed are rewritten, with the working value in front where the slot holds the item exclusively.
use Rattle.rewrites.proofs.Committed.{Committed}
use Rattle.rewrites.proofs.commit_all.Given as goal

abbrev pub invariant-loop-i : goal.invariant-loop-i
invariant-loop-i l = Committed l.initial.versions l.locks l.owner l.stamp l.hidden l.below l.versions l.i
