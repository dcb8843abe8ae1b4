-- From the oldest version up: each but the newest is read where the first start at its stamp or above is below the next stamp.
--
use Rattle.versions.proofs.Merge.{Merging}
use Rattle.versions.proofs.all_read.Given as goal

abbrev pub invariant-loop-j : goal.invariant-loop-j
invariant-loop-j l = Merging l.starts l.row l.m l.p l.j
