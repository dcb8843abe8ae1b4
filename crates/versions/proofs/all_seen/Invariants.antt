-- The versions behind place j are as they should be; the next is held against the one before it.
use Rattle.versions.proofs.Walk.{Seeing}
use Rattle.versions.proofs.all_seen.Given as goal

abbrev pub invariant-loop-j : goal.invariant-loop-j
invariant-loop-j l = Seeing l.starts l.row l.m l.p l.j
