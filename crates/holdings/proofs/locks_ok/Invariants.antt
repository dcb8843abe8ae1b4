-- The pass over the locks: each is tested, and its exclusive holder counted.
use Rattle.holdings.proofs.Counting.{Counting}
use Rattle.holdings.proofs.locks_ok.Given as goal

abbrev pub invariant-loop-item : goal.invariant-loop-item
invariant-loop-item l = Counting l.updates l.holders l.locks l.counts l.most l.ok l.item
