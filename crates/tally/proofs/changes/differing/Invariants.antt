-- The words below k are counted.
use Rattle.tally.proofs.Passes.{Passed}
use Rattle.tally.proofs.changes.differing.Given as goal

abbrev pub invariant-loop-k : goal.invariant-loop-k
invariant-loop-k l = Passed l.words l.others l.n l.k
