-- Each count as it stands in the file.
use Rattle.judging.specs.Counted.{wanted, Counted}
use Rattle.handed.proofs.counts_of.Given as goal

abbrev pub invariant-loop-word : goal.invariant-loop-word
invariant-loop-word l = Counted l.file l.counts

abbrev pub decreases-loop-word : goal.decreases-loop-word
decreases-loop-word l = wanted l.counts
