-- Piece after piece.
use Rattle.judging.specs.Handed.{left, Handed}
use Rattle.handed.proofs.records_of.Given as goal

abbrev pub invariant-loop-judging : goal.invariant-loop-judging
invariant-loop-judging l = Handed l.file l.judging

abbrev pub decreases-loop-judging : goal.decreases-loop-judging
decreases-loop-judging l = left l.judging
