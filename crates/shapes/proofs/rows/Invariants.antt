-- The pass over the rows sees what the rules ask of them, who is a live update and who waits.
use Rattle.shapes.proofs.Passed.{Passed}
use Rattle.shapes.proofs.rows.Given as goal

abbrev pub invariant-loop-slot : goal.invariant-loop-slot
invariant-loop-slot l = Passed l.txns l.seen l.slot
