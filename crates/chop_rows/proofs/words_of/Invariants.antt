-- The invariant is `Written`: the pieces below `at` are written.
use Rattle.chop_rows.proofs.Writing.{Written}
use Rattle.chop_rows.proofs.words_of.Given as goal

abbrev pub invariant-loop-at : goal.invariant-loop-at
invariant-loop-at l = Written l.pieces l.out l.at
