-- The invariant is `Going`: the rows below `at` are noted, and there is room for their pieces.
use Rattle.chop_rows.proofs.OneMore.{Going}
use Rattle.chop_rows.proofs.notes_of.Given as goal

abbrev pub invariant-loop-at : goal.invariant-loop-at
invariant-loop-at l = Going l.words l.notes l.at
