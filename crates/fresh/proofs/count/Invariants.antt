-- The rows passed have the count 1.
use Rattle.fresh.proofs.Filling.{Counted}
use Rattle.fresh.proofs.count.Given as goal

abbrev pub invariant-loop-x : goal.invariant-loop-x
invariant-loop-x l = Counted l.initial.versions l.versions l.x
