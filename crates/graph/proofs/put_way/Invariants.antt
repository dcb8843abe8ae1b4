-- The invariant is `Laying`.
use Rattle.graph.proofs.Laying.{Laying}
use Rattle.graph.proofs.put_way.Given as goal

abbrev pub invariant-loop-place : goal.invariant-loop-place
invariant-loop-place l = Laying l.links l.room l.goal l.from l.count l.initial.out l.out l.at l.place
