-- The pass over the rows that await a lock.
use Rattle.waiting.proofs.Linking.{Linking}
use Rattle.waiting.proofs.waits.Given as goal

abbrev pub invariant-loop-slot : goal.invariant-loop-slot
invariant-loop-slot l = Linking l.txns l.locks l.links l.ok l.slot
