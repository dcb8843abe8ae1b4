-- A line that is begun ends with the input.
use Rattle.cutting.proofs.Seeing.{last-begun, last_none}
use Rattle.cutting.proofs.Cutting.last.Goals as goal

pub returns-then-begun : goal.returns-then-begun
returns-then-begun c = λ input q. last-begun input c.args.self q c.if-begun.true (c.count.ensures _ _ q.tally (c.ended.ensures _ q.line))

pub returns-else-begun : goal.returns-else-begun
returns-else-begun c = λ input q. last_none input c.args.self q c.if-begun.false
