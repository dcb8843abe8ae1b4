-- What the words have said, the last one too where no comment has begun.
use Rattle.op_lines.proofs.Lines.{ended-over, ended_open}
use Rattle.op_lines.proofs.Line.ended.Goals as goal

pub returns-then-over : goal.returns-then-over
returns-then-over c = λ line q. ended-over line c.args.self q c.if-over.true c.tell.ensures

pub returns : goal.returns
returns c = λ line q. ended_open line c.args.self q c.if-over.false c.word_ended-last.ensures c.tell-2.ensures
