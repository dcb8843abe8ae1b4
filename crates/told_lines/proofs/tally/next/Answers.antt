-- One more, up to the greatest number.
use Rattle.told_lines.proofs.Counting.{next_more, next-most}
use Rattle.told_lines.proofs.tally.next.Goals as goal

pub returns-then-lines-lt-GREATEST : goal.returns-then-lines-lt-GREATEST
returns-then-lines-lt-GREATEST c = λ n e. next_more c.args.lines n c.if-lines-lt-GREATEST.true e

pub returns : goal.returns
returns c = λ n e. next-most c.args.lines n c.if-lines-lt-GREATEST.false e
