-- By division.
use Rattle.judge.proofs.Speaking.{too_small, by_division}
use Rattle.judge.proofs.points.calls_stand.Goals as goal

pub returns-then-size-lt-COUNTS : goal.returns-then-size-lt-COUNTS
returns-then-size-lt-COUNTS c = too_small c.args.size c.args.n c.if-size-lt-COUNTS.true

pub returns : goal.returns
returns c = by_division c.args.size c.args.n c.if-size-lt-COUNTS.false
