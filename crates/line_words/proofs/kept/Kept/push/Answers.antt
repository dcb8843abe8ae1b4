-- The byte is kept where there is room.
use Rattle.line_words.proofs.Keeping.{push_kept, push_full}
use Rattle.line_words.proofs.kept.Kept.push.Goals as goal

pub returns-then-at-lt-LONGEST : goal.returns-then-at-lt-LONGEST
returns-then-at-lt-LONGEST c = λ w k. push_kept w c.args.self k c.args.byte c.if-at-lt-LONGEST.true

pub returns : goal.returns
returns c = λ w k. push_full w c.args.self k c.args.byte c.if-at-lt-LONGEST.false
