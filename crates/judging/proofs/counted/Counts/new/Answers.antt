-- A file has room for two counts, or is short.
use borrow.Author.Rules.{rules}
use Rattle.judging.proofs.Counting.{too_short, born}
use Rattle.judging.proofs.counted.Counts.new.Goals as goal

pub returns-then-size-lt-BOTH : goal.returns-then-size-lt-BOTH
returns-then-size-lt-BOTH c = λ file e. too_short file c.args.size (search rules) c.if-size-lt-BOTH.true e

pub returns : goal.returns
returns c = λ file e. born file c.args.size (search rules) c.if-size-lt-BOTH.false e
