-- A word beyond the end is not set.
use Rattle.std.proofs.Common.{sym, arith}
use lib.Seq.{set_out}
use Rattle.tally.proofs.changes.put.Goals as goal

pub returns-else-at-words : goal.returns-else-at-words
returns-else-at-words c = sym (set_out c.args.words.now c.args.at c.args.value (omega arith))
