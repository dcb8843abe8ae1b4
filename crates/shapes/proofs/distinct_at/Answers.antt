-- If the slot is live, no slot below has its number.
use mathlib.Core.Path.{◌∙◌}
use Rattle.rules.specs.Tables.{txn}
use Rattle.shapes.proofs.Seeing.{free-apart, live-apart}
use Rattle.shapes.proofs.distinct_at.Goals as goal

pub returns-then-number-eq0 : goal.returns-then-number-eq0
unfolding txn
returns-then-number-eq0 c = free-apart c.args.txns.now c.args.slot c.if-number-eq0.true

pub returns : goal.returns
unfolding txn
returns c = c.apart.ensures ∙ live-apart c.args.txns.now c.args.slot c.if-number-eq0.false
