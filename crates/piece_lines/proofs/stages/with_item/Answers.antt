-- A known item sets its bit.
use Rattle.piece_lines.proofs.Items.{item-unknown, item-known}
use Rattle.piece_lines.proofs.stages.with_item.Goals as goal

pub returns-then-item-gt63 : goal.returns-then-item-gt63
returns-then-item-gt63 c = item-unknown c.args.bits c.args.item c.if-item-gt63.true

pub returns : goal.returns
returns c = item-known c.args.bits c.args.item c.if-item-gt63.false
