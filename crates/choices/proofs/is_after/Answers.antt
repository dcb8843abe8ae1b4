use Rattle.choices.proofs.Read.{too_late}
use Rattle.choices.proofs.is_after.Goals as goal

pub returns : goal.returns
returns c = too_late c.args.row.now c.args.place c.args.start
