use Rattle.choices.proofs.Read.{hidden-from}
use Rattle.choices.proofs.is_hidden.Goals as goal

pub returns : goal.returns
returns c = hidden-from c.args.row.now c.args.place c.args.slot
