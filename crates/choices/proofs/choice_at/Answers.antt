use mathlib.Core.Path.{sym}
use Rattle.choices.proofs.Read.{value_in_lem}
use Rattle.choices.proofs.choice_at.Goals as goal

pub returns-clause-value : goal.returns-clause-value
returns-clause-value c = sym (value_in_lem c.args.row.now c.args.place c.requires.0)
