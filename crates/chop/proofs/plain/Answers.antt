-- `chop::plain` meets its contract.
use mathlib.Core.Path.{refl}
use Rattle.chop.specs.Verdicts.{shows}
use Rattle.chop.proofs.plain.Goals as goal

pub returns : goal.returns
unfolding shows
returns c = refl
