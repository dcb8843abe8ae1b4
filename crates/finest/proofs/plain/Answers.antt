-- `finest::plain` meets its contract.
use mathlib.Core.Path.{refl}
use Rattle.finest.specs.Rows.{shows}
use Rattle.finest.proofs.plain.Goals as goal

pub returns : goal.returns
unfolding shows
returns c = refl
