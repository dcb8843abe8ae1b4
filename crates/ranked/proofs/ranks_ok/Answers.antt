-- All are marked, and then placed; or a rank was met that cannot stand.
use mathlib.Core.Path.{◌∙◌}
use Rattle.ranked.proofs.Placing.{placed-good}
use Rattle.ranked.proofs.ranks_ok.Goals as goal

pub returns : goal.returns
returns c = c.all_placed.ensures ∙ placed-good _ _ _ c.requires c.in-Some.ensures.marked
