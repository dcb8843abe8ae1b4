-- From fresh tables.
use mathlib.Core.Path.{refl, ◌∙◌}
use Rattle.fresh.proofs.Exact.{made_fresh}
use Rattle.judge.proofs.Judged.{at_start}
use Rattle.judging.proofs.Seeing.{born}
use Rattle.judging.proofs.lockstep.Judging.new.Goals as goal

pub returns : goal.returns
returns c =
    λ file h. born file _ h c.requires c.records-left.ensures
    (at_start c.new-judge.result _ _ _ c.new-judge.ensures (c.fresh.ensures.versions_after ∙ made_fresh _ _ _ refl refl refl))
