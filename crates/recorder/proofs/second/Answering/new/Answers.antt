-- From fresh tables.
use mathlib.Core.Path.{refl, ◌∙◌}
use Rattle.fresh.proofs.Exact.{made_fresh}
use Rattle.recorder.proofs.Pieces.{born}
use Rattle.recorder.proofs.second.Answering.new.Goals as goal

pub returns : goal.returns
returns c = λ input e. born input _ e refl (c.fresh.ensures.versions_after ∙ made_fresh _ _ _ refl refl refl)
