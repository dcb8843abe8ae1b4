-- From fresh tables, all of them.
use mathlib.Core.Path.{refl, ap, ◌∙◌}
use Rattle.judge.specs.Pieces.{Progress, seen_all}
use Rattle.fresh.proofs.Exact.{made_fresh}
use Rattle.judge.proofs.Judged.{at_start}
use Rattle.judge.proofs.whole.replayed.Goals as goal

pub returns : goal.returns
returns c =
    let g = c.args in
    ap (λ (p : Progress). p.wrong) (c.all-seen.ensures ∙ ap (seen_all g.count _ _) (at_start c.new.result _ _ _ c.new.ensures (c.fresh.ensures.versions_after ∙ made_fresh _ _ _ refl refl refl)))
