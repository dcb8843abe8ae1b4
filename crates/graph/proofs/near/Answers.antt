use mathlib.Core.Path.{◌≡◌, sym, ap, ◌∙◌}
use native.Mathlib.Omega.{arith}
use Rattle.words.proofs.SlotWords.{shifted}
use Rattle.graph.specs.Near.{grown, near}
use Rattle.graph.proofs.Ways.{near-more}
use Rattle.graph.proofs.near.Goals as goal

pub loop-turn-init : goal.loop-turn-init
unfolding near
loop-turn-init c = shifted c.args.goal (omega arith)

pub loop-turn-preserved : goal.loop-turn-preserved
loop-turn-preserved c =
    let a = c.args in
    let at = c.loop-turn in
    c.grown-set.ensures ∙ ap (grown a.links.now a.room) at.invariant ∙ sym (near-more a.links.now a.room a.goal at.turn)

pub returns : goal.returns
returns c =
    let a = c.args in
    let at = c.loop-turn in
    let e : at.turn ≡ a.most = omega arith in
    at.invariant ∙ ap (near a.links.now a.room a.goal) e
