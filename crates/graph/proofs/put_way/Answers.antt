use mathlib.Core.Path.{ap, ap₂, ◌∙◌}
use native.Mathlib.Omega.{arith}
use lib.Bits.{bit_and}
use Rattle.graph.specs.Sets.{lowest}
use Rattle.graph.proofs.Laying.{lay_start, lay_step, lay_end}
use Rattle.graph.proofs.put_way.Goals as goal

pub loop-place-init : goal.loop-place-init
loop-place-init c = lay_start _ _ _ _ _ _

pub loop-place-preserved : goal.loop-place-preserved
loop-place-preserved c =
    let a = c.args in
    let at = c.loop-place in
    let e = c.lowest-at.ensures ∙ ap lowest (ap₂ bit_and c.links_at.ensures c.near-nearer.ensures) in
    lay_step a.links.now a.room a.goal a.from a.count a.out.now at.out at.at at.place c.lowest-at.result
    c.requires.2 c.loop-place-test.true e at.invariant

pub returns : goal.returns
returns c =
    let a = c.args in
    let at = c.loop-place in
    lay_end a.links.now a.room a.goal a.from a.count a.out.now at.out at.at at.place
    c.requires.2 (omega arith) at.invariant
