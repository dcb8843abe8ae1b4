use Prim.Native.Nat.{◌-◌}
use native.Mathlib.Omega.{arith}
use Rattle.std.proofs.Common.{rules}
use Rattle.names.specs.Sizes.{base}
use Rattle.circles.proofs.Peeling.{all_kept, nothing_left, something_left}
use Rattle.circles.proofs.no_circle.Goals as goal

pub loop-left-init : goal.loop-left-init
loop-left-init c = (c.requires.1.small, all_kept c.args.waits.now c.args.waiting c.requires.1)

pub peel_all-rest-requires-clause-all : goal.peel_all-rest-requires-clause-all
peel_all-rest-requires-clause-all c = λ slot l. (slot, l, search rules)

pub returns-then-rest-eq0 : goal.returns-then-rest-eq0
returns-then-rest-eq0 c =
    let up = c.peel_all-rest in
    let kept = up.ensures.keeps c.loop-left.invariant.1 in
    nothing_left c.args.waits.now up.result kept c.if-rest-eq0.true

pub returns-then-rest-left : goal.returns-then-rest-left
returns-then-rest-left c =
    let at = c.loop-left in
    let some = c.loop-left-test.true in
    let stuck = c.peel_all-rest.ensures.stuck c.if-rest-left.true in
    something_left c.args.waits.now at.left at.invariant.0 some stuck

pub peel_all-left-requires-clause-all : goal.peel_all-left-requires-clause-all
peel_all-left-requires-clause-all c = λ slot l. (base.slots - 1 - slot, omega arith, search rules)

pub loop-left-smaller : goal.loop-left-smaller
loop-left-smaller c =
    let up = c.peel_all-rest.ensures.less in
    let down = c.peel_all-left.ensures.less in
    let fewer = c.if-rest-left.false in
    omega arith

pub loop-left-preserved : goal.loop-left-preserved
loop-left-preserved c =
    let up = c.peel_all-rest.ensures in
    let down = c.peel_all-left.ensures in
    (omega (arith, up.less, down.less), down.keeps (up.keeps c.loop-left.invariant.1))

pub returns : goal.returns
returns c = nothing_left c.args.waits.now c.loop-left.left c.loop-left.invariant.1 (omega arith)
