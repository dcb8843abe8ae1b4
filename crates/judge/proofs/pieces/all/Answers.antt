use mathlib.Core.Path.{refl}
use native.Mathlib.Omega.{arith}
use Rattle.judge.proofs.Turns.{none_yet, one_further, all_seen}
use Rattle.judge.proofs.pieces.all.Goals as goal

pub loop-k-init : goal.loop-k-init
loop-k-init c = (none_yet _ _ _ _ _ _, refl, refl, refl)

pub loop-k-preserved : goal.loop-k-preserved
loop-k-preserved c =
    let l = c.loop-k in
    let a = c.args in
    (one_further a.calls.now a.answers.now a.from a.to a.count _ l.k _ _ _ _ c.loop-k-test.true c.call-fields.ensures c.answer-answer.ensures c.one-kept.ensures l.invariant.0, omega arith, omega arith, omega arith)

pub shape_of-txns : goal.shape_of-txns
shape_of-txns c = c.loop-k.invariant.1

pub shape_of-locks : goal.shape_of-locks
shape_of-locks c = c.loop-k.invariant.2

pub shape_of-versions : goal.shape_of-versions
shape_of-versions c = c.loop-k.invariant.3

pub returns : goal.returns
returns c =
    let a = c.args in
    all_seen a.calls.now a.answers.now a.from a.to a.count _ c.loop-k.k _ c.loop-k-test.false c.loop-k.invariant.0
