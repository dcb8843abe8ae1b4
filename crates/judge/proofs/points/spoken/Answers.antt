-- Point by point.
use mathlib.Core.Path.{sym, ◌∙◌}
use native.Mathlib.Omega.{arith}
use Rattle.judge.proofs.Speaking.{stand, stand_not, short, unequal, left_over_lem, whole, whole-wrong}
use Rattle.judge.proofs.points.spoken.Goals as goal

pub returns-then-not-calls_stand : goal.returns-then-not-calls_stand
returns-then-not-calls_stand c =
    let a = c.args in
    let h = stand_not a.size a.n (sym c.calls_stand.ensures ∙ c.if-not-calls_stand.true) in
    sym (short a.size a.n a.m a.wrong (omega arith))

pub overflow_sub-rest : goal.overflow_sub-rest
overflow_sub-rest c = omega (arith, (stand c.args.size c.args.n (sym c.calls_stand.ensures ∙ c.if-not-calls_stand.false)))

pub overflow_mul-rest : goal.overflow_mul-rest
overflow_mul-rest c = omega (arith, (stand c.args.size c.args.n (sym c.calls_stand.ensures ∙ c.if-not-calls_stand.false)), c.ranges.size)

pub overflow_sub-rest-2 : goal.overflow_sub-rest-2
overflow_sub-rest-2 c = omega (arith, (stand c.args.size c.args.n (sym c.calls_stand.ensures ∙ c.if-not-calls_stand.false)))

pub returns-then-rest-m : goal.returns-then-rest-m
returns-then-rest-m c =
    let a = c.args in
    let h = (stand c.args.size c.args.n (sym c.calls_stand.ensures ∙ c.if-not-calls_stand.false)) in
    let k = c.if-rest-m.true in
    sym (short a.size a.n a.m a.wrong (omega arith))

pub returns-then-n-m : goal.returns-then-n-m
returns-then-n-m c =
    let a = c.args in
    let h = (stand c.args.size c.args.n (sym c.calls_stand.ensures ∙ c.if-not-calls_stand.false)) in
    let k = c.if-rest-m.false in
    sym (unequal a.size a.n a.m a.wrong (omega arith) c.if-n-m.true)

pub returns-then-m-rest : goal.returns-then-m-rest
returns-then-m-rest c =
    let a = c.args in
    let h = (stand c.args.size c.args.n (sym c.calls_stand.ensures ∙ c.if-not-calls_stand.false)) in
    let k = c.if-m-rest.true in
    sym (left_over_lem a.size a.n a.m a.wrong (omega arith) c.if-n-m.false)

pub returns-then-wrong-eq0 : goal.returns-then-wrong-eq0
returns-then-wrong-eq0 c =
    let a = c.args in
    let h = (stand c.args.size c.args.n (sym c.calls_stand.ensures ∙ c.if-not-calls_stand.false)) in
    let k = c.if-m-rest.false in
    let g = c.if-rest-m.false in
    sym (whole a.size a.n a.m a.wrong (omega arith) c.if-n-m.false c.if-wrong-eq0.true)

pub returns : goal.returns
returns c =
    let a = c.args in
    let h = (stand c.args.size c.args.n (sym c.calls_stand.ensures ∙ c.if-not-calls_stand.false)) in
    let k = c.if-m-rest.false in
    let g = c.if-rest-m.false in
    sym (whole-wrong a.size a.n a.m a.wrong (omega arith) c.if-n-m.false c.if-wrong-eq0.false)
