use Prim.Native.Nat.{◌-◌}
use mathlib.Core.Path.{◌≡◌, sym, ap, ◌∙◌}
use native.Mathlib.Omega.{arith}
use Rattle.rules.specs.Words.{first_from}
use Rattle.words.specs.Below.{found_below}
use Rattle.words.proofs.Searches.{first_here, first_next, first_end, found_here, found_none}
use Rattle.words.proofs.below.first_below.Goals as goal

pub loop-i-init : goal.loop-i-init
loop-i-init g c = λ p h. ap (first_from p 0) (let e : c.args.n ≡ c.args.n - 0 = omega arith in e)

pub returns-then-passes : goal.returns-then-passes
returns-then-passes g c = λ p h.
    let i = c.loop-i.i in
    let n = c.args.n in
    found_here n i c.loop-i-test.true
    ∙ ap (found_below n) (sym (first_here p i n c.loop-i-test.true (sym (h i _ c.loop-i-test.true c.if-passes.ensures))) ∙ sym (c.loop-i.invariant p h))

pub loop-i-preserved : goal.loop-i-preserved
loop-i-preserved g c = λ p h.
    let i = c.loop-i.i in
    c.loop-i.invariant p h ∙ first_next p i c.args.n c.loop-i-test.true (sym (h i _ c.loop-i-test.true c.if-passes.ensures))

pub returns : goal.returns
returns g c = λ p h.
    let i = c.loop-i.i in
    let n = c.args.n in
    found_none n (first_from p 0 n)
    (let e : i ≡ n = omega arith in
    sym (c.loop-i.invariant p h ∙ first_end p i n (omega arith) ∙ e))
