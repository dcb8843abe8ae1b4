use mathlib.Core.Path.{◌≡◌, refl, sym, ap, ap₂, ◌∙◌}
use mathlib.Core.Bool.{Bool, ◌||◌}
use native.Mathlib.Omega.{arith}
use Rattle.rules.specs.Words.{some_below}
use Rattle.words.proofs.Turns.{some_more}
use Rattle.words.proofs.below.some_below.Goals as goal

pub loop-i-init : goal.loop-i-init
unfolding some_below
loop-i-init g c = λ p h. refl

pub loop-i-preserved : goal.loop-i-preserved
loop-i-preserved g c = λ p h.
    ap₂ (λ (x y : Bool). x || y) (h c.loop-i.i c.passes-some.result c.loop-i-test.true c.passes-some.ensures) (c.loop-i.invariant p h) ∙ sym (some_more p c.loop-i.i)

pub returns : goal.returns
returns g c = λ p h.
    c.loop-i.invariant p h ∙ ap (λ n. some_below n p) (let e : c.loop-i.i ≡ c.args.n = omega arith in e)
