use mathlib.Core.Path.{◌≡◌, refl, sym, ap, ap₂, ◌∙◌}
use mathlib.Core.Bool.{Bool, ◌&&◌}
use native.Mathlib.Omega.{arith}
use Rattle.rules.specs.Words.{every_below}
use Rattle.words.proofs.Turns.{every_more}
use Rattle.words.proofs.below.every_below.Goals as goal

pub loop-i-init : goal.loop-i-init
unfolding every_below
loop-i-init g c = λ p h. refl

pub loop-i-preserved : goal.loop-i-preserved
loop-i-preserved g c = λ p h.
    ap₂ (λ (x y : Bool). x && y) (h c.loop-i.i c.passes-every.result c.loop-i-test.true c.passes-every.ensures) (c.loop-i.invariant p h) ∙ sym (every_more p c.loop-i.i)

pub returns : goal.returns
returns g c = λ p h.
    c.loop-i.invariant p h ∙ ap (λ n. every_below n p) (let e : c.loop-i.i ≡ c.args.n = omega arith in e)
