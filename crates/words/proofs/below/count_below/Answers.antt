use Prim.Native.Nat.{◌+◌}
use mathlib.Core.Path.{◌≡◌, refl, sym, ap, ◌∙◌}
use native.Mathlib.Omega.{arith}
use Rattle.rules.specs.Words.{count_below}
use Rattle.rules.proofs.Counts.{count_yes, count_no}
use Rattle.words.proofs.below.count_below.Goals as goal
use Rattle.words.proofs.below.count_below.Goals.{then-passes, else-passes}

pub loop-i-init : goal.loop-i-init
unfolding count_below
loop-i-init g c = (omega arith, λ p h. refl)

pub loop-i-preserved : goal.loop-i-preserved
loop-i-preserved g c =
    let i = c.loop-i.i in
    elim c.if-passes.branch [
      | then-passes w ↦ (
        omega (arith, c.loop-i.invariant.0, w.count-is),
        λ p h. w.count-is ∙ ap (λ n. n + 1) (c.loop-i.invariant.1 p h) ∙ sym (count_yes i p (sym (h i _ c.loop-i-test.true w.if-passes.ensures))),
      )
      | else-passes w ↦ (
        omega (arith, c.loop-i.invariant.0, w.count-is),
        λ p h. w.count-is ∙ c.loop-i.invariant.1 p h ∙ sym (count_no i p (sym (h i _ c.loop-i-test.true w.if-passes.ensures))),
      )
    ]

pub returns : goal.returns
returns g c = λ p h.
    c.loop-i.invariant.1 p h ∙ ap (λ n. count_below n p) (let e : c.loop-i.i ≡ c.args.n = omega arith in e)
