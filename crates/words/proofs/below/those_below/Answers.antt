use mathlib.Core.Path.{◌≡◌, refl, sym, ap, ◌∙◌}
use native.Mathlib.Omega.{arith}
use lib.Bits.{bit_or}
use Rattle.rules.specs.Words.{slots_that}
use Rattle.words.proofs.Slots.{slots_yes, slots_no}
use Rattle.words.proofs.SlotWords.{one_shifted}
use Rattle.words.proofs.below.those_below.Goals as goal
use Rattle.words.proofs.below.those_below.Goals.{then-passes, else-passes}

pub loop-i-init : goal.loop-i-init
unfolding slots_that
loop-i-init g c = λ p h. refl

pub loop-i-preserved : goal.loop-i-preserved
loop-i-preserved g c =
    let i = c.loop-i.i in
    elim c.if-passes.branch [
      | then-passes w ↦ (λ p h.
          w.those-is ∙ ap (λ m. bit_or m (one_shifted i)) (c.loop-i.invariant p h)
          ∙ slots_yes i p (omega (arith, c.loop-i-test.true, c.requires.fits)) (sym (h i _ c.loop-i-test.true w.if-passes.ensures)))
      | else-passes w ↦ (λ p h.
          w.those-is ∙ c.loop-i.invariant p h ∙ slots_no i p (sym (h i _ c.loop-i-test.true w.if-passes.ensures)))
    ]

pub returns : goal.returns
returns g c = λ p h.
    c.loop-i.invariant p h ∙ ap (λ n. slots_that n p) (let e : c.loop-i.i ≡ c.args.n = omega arith in e)
