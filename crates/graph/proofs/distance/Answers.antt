use Prim.Native.Nat.{ℕ}
use mathlib.Core.Path.{◌≡◌, sym, ap, ◌∙◌, subst}
use mathlib.Core.Logic.{inl, inr}
use native.Mathlib.Omega.{arith}
use borrow.Author.Count.{below_more}
use borrow.Author.Tests.{eq-eqb, ne_eqb}
use lib.ListN.{length}
use lib.Dec.{T}
use Rattle.rules.specs.Words.{bit}
use Rattle.rules.proofs.Tests.{true_is, false_is}
use Rattle.words.proofs.SlotWords.{shifted}
use Rattle.graph.specs.Near.{grown, near, distance}
use Rattle.graph.proofs.Sets.{first_is_lem}
use Rattle.graph.proofs.Ways.{near-more}
use Rattle.graph.proofs.distance.Goals as goal

pub loop-turn-init : goal.loop-turn-init
unfolding near
loop-turn-init c = (shifted c.args.goal (omega arith), λ k l. absurd (omega arith))

pub returns-then-set-from-eq1 : goal.returns-then-set-from-eq1
unfolding distance bit
returns-then-set-from-eq1 c =
    let a = c.args in
    let at = c.loop-turn in
    let t : T (bit at.set a.from) = true_is (eq-eqb _ _ c.if-set-from-eq1.true) in
    first_is_lem (λ k. bit (near a.links.now a.room a.goal k) a.from) (length a.links.now) at.turn (omega arith) at.invariant.1
    (inr (subst (λ (m : ℕ). T (bit m a.from)) at.invariant.0 t))

pub loop-turn-preserved : goal.loop-turn-preserved
unfolding bit
loop-turn-preserved c =
    let a = c.args in
    let at = c.loop-turn in
    let off : T (bit (near a.links.now a.room a.goal at.turn) a.from) → ⊥ = λ t. false_is (ne_eqb _ _ c.if-set-from-eq1.false) (subst (λ (m : ℕ). T (bit m a.from)) (sym at.invariant.0) t) in (
      c.grown-set.ensures ∙ ap (grown a.links.now a.room) at.invariant.0 ∙ sym (near-more a.links.now a.room a.goal at.turn),
      below_more (λ (k : ℕ). T (bit (near a.links.now a.room a.goal k) a.from) → ⊥) at.turn at.invariant.1 off,
    )

pub returns : goal.returns
unfolding distance
returns c =
    let a = c.args in
    let at = c.loop-turn in
    let e : length a.links.now ≡ at.turn = omega arith in
    e ∙ first_is_lem (λ k. bit (near a.links.now a.room a.goal k) a.from) (length a.links.now) at.turn (omega arith) at.invariant.1
    (inl (sym e))
