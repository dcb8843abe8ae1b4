-- The code of every answer: that of the first refusal, in the document's order, whose condition holds, or 0.
use Prim.Native.Nat.{ℕ}
use mathlib.Core.Path.{◌≡◌, refl, sym, ap, ◌∙◌, subst}
use mathlib.Core.Logic.{inl, inr}
use mathlib.Core.Bool.{Bool, true, false}
use mathlib.Core.List.{List, [], ◌∷◌}
use lib.ListN.{get_or}
use Rattle.names.specs.declared.Sizes.{Sizes}
use Rattle.rules.specs.Tables.{Tables}
use Rattle.rules.specs.Good.{Good}
use Rattle.rules.specs.Tested.{good}
use Rattle.rules.specs.Answers.{Call, code, Refusal, Outcome}
use Rattle.rules.specs.Answers.{Wait, Deadlock, UnknownTransaction, UnknownItem, QueryMayNotWrite, StillWaiting, NoSlot, NumbersSpent, ClockSpent, BadTables, QuotaSpent, PastWriting, KeptApart}
use Rattle.rules.specs.Step.{step, act}
use Rattle.rules.specs.Conditions.{When, order, Answered}
use Rattle.rules.specs.Promises.{CodeExactly}
use Rattle.rules.proofs.Tests.{true_is, false_is}
use Rattle.rules.proofs.Equal.{good→Good, Good→good}
use Rattle.rules.proofs.Steps.{step-good, step-bad}
use Rattle.rules.proofs.Ways.{refusal-code}
use Rattle.rules.proofs.Judged.{goes}

-- ---- the first whose condition holds is one
pub answered_once :
    (S : Sizes) (c : Call) (G : Tables) (rs : List Refusal) (j k : ℕ) → Answered S c G rs j → Answered S c G rs k → j ≡ k
unfolding Answered
answered_once S c G [] j k p q = p ∙ sym q
answered_once S c G (r ∷ rs) j k (inl p) (inl q) = p.1 ∙ sym q.1
answered_once S c G (r ∷ rs) j k (inl p) (inr q) = absurd (q.0 p.0)
answered_once S c G (r ∷ rs) j k (inr p) (inl q) = absurd (p.0 q.0)
answered_once S c G (r ∷ rs) j k (inr p) (inr q) = answered_once S c G rs j k p.1 q.1

-- ---- each refusal has a code of its own: they stand in the order of their codes behind a first that is none
by_code : List Refusal
by_code =
    Wait ∷ Wait ∷ Deadlock ∷ UnknownTransaction ∷ UnknownItem ∷ QueryMayNotWrite ∷ StillWaiting ∷ NoSlot ∷ NumbersSpent ∷ ClockSpent ∷ BadTables ∷ QuotaSpent ∷ PastWriting ∷ KeptApart ∷ []

of_code : (r : Refusal) → get_or by_code (code r) Wait ≡ r
unfolding by_code
of_code Wait = refl
of_code Deadlock = refl
of_code UnknownTransaction = refl
of_code UnknownItem = refl
of_code QueryMayNotWrite = refl
of_code StillWaiting = refl
of_code NoSlot = refl
of_code NumbersSpent = refl
of_code ClockSpent = refl
of_code BadTables = refl
of_code QuotaSpent = refl
of_code PastWriting = refl
of_code KeptApart = refl

one_code : (r p : Refusal) → code r ≡ code p → r ≡ p
one_code r p e = sym (of_code r) ∙ ap (λ (k : ℕ). get_or by_code k Wait) e ∙ of_code p

-- so what is answered a refusal's code has its condition
pub answered_when :
    (S : Sizes) (c : Call) (G : Tables) (r : Refusal) (rs : List Refusal) (k : ℕ) → Answered S c G rs k → k ≡ code r → When S c G r
unfolding Answered
answered_when S c G r [] k p e = absurd (refusal-code r (sym e ∙ p))
answered_when S c G r (q ∷ rs) k (inl p) e = subst (When S c G) (one_code q r (sym p.1 ∙ e)) p.0
answered_when S c G r (q ∷ rs) k (inr p) e = answered_when S c G r rs k p.1 e

-- bad tables: the first of every list
on_bad : (S : Sizes) (c : Call) (G : Tables) → (Good S G → ⊥) → Answered S c G (order c) (code BadTables)
unfolding order Answered When
on_bad S c G b = inl (b, refl)

-- ---- "What comes back"
pub answered : (S : Sizes) (c : Call) (G : Tables) → Answered S c G (order c) (step S c G).answer.code
unfolding act
answered S c G = go (good S G) refl
  where
    go : (z : Bool) → good S G ≡ z → Answered S c G (order c) (step S c G).answer.code
    go true e = subst (λ (o : Outcome). Answered S c G (order c) o.answer.code) (sym (step-good S c G e)) (goes S G (good→Good S G (true_is e)) c).1
    go false e =
        subst (λ (o : Outcome). Answered S c G (order c) o.answer.code) (sym (step-bad S c G e)) (on_bad S c G (λ g. false_is e (Good→good S G g)))

pub code_exactly : (S : Sizes) → CodeExactly S
code_exactly S c G k = (
  λ e. subst (Answered S c G (order c)) e (answered S c G),
  λ h. answered_once S c G (order c) (step S c G).answer.code k (answered S c G) h,
)
