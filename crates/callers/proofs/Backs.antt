-- Who is held back, by the one whom the lock names.
use Prim.Native.Nat.{ℕ, suc, ◌<◌}
use mathlib.Core.Path.{◌≡◌, sym, subst}
use mathlib.Core.Logic.{◌≢◌}
use mathlib.Core.Bool.{Bool, false, not}
use mathlib.Core.List.{List}
use native.Mathlib.Omega.{arith}
use lib.Dec.{T, eqb, leb, eqb→eq}
use Rattle.names.specs.Sizes.{base}
use Rattle.rules.specs.Words.{some_below}
use Rattle.rules.specs.Tables.{txn, live_settled, lock, holds_exclusive}
use Rattle.rules.specs.Step.{holds_back, held_back}
use Rattle.rules.proofs.Tests.{and_left, and_right, and_both, is_false, eq_make, ne_make, ne_use, iff_eq}
use Rattle.rules.proofs.Counts.{some_below→, →some_below}

module _ (t l : List ℕ) (x s : ℕ) where
  abbrev test : ℕ → Bool
  test b = holds_back t l x s b

  -- what the test says of slot b
  says : (b : ℕ) → T (holds_back t l x s b)
      → (s ≢ b) × ((lock l x).exclusive ≡ suc b) × T (live_settled (txn t b)) × T (leb (txn t b).start (txn t s).start)
  unfolding holds_back holds_exclusive
  says b h =
      let k = and_right (not (eqb s b)) _ h in
      let m = and_right (eqb (lock l x).exclusive (suc b)) _ k in (
        ne_use s b (and_left (not (eqb s b)) _ h),
        eqb→eq (lock l x).exclusive (suc b) (and_left (eqb (lock l x).exclusive (suc b)) _ k),
        and_left (live_settled (txn t b)) _ m,
        and_right (live_settled (txn t b)) _ m,
      )

  pub back_none : ((b : ℕ) → b < base.slots → s ≢ b → (lock l x).exclusive ≡ suc b → T (live_settled (txn t b)) → ⊥) → false ≡ held_back base t l x s
  unfolding held_back
  back_none d =
      sym (is_false (some_below base.slots (holds_back t l x s)) (λ h.
      let w = some_below→ base.slots (holds_back t l x s) h in
      let k = says w.0 w.2 in
      d w.0 w.1 k.0 k.1 k.2))

  pub back_one :
      (b : ℕ) → b < base.slots → s ≢ b → (lock l x).exclusive ≡ suc b → T (live_settled (txn t b))
      → leb (txn t b).start (txn t s).start ≡ held_back base t l x s
  unfolding held_back holds_back holds_exclusive
  back_one b i d e k =
      iff_eq (leb (txn t b).start (txn t s).start) (some_below base.slots (holds_back t l x s))
      (λ h.
      →some_below base.slots (holds_back t l x s) b i
      (and_both (not (eqb s b)) _ (ne_make s b d) (and_both (eqb (lock l x).exclusive (suc b)) _ (eq_make (lock l x).exclusive (suc b) e) (and_both (live_settled (txn t b)) _ k h))))
      (λ h.
      let w = some_below→ base.slots (holds_back t l x s) h in
      let m = says w.0 w.2 in
      subst (λ (n : ℕ). T (leb (txn t n).start (txn t s).start)) (let z = m.1 in let q : w.0 ≡ b = omega arith in q) m.3)
