-- The pass that looks the marks up: each slot is placed exactly if the ranks are good.
use Prim.Native.Nat.{ℕ, suc, ◌+◌, ◌-◌, ◌*◌, ◌/◌, ◌%◌, ◌^◌, ◌≤◌, ◌<◌}
use mathlib.Core.Path.{◌≡◌, refl, sym, ap, ◌∙◌, subst}
use mathlib.Core.Logic.{◌≢◌, ◌⊎◌, inl, inr, ⊎_elim}
use mathlib.Core.Bool.{Bool, true, false, ◌&&◌, ◌||◌}
use mathlib.Core.List.{List}
use native.Mathlib.Omega.{arith}
use native.Mathlib.Nat.{mod-lt, zero-mul, div-eq_of_lt}
use lib.ListN.{get_or}
use lib.Pow.{pow_pos, split}
use lib.Dec.{T, eqb, eqb→eq}
use Rattle.names.specs.Sizes.{base}
use Rattle.rules.specs.Words.{bit, implies, every_below, count_below}
use Rattle.rules.specs.Tables.{txn, Lock, lock, holds_shared, no_lock}
use Rattle.rules.specs.Waits.{awaits, awaits_on, waiters_on}
use Rattle.rules.specs.Good.{GoodRanks}
use Rattle.rules.specs.Tested.{ranks_good}
use Rattle.rules.proofs.Tests.{and_left, and_right, and_both, or_cases, or_left, or_right, eq_make, is_true, true_is, false_is, same?, implies_use, implies_make, iff_eq}
use Rattle.rules.proofs.Counts.{some_below→, →some_below, every_below→, →every_below}
use Rattle.rules.proofs.Bits.{bit_below, below_bits}
use Rattle.rules.proofs.EqualRanks.{awaits→, →awaits, awaits_on→, →awaits_on, ranks→Good, Good→ranks}
use Rattle.rules.proofs.Ranked.{all_borne}
use Rattle.ranked.specs.Marks.{Known, sharing, marks, Marked, follows, placed}
use Rattle.ranked.proofs.Marking.{marks→, mark-rank, mark-shares}
use Rattle.ranked.proofs.Chain.{chain}

-- ---- the rank of who waits, as the code reads it
pub rank_within :
    {t l w : List ℕ} {s k p : ℕ} → Marked t l w base.slots → s < base.slots → k ≡ (txn t s).awaited_lock → k ≢ no_lock → p ≡ (txn t s).rank
    → (1 ≤ p) × (p ≤ base.slots)
rank_within {t} {l} {w} {s} m i e d f =
    let a = →awaits (txn t s) (λ z. d (e ∙ z)) in
    (subst (λ (p : ℕ). 1 ≤ p) (sym f) (m.least s i a), subst (λ (p : ℕ). p ≤ base.slots) (sym f) (m.most s i a))

-- ---- one slot, as the code tests it
pub placed_still : (t l w : List ℕ) (s : ℕ) → (txn t s).awaited_lock ≡ no_lock → true ≡ placed t l w s
unfolding placed
placed_still t l w s z = sym (is_true (placed t l w s) (implies_make (awaits (txn t s)) _ (λ a. absurd (awaits→ (txn t s) a z))))

pub placed-read :
    (t l w : List ℕ) (s : ℕ) → (txn t s).awaited_lock ≢ no_lock
    → {x p : ℕ} {h : Lock} {b f : Bool} → x ≡ (txn t s).awaited_item → p ≡ (txn t s).rank → h ≡ lock l x → b ≡ holds_shared h s
    → f ≡ follows (get_or w x 0) p → (f && (b || eqb (get_or w x 0 / 2 ^ (p - 1 + sharing)) 0)) ≡ placed t l w s
unfolding placed implies
placed-read t l w s a ex ep eh eb ef = rw (ef, eb, eh, ep, ex, is_true (awaits (txn t s)) (→awaits (txn t s) a))

-- ---- all slots
-- nothing is left above bit k
div_zero_lt : (v k : ℕ) → v / 2 ^ k ≡ 0 → v < 2 ^ k
div_zero_lt v k e =
    let s : v / 2 ^ k * 2 ^ k + v % 2 ^ k ≡ v = split v k in
    let z : v / 2 ^ k * 2 ^ k ≡ 0 = ap (λ (d : ℕ). d * 2 ^ k) e ∙ zero-mul (2 ^ k) in
    let l : v % 2 ^ k < 2 ^ k = mod-lt v (pow_pos k) in
    omega arith

module _ (t l w : List ℕ) (o : Known t l) (m : Marked t l w base.slots) where
  abbrev R : ℕ → ℕ
  R s = (txn t s).rank

  abbrev on : ℕ → ℕ → Bool
  on x s = awaits_on x (txn t s)

  -- a bit of an item's word, and who set it
  set_by : (x q : ℕ) → x < base.items → T (bit (get_or w x 0) q) → (s : ℕ) × (s < base.slots) × T (on x s) × ((R s ≡ suc q) ⊎ (T (holds_shared (lock l x) s) × (R s + sharing ≡ suc q)))
  set_by x q h b =
      let s = some_below→ base.slots (marks t l x (suc q)) (subst T (m.at x q h) b) in
      let u = marks→ t l x (suc q) s.0 s.2 in
      (s.0, s.1, u.0, u.1)

  sets : (x q s : ℕ) → x < base.items → s < base.slots → T (marks t l x (suc q) s) → T (bit (get_or w x 0) q)
  sets x q s h i u = subst T (sym (m.at x q h)) (→some_below base.slots (marks t l x (suc q)) s i u)

  item : (x s : ℕ) → s < base.slots → T (on x s) → x < base.items
  item x s i a =
      let v = awaits_on→ x (txn t s) a in
      subst (λ (y : ℕ). y < base.items) v.1 (o.item_known s i (awaits→ (txn t s) v.0))

  -- ---- all are placed
  module _ (h : T (every_below base.slots (placed t l w))) where
    at :
        (x s : ℕ) → s < base.slots → T (on x s)
        → T (follows (get_or w x 0) (R s) && (holds_shared (lock l x) s || eqb (get_or w x 0 / 2 ^ (R s - 1 + sharing)) 0))
    unfolding placed
    at x s i a =
        let v = awaits_on→ x (txn t s) a in
        subst (λ (x : ℕ). T (follows (get_or w x 0) (R s) && (holds_shared (lock l x) s || eqb (get_or w x 0 / 2 ^ (R s - 1 + sharing)) 0))) v.1
        (implies_use (awaits (txn t s)) _ (every_below→ base.slots (placed t l w) h s i) v.0)

    behind : (x s k : ℕ) → s < base.slots → T (on x s) → R s ≡ suc (suc k) → (r : ℕ) × (r < base.slots) × T (on x r) × (R r ≡ suc k)
    unfolding follows
    behind x s k i a e =
        ⊎_elim (λ u. let z : R s ≡ 1 = eqb→eq (R s) 1 u in absurd (omega arith)) (λ u. found (subst (λ (q : ℕ). T (bit (get_or w x 0) q)) p u))
        (or_cases (eqb (R s) 1) (bit (get_or w x 0) (R s - 2)) (and_left (follows (get_or w x 0) (R s)) _ (at x s i a)))
      where
        p : R s - 2 ≡ k
        p = omega arith

        found : T (bit (get_or w x 0) k) → (r : ℕ) × (r < base.slots) × T (on x r) × (R r ≡ suc k)
        found u =
            let r = set_by x k (item x s i a) u in (
              r.0,
              r.1,
              r.2,
              ⊎_elim (λ z. z)
                  (λ (v : T (holds_shared (lock l x) r.0) × (R r.0 + sharing ≡ suc k)). let j = v.1 in let b = m.most s i (awaits_on→ x (txn t s) a).0 in let k = m.least r.0 r.1 (awaits_on→ x (txn t r.0) r.2).0 in absurd (omega arith))
                  r.3,
            )

    all_good : GoodRanks base t l
    unfolding waiters_on
    all_good =
        record {
          least = m.least;
          most = λ s i a. chain base.slots (on (txn t s).awaited_item) R (λ r k j b. behind (txn t s).awaited_item r k j b) s i (→awaits_on (txn t s).awaited_item (txn t s) a refl);
          apart = m.apart;
          exchangers = λ x r s i j a b c d.
              let z : get_or w x 0 / 2 ^ (R s - 1 + sharing) ≡ 0 =
              ⊎_elim (λ u. absurd (d u)) (λ u. eqb→eq (get_or w x 0 / 2 ^ (R s - 1 + sharing)) 0 u)
              (or_cases (holds_shared (lock l x) s) _ (and_right (follows (get_or w x 0) (R s)) _ (at x s j b))) in
              let p = m.least r i (awaits_on→ x (txn t r) a).0 in
              let k =
              bit_below (get_or w x 0) (R r - 1 + sharing) (R s - 1 + sharing) (div_zero_lt (get_or w x 0) (R s - 1 + sharing) z)
              (sets x (R r - 1 + sharing) r (item x r i a) i (mark-shares t l x (suc (R r - 1 + sharing)) r a c (omega arith))) in
              omega arith;
        }

  -- ---- the ranks are good
  module _ (g : GoodRanks base t l) where
    one : (s : ℕ) → s < base.slots → T (placed t l w s)
    unfolding placed follows
    one s i = implies_make (awaits (txn t s)) _ (λ a. and_both (follows (get_or w x 0) (R s)) _ (before a (same? (R s) 1)) (last a (holds_shared (lock l x) s) refl))
      where
        x : ℕ
        x = (txn t s).awaited_item

        here : T (awaits (txn t s)) → T (on x s)
        here a = →awaits_on x (txn t s) a refl

        before : T (awaits (txn t s)) → (R s ≡ 1) ⊎ (R s ≢ 1) → T (eqb (R s) 1 || bit (get_or w x 0) (R s - 2))
        before a (inl e) = or_left (eqb (R s) 1) _ (eq_make (R s) 1 e)
        before a (inr d) =
            let p = g.least s i a in
            let most : R s ≤ count_below base.slots (on x) = (unfold waiters_on in (g.most s i a)) in
            let r = all_borne base.slots (on x) R (λ r j b. g.least r j (awaits_on→ x (txn t r) b).0) (λ r q j k n. g.apart x r q j k n)
            (λ r j b. subst (λ (y : ℕ). R r ≤ count_below base.slots (on y)) (awaits_on→ x (txn t r) b).1 (unfold waiters_on in (g.most r j (awaits_on→ x (txn t r) b).0))) (R s - 2) (omega arith) in
            or_right (eqb (R s) 1) _ (sets x (R s - 2) r.0 (item x s i (here a)) r.1 (mark-rank t l x (suc (R s - 2)) r.0 r.2 (let e = r.3 in omega arith)))

        last : T (awaits (txn t s)) → (b : Bool) → holds_shared (lock l x) s ≡ b → T (holds_shared (lock l x) s || eqb (get_or w x 0 / 2 ^ (R s - 1 + sharing)) 0)
        last a true e = or_left (holds_shared (lock l x) s) _ (true_is e)
        last a false e =
            or_right (holds_shared (lock l x) s) _
            (eq_make (get_or w x 0 / 2 ^ (R s - 1 + sharing)) 0 (div-eq_of_lt (below_bits (R s - 1 + sharing) (get_or w x 0) (λ q u. low q (set_by x q (item x s i (here a)) u)))))
          where
            low : (q : ℕ) → (r : ℕ) × (r < base.slots) × T (on x r) × ((R r ≡ suc q) ⊎ (T (holds_shared (lock l x) r) × (R r + sharing ≡ suc q))) → q < R s - 1 + sharing
            low q (r, j, b, inl z) = let k = m.most r j (awaits_on→ x (txn t r) b).0 in omega arith
            low q (r, j, b, inr v) = let k = g.exchangers x r s j i b (here a) v.0 (false_is e) in let z = v.1 in omega arith

  pub placed-good : every_below base.slots (placed t l w) ≡ ranks_good base t l
  placed-good =
      iff_eq (every_below base.slots (placed t l w)) (ranks_good base t l) (λ h. Good→ranks base t l (all_good h))
      (λ h. →every_below base.slots (placed t l w) (one (ranks→Good base t l h)))
