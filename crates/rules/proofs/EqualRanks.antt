-- The test of the ranks says what GoodRanks says, and laws of those who wait on an item.
use Prim.Native.Nat.{ℕ, ◌≤◌, ◌<◌}
use mathlib.Core.Path.{◌≡◌, refl, sym, subst}
use mathlib.Core.Logic.{◌≢◌}
use mathlib.Core.Bool.{Bool, true, false, ◌&&◌, not}
use mathlib.Core.List.{List}
use lib.ListN.{length}
use borrow.Author.Tests.{ltb-true, ltb-false}
use lib.Dec.{T, eqb, leb, ltb, eqb→eq, leb→le, le→leb, ltb→lt, lt→ltb}
use Rattle.names.specs.declared.Sizes.{Sizes}
use Rattle.rules.specs.Words.{implies, every_below}
use Rattle.rules.specs.Tables.{Txn, txn, txn_words, lock, holds_shared, no_lock}
use Rattle.rules.specs.Waits.{awaits, awaits_on, waiters_on}
use Rattle.rules.specs.Good.{GoodRanks}
use Rattle.rules.specs.Tested.{rank_within, ranks_apart, ranks_good}
use Rattle.rules.proofs.Tests.{and_left, and_right, and_both, implies_use, implies_make, ne_make, ne_use, eq_make, not_make, not_use}
use Rattle.rules.proofs.Counts.{every_below→, →every_below}
use Rattle.rules.proofs.Views.{beyond}

-- ---- who awaits
pub awaits→ : (r : Txn) → T (awaits r) → r.awaited_lock ≢ no_lock
unfolding awaits
awaits→ r h = ne_use r.awaited_lock no_lock h

pub →awaits : (r : Txn) → r.awaited_lock ≢ no_lock → T (awaits r)
unfolding awaits
→awaits r d = ne_make r.awaited_lock no_lock d

pub awaits_on→ : (x : ℕ) (r : Txn) → T (awaits_on x r) → T (awaits r) × (r.awaited_item ≡ x)
unfolding awaits_on
awaits_on→ x r h = (and_left (awaits r) _ h, eqb→eq r.awaited_item x (and_right (awaits r) _ h))

pub →awaits_on : (x : ℕ) (r : Txn) → T (awaits r) → r.awaited_item ≡ x → T (awaits_on x r)
unfolding awaits_on
→awaits_on x r h e = and_both (awaits r) _ h (eq_make r.awaited_item x e)

-- who awaits something is a slot: past the rows there is nothing
pub waiter_inside : (S : Sizes) (t : List ℕ) → length t ≡ txn_words S → (a : ℕ) → (txn t a).awaited_lock ≢ no_lock → a < S.slots
waiter_inside S t size a w = go (ltb a S.slots) refl
  where
    go : (c : Bool) → ltb a S.slots ≡ c → a < S.slots
    go true e = ltb-true a S.slots e
    go false e = absurd (w (beyond S t size a (ltb-false a S.slots e)))

-- ---- the test and the clauses
module _ (S : Sizes) (t l : List ℕ) where
  pub ranks→Good : T (ranks_good S t l) → GoodRanks S t l
  unfolding ranks_good rank_within ranks_apart
  ranks→Good h =
      record {
        least = λ s i w. leb→le 1 (txn t s).rank (and_left (leb 1 (txn t s).rank) _ (implies_use (awaits (txn t s)) _ (within s i) w));
        most = λ s i w. leb→le (txn t s).rank (waiters_on S t (txn t s).awaited_item) (and_right (leb 1 (txn t s).rank) _ (implies_use (awaits (txn t s)) _ (within s i) w));
        apart = λ x r s i j d a b. ne_use (txn t r).rank (txn t s).rank (and_left (not (eqb (txn t r).rank (txn t s).rank)) _ (both x r s i j d a b));
        exchangers = λ x r s i j a b c n.
            ltb→lt (txn t r).rank (txn t s).rank
            (implies_use (holds_shared (lock l (txn t r).awaited_item) r && not (holds_shared (lock l (txn t r).awaited_item) s)) _
            (and_right (not (eqb (txn t r).rank (txn t s).rank)) _ (both x r s i j (λ e. n (subst (λ (m : ℕ). T (holds_shared (lock l x) m)) e c)) a b))
            (and_both (holds_shared (lock l (txn t r).awaited_item) r) _
            (subst (λ (y : ℕ). T (holds_shared (lock l y) r)) (sym (awaits_on→ x (txn t r) a).1) c)
            (not_make (holds_shared (lock l (txn t r).awaited_item) s) (λ q. n (subst (λ (y : ℕ). T (holds_shared (lock l y) s)) (awaits_on→ x (txn t r) a).1 q)))));
      }
    where
      within : (s : ℕ) → s < S.slots → T (implies (awaits (txn t s)) (leb 1 (txn t s).rank && leb (txn t s).rank (waiters_on S t (txn t s).awaited_item)))
      within s i = and_left (rank_within S t s) _ (every_below→ S.slots (λ s. rank_within S t s && every_below S.slots (λ r. implies (not (eqb r s)) (ranks_apart t l r s))) h s i)

      both :
          (x r s : ℕ) → r < S.slots → s < S.slots → r ≢ s → T (awaits_on x (txn t r)) → T (awaits_on x (txn t s))
          → T (not (eqb (txn t r).rank (txn t s).rank)
          && implies (holds_shared (lock l (txn t r).awaited_item) r && not (holds_shared (lock l (txn t r).awaited_item) s)) (ltb (txn t r).rank (txn t s).rank))
      both x r s i j d a b =
          let w = awaits_on→ x (txn t r) a in
          implies_use (awaits (txn t r) && awaits_on (txn t r).awaited_item (txn t s)) _
          (implies_use (not (eqb r s)) _
          (every_below→ S.slots (λ r. implies (not (eqb r s)) (ranks_apart t l r s))
          (and_right (rank_within S t s) _ (every_below→ S.slots (λ s. rank_within S t s && every_below S.slots (λ r. implies (not (eqb r s)) (ranks_apart t l r s))) h s j))
          r i) (ne_make r s d))
          (and_both (awaits (txn t r)) _ w.0 (subst (λ (y : ℕ). T (awaits_on y (txn t s))) (sym w.1) b))

  pub Good→ranks : GoodRanks S t l → T (ranks_good S t l)
  unfolding ranks_good rank_within ranks_apart
  Good→ranks g =
      →every_below S.slots (λ s. rank_within S t s && every_below S.slots (λ r. implies (not (eqb r s)) (ranks_apart t l r s)))
      (λ s j.
      and_both (rank_within S t s) _
      (implies_make (awaits (txn t s)) _ (λ w. and_both (leb 1 (txn t s).rank) _ (le→leb 1 (txn t s).rank (g.least s j w)) (le→leb (txn t s).rank (waiters_on S t (txn t s).awaited_item) (g.most s j w))))
      (→every_below S.slots (λ r. implies (not (eqb r s)) (ranks_apart t l r s))
      (λ r i. implies_make (not (eqb r s)) _ (λ d. pair r s i j (ne_use r s d)))))
    where
      pair : (r s : ℕ) → r < S.slots → s < S.slots → r ≢ s → T (ranks_apart t l r s)
      pair r s i j d =
          implies_make (awaits (txn t r) && awaits_on (txn t r).awaited_item (txn t s)) _
          (λ w.
          let x = (txn t r).awaited_item in
          let a = →awaits_on x (txn t r) (and_left (awaits (txn t r)) _ w) (let e : x ≡ x = λ i. x in e) in
          let b = and_right (awaits (txn t r)) _ w in
          and_both (not (eqb (txn t r).rank (txn t s).rank)) _
          (ne_make (txn t r).rank (txn t s).rank (g.apart x r s i j d a b))
          (implies_make (holds_shared (lock l x) r && not (holds_shared (lock l x) s)) _
          (λ q. lt→ltb (txn t r).rank (txn t s).rank
          (g.exchangers x r s i j a b (and_left (holds_shared (lock l x) r) _ q) (not_use (holds_shared (lock l x) s) (and_right (holds_shared (lock l x) r) _ q))))))
