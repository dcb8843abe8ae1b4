-- Request E2: how many items a slot holds exclusively, and when one more is too many.
use Prim.Native.Nat.{ℕ, suc, ◌≤◌, ◌<◌}
use mathlib.Core.Path.{◌≡◌, sym, subst}
use mathlib.Core.Logic.{◌≢◌, ◌⊎◌, inl, inr}
use mathlib.Core.Bool.{true, false, ◌&&◌}
use mathlib.Core.List.{List}
use native.Mathlib.Omega.{arith}
use lib.Dec.{T, eqb, eqb→eq, leb→le, le→leb}
use Rattle.names.specs.declared.Sizes.{Sizes}
use Rattle.rules.specs.Tables.{with_rank, Tables, Txn, txn, no_txn, live, live_update, live_settled, may_hold, exclusive_lock, lock, holds, holds_shared, holds_exclusive, exclusives_of}
use Rattle.rules.specs.Good.{Good, GoodLock, GoodQuota}
use Rattle.rules.specs.Tested.{quota_most, full_idle, quota_good}
use Rattle.rules.specs.Step.{writes_further}
use Rattle.rules.proofs.Tests.{and_left, and_right, and_both, or_right, implies_use, implies_make, not_make, not_use, ne_make, ne_use, eq_make, is_true, is_false, true_is, false_is, same?}
use Rattle.rules.proofs.EqualRows.{update-holds}
use Rattle.rules.proofs.Counts.{count_fewer, count_one_more, count_none, count_zero, count_some}

-- ---- the test of one slot says what GoodQuota says
module _ (S : Sizes) (l : List ℕ) (s : ℕ) (r : Txn) where
  abbrev n : ℕ
  n = exclusives_of S l s

  pub quota→Good : T (quota_good S l s r) → GoodQuota S l s r
  unfolding quota_good quota_most full_idle
  quota→Good h =
      record {
        most = λ u. leb→le n S.quota (implies_use (may_hold r) _ (and_left (quota_most S n r) _ h) u);
        full_idle = λ u e. ne_use r.awaited_lock exclusive_lock
            (implies_use (may_hold r && eqb n S.quota) _ (and_right (quota_most S n r) _ h) (and_both (may_hold r) _ u (eq_make n S.quota e)));
      }

  pub Good→quota : GoodQuota S l s r → T (quota_good S l s r)
  unfolding quota_good quota_most full_idle
  Good→quota q =
      and_both (quota_most S n r) _
      (implies_make (may_hold r) _ (λ u. le→leb n S.quota (q.most u)))
      (implies_make (may_hold r && eqb n S.quota) _
      (λ h. ne_make r.awaited_lock exclusive_lock (q.full_idle (and_left (may_hold r) _ h) (eqb→eq n S.quota (and_right (may_hold r) _ h)))))

-- ---- how many are held
-- with no lock more, no more are held
pub exclusives_fewer :
    (S : Sizes) (l l' : List ℕ) (s : ℕ)
    → ((x : ℕ) → x < S.items → T (holds_exclusive (lock l' x) s) → T (holds_exclusive (lock l x) s))
    → exclusives_of S l' s ≤ exclusives_of S l s
unfolding exclusives_of
exclusives_fewer S l l' s f = count_fewer S.items _ _ f

-- with the lock of one item more, at most one more is held
pub exclusives_one_more :
    (S : Sizes) (l l' : List ℕ) (s y : ℕ)
    → ((x : ℕ) → x < S.items → x ≢ y → T (holds_exclusive (lock l' x) s) → T (holds_exclusive (lock l x) s))
    → exclusives_of S l' s ≤ suc (exclusives_of S l s)
unfolding exclusives_of
exclusives_one_more S l l' s y f = count_one_more S.items _ _ y f

-- who may not hold one holds none
pub exclusives_none :
    (S : Sizes) (t l : List ℕ) → ((x : ℕ) → x < S.items → GoodLock S t (lock l x))
    → (s : ℕ) → (T (may_hold (txn t s)) → ⊥) → exclusives_of S l s ≡ 0
unfolding exclusives_of
exclusives_none S t l g s d =
    count_none S.items _
    (λ x i h. d ((g x i).excluders s h).1)

-- none, and some
pub held_none : (S : Sizes) (l : List ℕ) (s : ℕ) → exclusives_of S l s ≡ 0 → (x : ℕ) → x < S.items → holds_exclusive (lock l x) s ≡ false
unfolding exclusives_of
held_none S l s e x b = is_false (holds_exclusive (lock l x) s) (count_zero S.items (λ y. holds_exclusive (lock l y) s) e x b)

pub held_some : (S : Sizes) (l : List ℕ) (s : ℕ) → exclusives_of S l s ≢ 0 → (x : ℕ) × (x < S.items) × T (holds_exclusive (lock l x) s)
unfolding exclusives_of
held_some S l s d = count_some S.items (λ y. holds_exclusive (lock l y) s) d

-- ---- the clauses carried to other tables
-- a free row
pub free_quota : (S : Sizes) (l : List ℕ) (s : ℕ) → GoodQuota S l s no_txn
unfolding live_update live_settled may_hold live
free_quota S l s = record { most = λ u. absurd u; full_idle = λ u. absurd u }

-- the same row, with no more held
pub quota_carried :
    (S : Sizes) (l l' : List ℕ) (s : ℕ) (r : Txn) → exclusives_of S l' s ≤ exclusives_of S l s → GoodQuota S l s r → GoodQuota S l' s r
quota_carried S l l' s r f q =
    record {
      most = λ u. let a = q.most u in omega arith;
      full_idle = λ u e. q.full_idle u (let a = q.most u in omega arith);
    }

-- the row of slot s becomes another, the others stay
pub quotas_but :
    (S : Sizes) (l t t' : List ℕ) (s : ℕ) → ((r : ℕ) → r ≢ s → txn t' r ≡ txn t r) → GoodQuota S l s (txn t' s)
    → ((r : ℕ) → r < S.slots → GoodQuota S l r (txn t r)) → (r : ℕ) → r < S.slots → GoodQuota S l r (txn t' r)
quotas_but S l t t' s there new old r i = go (same? r s)
  where
    go : (r ≡ s) ⊎ (r ≢ s) → GoodQuota S l r (txn t' r)
    go (inl e) = subst (λ (m : ℕ). GoodQuota S l m (txn t' m)) (sym e) new
    go (inr d) = subst (λ (w : Txn). GoodQuota S l r w) (sym (there r d)) (old r i)

-- the others stay but for their ranks
pub quotas_but_rank :
    (S : Sizes) (l t t' : List ℕ) (s : ℕ) (f : Txn → ℕ) → ((r : ℕ) → r < S.slots → r ≢ s → txn t' r ≡ with_rank (txn t r) (f (txn t r)))
    → GoodQuota S l s (txn t' s) → ((r : ℕ) → r < S.slots → GoodQuota S l r (txn t r)) → (r : ℕ) → r < S.slots → GoodQuota S l r (txn t' r)
unfolding live_update live_settled may_hold live
quotas_but_rank S l t t' s f there new old r i = go (same? r s)
  where
    go : (r ≡ s) ⊎ (r ≢ s) → GoodQuota S l r (txn t' r)
    go (inl e) = subst (λ (m : ℕ). GoodQuota S l m (txn t' m)) (sym e) new
    go (inr d) =
        subst (λ (w : Txn). GoodQuota S l r w) (sym (there r i d))
        (record { most = λ u. (old r i).most u; full_idle = λ u e. (old r i).full_idle u e })

-- ---- one more
module _ (S : Sizes) (l : List ℕ) (s x : ℕ) where
  -- who writes no further item than it may, holds this one or has room
  pub has_room : writes_further S l s x ≡ false → (T (holds_exclusive (lock l x) s) → ⊥) → exclusives_of S l s ≢ S.quota
  unfolding writes_further
  has_room e d q =
      false_is e (and_both (eqb (exclusives_of S l s) S.quota) _ (eq_make (exclusives_of S l s) S.quota q) (not_make (holds_exclusive (lock l x) s) d))

  pub further→ : writes_further S l s x ≡ true → (exclusives_of S l s ≡ S.quota) × (T (holds_exclusive (lock l x) s) → ⊥)
  unfolding writes_further
  further→ e =
      let h = true_is e in (
        eqb→eq (exclusives_of S l s) S.quota (and_left (eqb (exclusives_of S l s) S.quota) _ h),
        not_use (holds_exclusive (lock l x) s) (and_right (eqb (exclusives_of S l s) S.quota) _ h),
      )

  -- "a rewrite of a held item": what is held exclusively is no further item
  pub held_not_further : T (holds_exclusive (lock l x) s) → writes_further S l s x ≡ false
  held_not_further h = is_false (writes_further S l s x) (λ w. (further→ (is_true (writes_further S l s x) w)).1 h)

-- a repeated awaited write never meets 11: on good tables who awaits an exclusive lock has room
pub awaited_not_further :
    (S : Sizes) (G : Tables) → Good S G
    → (s x : ℕ) → s < S.slots → T (live_update (txn G.txns s)) → (txn G.txns s).awaited_lock ≡ exclusive_lock
    → writes_further S G.locks s x ≡ false
unfolding writes_further
awaited_not_further S G g s x i u a =
    is_false (writes_further S G.locks s x)
    (λ w. (g.quota_good s i).full_idle (update-holds _ u) (eqb→eq (exclusives_of S G.locks s) S.quota (and_left (eqb (exclusives_of S G.locks s) S.quota) _ w)) a)
