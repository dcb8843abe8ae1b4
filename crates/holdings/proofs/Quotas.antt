-- The quota by the counts of what each slot holds exclusively is the rules' test.
use Prim.Native.Nat.{ℕ, zero, suc, ◌<◌}
use mathlib.Core.Path.{◌≡◌, refl, sym, ap, ap₂, ◌∙◌}
use mathlib.Core.Bool.{Bool, true, false, ◌&&◌, not}
use mathlib.Core.List.{List}
use native.Mathlib.Omega.{arith}
use lib.ListN.{get_or}
use lib.Dec.{T, eqb, leb}
use Rattle.names.specs.Sizes.{base}
use Rattle.rules.specs.Words.{bit, implies, every_below}
use Rattle.rules.specs.Tables.{txn, may_hold, exclusive_lock, exclusives_of}
use Rattle.rules.specs.Tested.{quota_most, full_idle, quota_good}
use Rattle.rules.proofs.Tests.{and_also, false_is}
use Rattle.rules.proofs.Counts.{→every_below}
use Rattle.rules.proofs.Bits.{bit_none}
use Rattle.rules.proofs.Quotas.{Good→quota, exclusives_none}
use Rattle.holdings.specs.Holding.{locks_good, quotas_good, Counted, quota_ok, quotas_ok}
use Rattle.holdings.proofs.Holders.{holders_in, holders_at}
use Rattle.holdings.proofs.Holders.{locks→Good}

-- ---- laws of tests
-- what is tested beside a test counts only where that passes
and_where : (a b c : Bool) → (T a → b ≡ c) → (a && b) ≡ (a && c)
and_where true b c f = f tt
and_where false b c f = refl

implies_not : (a b : Bool) → implies a (not b) ≡ not (a && b)
unfolding implies
implies_not true b = refl
implies_not false b = refl

pub every-same : (n : ℕ) (p q : ℕ → Bool) → ((i : ℕ) → i < n → p i ≡ q i) → every_below n p ≡ every_below n q
unfolding every_below
every-same zero p q f = refl
every-same (suc n) p q f = ap₂ ◌&&◌ (f n (omega arith)) (every-same n p q (λ i l. f i (omega arith)))

-- ---- one slot
module _ (t l : List ℕ) (s : ℕ) where
  abbrev n : ℕ
  n = exclusives_of base l s

  abbrev w : ℕ
  w = (txn t s).awaited_lock

  -- by what one holds that may; who may not holds none
  quota_same : T (locks_good base t l) → quota_ok n w ≡ quota_good base l s (txn t s)
  unfolding quota_good quota_most full_idle implies
  quota_same h = go (may_hold (txn t s)) refl
    where
      go : (c : Bool) → may_hold (txn t s) ≡ c → quota_ok n w ≡ quota_good base l s (txn t s)
      go true e = rw e (ap (λ (b : Bool). leb n base.quota && b) (sym (implies_not (eqb n base.quota) (eqb w exclusive_lock))))
      go false e = rw (e, exclusives_none base t l (locks→Good t l h) s (false_is e))

  -- who holds fewer than the quota, and who may hold none
  quota_fewer : n < base.quota → T (quota_good base l s (txn t s))
  quota_fewer h = Good→quota base l s (txn t s) (record { most = λ u. omega arith; full_idle = λ u e. absurd (omega arith) })

  quota_idle : (T (may_hold (txn t s)) → ⊥) → T (quota_good base l s (txn t s))
  quota_idle d = Good→quota base l s (txn t s) (record { most = λ u. absurd (d u); full_idle = λ u. absurd (d u) })

-- ---- all slots
module _ (t l : List ℕ) where
  -- by the counts
  pub counted_same : (c : List ℕ) (most : ℕ) → Counted l c most → (locks_good base t l && quotas_ok t c) ≡ (locks_good base t l && quotas_good base t l)
  unfolding quotas_ok quotas_good
  counted_same c most k =
      and_where (locks_good base t l) _ _
      (λ h. every-same base.slots (λ s. quota_ok (get_or c s 0) (txn t s).awaited_lock) (λ s. quota_good base l s (txn t s))
      (λ s i. ap (λ (m : ℕ). quota_ok m (txn t s).awaited_lock) (k.at s i) ∙ quota_same t l s h))

  -- no count is at the quota
  pub counted-few : (c : List ℕ) (most : ℕ) → Counted l c most → most < base.quota → locks_good base t l ≡ (locks_good base t l && quotas_good base t l)
  unfolding quotas_good
  counted-few c most k h =
      and_also (locks_good base t l) _
      (→every_below base.slots (λ s. quota_good base l s (txn t s)) (λ s i. quota_fewer t l s (let a = k.at s i in let b = k.bound s i in omega arith)))

  -- nobody is live who may hold
  pub idle-few : holders_in t ≡ 0 → locks_good base t l ≡ (locks_good base t l && quotas_good base t l)
  unfolding quotas_good
  idle-few e =
      and_also (locks_good base t l) _
      (→every_below base.slots (λ s. quota_good base l s (txn t s))
      (λ s i. quota_idle t l s (false_is (sym (holders_at t s i) ∙ ap (λ (u : ℕ). bit u s) e ∙ bit_none s))))
