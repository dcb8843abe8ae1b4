-- Request E11: who waits for a lock, or takes one, joins sets of relaxed queries with it, and tables stay good.
use Prim.Native.Nat.{ℕ, ◌<◌}
use mathlib.Core.Path.{◌≡◌, refl, sym, subst}
use mathlib.Core.Logic.{◌≢◌, ⊎_elim}
use mathlib.Core.Bool.{Bool, true, false, cond}
use mathlib.Core.List.{List}
use native.Mathlib.Omega.{arith}
use lib.Dec.{T, eqb}
use borrow.Author.Tests.{eq-eqb, eqb-true}
use Rattle.names.specs.declared.Sizes.{Sizes}
use Rattle.rules.specs.Words.{bit}
use Rattle.rules.specs.Tables.{Tables, Txn, txn, with_later_for, live, live_update, live_settled, live_relaxed, may_hold, exclusive_lock, have_read, Lock, lock, holds_shared, holds_exclusive}
use Rattle.rules.specs.Versions.{versions_of, hidden_now}
use Rattle.rules.specs.Waits.{noted}
use Rattle.rules.specs.Good.{Good, GoodLock}
use Rattle.rules.specs.Step.{with_txns, joined, joining, asking_joins, grant_joins, locked_anew}
use Rattle.rules.proofs.Tests.{true_is, false_is}
use Rattle.rules.proofs.Bits.{bit_none, or_in, or_in_left, or_in_right}
use Rattle.rules.proofs.EqualSets.{read→, →read}
use Rattle.rules.proofs.Carried.{NoMore, lock_carried}
use Rattle.rules.proofs.Noting.{noted-keeps}
use Rattle.rules.proofs.Joined.{joined_same, joined_in, joined-good}
use Rattle.rules.proofs.Grants.{Room, InSets, locked-good}

-- ---- the sets that are joined are those of relaxed queries
-- only a relaxed query has read something
pub reader-relaxed : (S : Sizes) (G : Tables) → Good S G → (q x : ℕ) → q < S.slots → T (bit (txn G.txns q).items_read x) → T (live_relaxed (txn G.txns q))
reader-relaxed S G g q x i b = go (live_relaxed (txn G.txns q)) refl
  where
    go : (c : Bool) → live_relaxed (txn G.txns q) ≡ c → T (live_relaxed (txn G.txns q))
    go true e = true_is e
    go false e = absurd (false_is (bit_none x) (subst (λ (w : ℕ). T (bit w x)) ((g.txn_good q i).notes_good.only_relaxed (false_is e)) b))

pub asking_sets : (S : Sizes) (t : List ℕ) (k x q : ℕ) → T (bit (asking_joins S t k x) q) → (k ≡ exclusive_lock) × T (bit (have_read S t x) q)
unfolding asking_joins
asking_sets S t k x q b = go (eqb k exclusive_lock) refl b
  where
    go : (c : Bool) → eqb k exclusive_lock ≡ c → T (bit (cond c (have_read S t x) 0) q) → (k ≡ exclusive_lock) × T (bit (have_read S t x) q)
    go true e z = (eqb-true k exclusive_lock e, z)
    go false e z = absurd (false_is (bit_none q) z)

pub asking_in : (S : Sizes) (t : List ℕ) (k x q : ℕ) → k ≡ exclusive_lock → T (bit (have_read S t x) q) → T (bit (asking_joins S t k x) q)
unfolding asking_joins
asking_in S t k x q e b = rw (eq-eqb k exclusive_lock e) b

module _ (S : Sizes) (G : Tables) (g : Good S G) (k x : ℕ) where
  pub asking-relaxed : (q : ℕ) → T (bit (asking_joins S G.txns k x) q) → (q < S.slots) × T (live_relaxed (txn G.txns q))
  asking-relaxed q b =
      let r = read→ S G.txns x q (asking_sets S G.txns k x q b).1 in
      (r.0, reader-relaxed S G g q x r.0 r.1)

  pub grant_relaxed : x < S.items → (q : ℕ) → T (bit (grant_joins S G k x) q) → (q < S.slots) × T (live_relaxed (txn G.txns q))
  unfolding grant_joins hidden_now versions_of
  grant_relaxed i q b = ⊎_elim (asking-relaxed q) ((g.versions_good x i).from_relaxed 0 q) (or_in (asking_joins S G.txns k x) (hidden_now S G.versions x) q b)

-- ---- a wait: it is noted, then the sets are joined
module _ (S : Sizes) (G : Tables) (g : Good S G) (s k x : ℕ) (inside : s < S.slots) (update : T (live_update (txn G.txns s))) where
  abbrev u : List ℕ
  u = noted S G.txns G.locks s k x

  pub waits-joined-good :
      Good S (with_txns G (noted S G.txns G.locks s k x))
      → Good S (with_txns G (joined (noted S G.txns G.locks s k x) s (asking_joins S G.txns k x)))
  unfolding live_update live_relaxed live
  waits-joined-good h =
      joined-good S (with_txns G u) h s inside
      (subst T (sym (noted-keeps S G.txns G.locks s k x g.txns_exact inside live_update (λ r k x p. refl) (λ r p. refl) s inside)) update)
      (asking_joins S G.txns k x)
      (λ q b.
      let r = asking-relaxed S G g k x q b in
      (r.0, subst T (sym (noted-keeps S G.txns G.locks s k x g.txns_exact inside live_relaxed (λ r k x p. refl) (λ r p. refl) q r.0)) r.1))

-- ---- a further lock: the sets are joined, then the lock is taken
module _
    (S : Sizes) (G : Tables) (g : Good S G) (s k x : ℕ) (inside : s < S.slots) (update : T (live_update (txn G.txns s))) (known : x < S.items)
  where
    abbrev m : ℕ
    m = grant_joins S G k x

    abbrev H : Tables
    H = joining s m G

    pub anew_joined : Good S (joining s (grant_joins S G k x) G)
    anew_joined = joined-good S G g s inside update m (grant_relaxed S G g k x known)

    same : {A : Type 0} (h : Txn → A) → ((r : Txn) (v : ℕ) → h (with_later_for r v) ≡ h r) → (r : ℕ) → h (txn H.txns r) ≡ h (txn G.txns r)
    same = joined_same G.txns s m S g.txns_exact inside

    -- whatever it holds then of the item, exclusively only if it wanted that, it is in the sets that this asks for
    pub anew_sets : (h' : Lock) → (T (holds_exclusive h' s) → k ≡ exclusive_lock) → InSets S (joining s (grant_joins S G k x) G) s x h'
    unfolding grant_joins
    anew_sets h' f =
        record {
          hidden = λ h q b.
              joined_in G.txns s m S g.txns_exact inside q (or_in_right (asking_joins S G.txns k x) (hidden_now S G.versions x) q b);
          read = λ h q j b.
              joined_in G.txns s m S g.txns_exact inside q
              (or_in_left (asking_joins S G.txns k x) (hidden_now S G.versions x) q
              (asking_in S G.txns k x q (f h)
              (→read S G.txns x q j (subst (λ (w : ℕ). T (bit w x)) (same (λ (r : Txn). r.items_read) (λ r v. refl) q) b))));
        }

    pub anew_good :
        (h' : Lock) → GoodLock S G.txns h' → ((r : ℕ) → r ≢ s → NoMore r (lock G.locks x) h')
        → ((r : ℕ) → r ≢ s → T (holds_shared (lock G.locks x) r) → T (holds_shared h' r)) → (T (holds_exclusive h' s) → Room S G.locks s x)
        → (T (holds_exclusive h' s) → k ≡ exclusive_lock) → Good S (locked_anew S s k x h' G)
    unfolding locked_anew live_update may_hold live_settled live
    anew_good h' good' others keeps room wants =
        locked-good S H anew_joined s x inside (subst T (sym (same live_update (λ r v. refl) s)) update) known h'
        (lock_carried S G.txns H.txns h' (λ r a u. subst T (sym (same live_update (λ r v. refl) r)) u) (λ r a u. subst T (sym (same may_hold (λ r v. refl) r)) u) good')
        others keeps room (anew_sets h' wants)
