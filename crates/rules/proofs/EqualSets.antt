-- Request E11: the tests of relaxed queries and of their sets say what GoodSets says.
use Prim.Native.Nat.{ℕ, ◌<◌}
use mathlib.Core.Logic.{⊎_elim}
use mathlib.Core.Bool.{Bool, ◌&&◌, not}
use mathlib.Core.List.{List}
use lib.Bits.{bit_or}
use lib.Dec.{T}
use Rattle.names.specs.declared.Sizes.{Sizes}
use Rattle.rules.specs.Words.{implies, row, bit, contains}
use Rattle.rules.specs.Tables.{Tables, txn, live_settled, live_relaxed, some_settled, some_relaxed, relaxed_in, have_read, version_row, lock, holds, holds_shared, holds_exclusive}
use Rattle.rules.specs.Versions.{versions_in, versions_of, hidden_at, hidden_now}
use Rattle.rules.specs.Good.{GoodLock, GoodSets}
use Rattle.rules.specs.Tested.{holders_joined, sets_good}
use Rattle.rules.proofs.Tests.{and_left, and_right, and_both, or_cases, or_left, or_right, implies_use, implies_make, not_make, not_use}
use Rattle.rules.proofs.Counts.{every_below→, →every_below, some_below→, →some_below}
use Rattle.rules.proofs.Bits.{or_in, or_in_left, or_in_right, contains→, →contains, slots→, →slots}
use Rattle.rules.proofs.EqualVersions.{relaxed→, →relaxed}

-- ---- who has read an item
pub read→ : (S : Sizes) (t : List ℕ) (x q : ℕ) → T (bit (have_read S t x) q) → (q < S.slots) × T (bit (txn t q).items_read x)
unfolding have_read
read→ S t x q h = slots→ S.slots (λ s. bit (txn t s).items_read x) q h

pub →read : (S : Sizes) (t : List ℕ) (x q : ℕ) → q < S.slots → T (bit (txn t q).items_read x) → T (bit (have_read S t x) q)
unfolding have_read
→read S t x q l h = →slots S.slots (λ s. bit (txn t s).items_read x) q l h

-- ---- whether there is one
pub some_settled_lem : (S : Sizes) (t : List ℕ) → T (some_settled S t) → (s : ℕ) × (s < S.slots) × T (live_settled (txn t s))
unfolding some_settled
some_settled_lem S t h = some_below→ S.slots (λ s. live_settled (txn t s)) h

pub settled_some : (S : Sizes) (t : List ℕ) (s : ℕ) → s < S.slots → T (live_settled (txn t s)) → T (some_settled S t)
unfolding some_settled
settled_some S t s i h = →some_below S.slots (λ s. live_settled (txn t s)) s i h

pub some_relaxed_lem : (S : Sizes) (t : List ℕ) → T (some_relaxed S t) → (s : ℕ) × (s < S.slots) × T (live_relaxed (txn t s))
unfolding some_relaxed
some_relaxed_lem S t h = some_below→ S.slots (λ s. live_relaxed (txn t s)) h

pub relaxed_some : (S : Sizes) (t : List ℕ) (s : ℕ) → s < S.slots → T (live_relaxed (txn t s)) → T (some_relaxed S t)
unfolding some_relaxed
relaxed_some S t s i h = →some_below S.slots (λ s. live_relaxed (txn t s)) s i h

module _ (S : Sizes) (G : Tables) where
  abbrev t : List ℕ
  t = G.txns

  -- the sets in which a holder has to be
  abbrev m : ℕ → ℕ
  m x = hidden_at (versions_in S (row (version_row S) x G.versions)) 0

  abbrev joined_test : ℕ → Bool
  joined_test x = holders_joined S t x (lock G.locks x) (m x)

  abbrev slot_test : ℕ → ℕ → Bool
  slot_test x s =
      implies (holds_exclusive (lock G.locks x) s) (contains (txn t s).later_for (bit_or (have_read S t x) (m x)))
      && implies (holds_shared (lock G.locks x) s) (contains (txn t s).later_for (m x))

  pub sets→Good :
      ((x : ℕ) → x < S.items → GoodLock S t (lock G.locks x)) → T (sets_good S t)
      → ((x : ℕ) → x < S.items → T (joined_test x)) → GoodSets S G
  unfolding sets_good holders_joined hidden_now versions_of holds
  sets→Good locks h f =
      record {
        apart = λ r s i j a b. not_use (some_settled S t && some_relaxed S t) (and_left (not (some_settled S t && some_relaxed S t)) _ h)
            (and_both (some_settled S t) _ (settled_some S t r i a) (relaxed_some S t s j b));
        of_relaxed = λ s q i b.
            relaxed→ S t q (contains→ (relaxed_in S t) (txn t s).later_for
            (every_below→ S.slots (λ s. contains (relaxed_in S t) (txn t s).later_for) (and_right (not (some_settled S t && some_relaxed S t)) _ h) s i) q b);
        holds_read = λ x s q i j e b. all x s i e q (or_in_left (have_read S t x) (m x) q (→read S t x q j b));
        holds_hidden = λ x s q i o b. ⊎_elim
            (λ a. contains→ (txn t s).later_for (m x)
            (implies_use (holds_shared (lock G.locks x) s) _
            (and_right (implies (holds_exclusive (lock G.locks x) s) (contains (txn t s).later_for (bit_or (have_read S t x) (m x)))) _
            (every_below→ S.slots (slot_test x) (f x i) s ((locks x i).sharers s a).0)) a) q b)
            (λ e. all x s i e q (or_in_right (have_read S t x) (m x) q b))
            (or_cases (holds_shared (lock G.locks x) s) _ o);
      }
    where
      all : (x s : ℕ) → x < S.items → T (holds_exclusive (lock G.locks x) s) → (q : ℕ) → T (bit (bit_or (have_read S t x) (m x)) q) → T (bit (txn t s).later_for q)
      all x s i e =
          contains→ (txn t s).later_for (bit_or (have_read S t x) (m x))
          (implies_use (holds_exclusive (lock G.locks x) s) _
          (and_left (implies (holds_exclusive (lock G.locks x) s) (contains (txn t s).later_for (bit_or (have_read S t x) (m x)))) _
          (every_below→ S.slots (slot_test x) (f x i) s ((locks x i).excluders s e).0)) e)

  pub Good→sets : GoodSets S G → T (sets_good S t)
  unfolding sets_good
  Good→sets g =
      and_both (not (some_settled S t && some_relaxed S t)) _
      (not_make (some_settled S t && some_relaxed S t)
      (λ h.
      let a = some_settled_lem S t (and_left (some_settled S t) _ h) in
      let b = some_relaxed_lem S t (and_right (some_settled S t) _ h) in
      g.apart a.0 b.0 a.1 b.1 a.2 b.2))
      (→every_below S.slots (λ s. contains (relaxed_in S t) (txn t s).later_for)
      (λ s i. →contains (relaxed_in S t) (txn t s).later_for (λ q b. let k = g.of_relaxed s q i b in →relaxed S t q k.0 k.1)))

  pub Good→joined : GoodSets S G → (x : ℕ) → x < S.items → T (joined_test x)
  unfolding holders_joined hidden_now versions_of holds
  Good→joined g x i =
      →every_below S.slots (slot_test x)
      (λ s j.
      and_both (implies (holds_exclusive (lock G.locks x) s) (contains (txn t s).later_for (bit_or (have_read S t x) (m x)))) _
      (implies_make (holds_exclusive (lock G.locks x) s) _
      (λ e. →contains (txn t s).later_for (bit_or (have_read S t x) (m x))
      (λ q b. ⊎_elim
      (λ k. let r = read→ S t x q k in g.holds_read x s q i r.0 e r.1)
      (λ k. g.holds_hidden x s q i (or_right (holds_shared (lock G.locks x) s) _ e) k)
      (or_in (have_read S t x) (m x) q b))))
      (implies_make (holds_shared (lock G.locks x) s) _
      (λ e. →contains (txn t s).later_for (m x) (λ q b. g.holds_hidden x s q i (or_left (holds_shared (lock G.locks x) s) _ e) b))))
