-- The transaction that a call names, the free slot, and the caller's kind.
use Prim.Native.Nat.{ℕ, ◌≤◌, ◌<◌}
use mathlib.Core.Path.{◌≡◌, refl, sym, ◌∙◌, subst}
use mathlib.Core.Logic.{◌≢◌, ◌⊎◌, inl, inr}
use mathlib.Core.Bool.{Bool, true, false, ◌&&◌, not}
use mathlib.Core.List.{List}
use native.Mathlib.Omega.{arith}
use lib.Dec.{T, eqb, eqb→eq}
use borrow.Author.Tests.{ne_eqb, eqb-true, eqb-false}
use Rattle.names.specs.declared.Sizes.{Sizes}
use Rattle.rules.specs.Tables.{Tables, Txn, txn, live, live_update, live_query, live_settled, live_relaxed, query_kind, any_query, is_reader, by_start, slot_of, free_slot}
use Rattle.rules.specs.Tables.{an_update, a_query, a_settled, a_relaxed, lock, holds_exclusive}
use Rattle.rules.specs.Good.{Good}
use Rattle.rules.specs.Answers.{Call}
use Rattle.rules.specs.Step.{holds_back}
pub use Rattle.rules.specs.Conditions.{Caller, Free}
use Rattle.rules.specs.Conditions.{Names, CallerIn}
use Rattle.rules.proofs.RowKinds.{update-live, query-live, settled-live, reader-live, live-query, live-settled, live-relaxed, holder_cases, update_no_reader, query-starts, settled-starts}
use Rattle.rules.proofs.Tests.{and_left, and_right, and_both, or_left, or_right, is_true, true_is, not_make, not_use, eq_make, same?, false_is}
use Rattle.rules.proofs.Counts.{first-le, first_passes, first-least}

-- ---- the slot that is found under a number
-- the test that slot_of makes
unfoldable bears : List ℕ → ℕ → ℕ → Bool
bears t n s = live (txn t s) && eqb (txn t s).number n

pub caller_in :
    (S : Sizes) (G : Tables) (n : ℕ) → eqb (slot_of S G.txns n) S.slots ≡ false → Caller S G n (slot_of S G.txns n)
unfolding slot_of bears
caller_in S G n e =
    record {
      inside = i;
      alive = and_left (live (txn G.txns s)) _ ok;
      name = eqb→eq (txn G.txns s).number n (and_right (live (txn G.txns s)) _ ok);
    }
  where
    s : ℕ
    s = slot_of S G.txns n

    i : s < S.slots
    i = let d : s ≢ S.slots = eqb-false s S.slots e in omega (arith, first-le (bears G.txns n) 0 S.slots)

    ok : T (bears G.txns n s)
    ok = first_passes (bears G.txns n) 0 S.slots (let k = i in omega arith)

-- the same as the caller of a call that names n
pub caller_is :
    (S : Sizes) (G : Tables) (c : Call) (n : ℕ) → Names c n → eqb (slot_of S G.txns n) S.slots ≡ false
    → CallerIn c S G (slot_of S G.txns n)
caller_is S G c n h e =
    let C = caller_in S G n e in
    record { inside = C.inside; alive = C.alive; named = subst (Names c) (sym C.name) h }

-- whoever bears the number is not before the slot that is found
not_before :
    (S : Sizes) (t : List ℕ) (s n : ℕ) → s < S.slots → T (live (txn t s)) → (txn t s).number ≡ n → slot_of S t n ≤ s
unfolding slot_of bears
not_before S t s n i a e =
    first-least (bears t n) s 0 S.slots (omega arith) (omega arith)
    (and_both (live (txn t s)) _ a (eq_make (txn t s).number n e))

pub caller_none :
    (S : Sizes) (t : List ℕ) (n : ℕ) → eqb (slot_of S t n) S.slots ≡ true
    → (s : ℕ) → s < S.slots → T (live (txn t s)) → (txn t s).number ≢ n
caller_none S t n e s i a q =
    let z : slot_of S t n ≡ S.slots = eqb-true (slot_of S t n) S.slots e in
    let l : slot_of S t n ≤ s = not_before S t s n i a q in
    omega arith

-- on good tables a number is borne once, so its slot is found
pub caller-found :
    (S : Sizes) (G : Tables) → Good S G
    → (s n : ℕ) → s < S.slots → T (live (txn G.txns s)) → (txn G.txns s).number ≡ n → slot_of S G.txns n ≡ s
caller-found S G g s n i a e = go (same? (slot_of S G.txns n) s)
  where
    C : Caller S G n (slot_of S G.txns n)
    C =
        caller_in S G n
        (ne_eqb (slot_of S G.txns n) S.slots (λ z. let k : slot_of S G.txns n ≤ s = not_before S G.txns s n i a e in omega arith))

    go : (slot_of S G.txns n ≡ s) ⊎ (slot_of S G.txns n ≢ s) → slot_of S G.txns n ≡ s
    go (inl q) = q
    go (inr d) = absurd (g.distinct (slot_of S G.txns n) s C.inside i d a (C.name ∙ sym e))

-- ---- the lowest free slot

-- a slot that is not live is not before the one that is found
free-before : (S : Sizes) (t : List ℕ) (r : ℕ) → r < S.slots → r < free_slot S t → T (live (txn t r))
unfolding free_slot
free-before S t r i l = go (live (txn t r)) refl
  where
    go : (b : Bool) → live (txn t r) ≡ b → T (live (txn t r))
    go true e = true_is e
    go false e =
        let k : free_slot S t ≤ r =
        first-least (λ s. not (live (txn t s))) r 0 S.slots (omega arith) (omega arith)
        (not_make (live (txn t r)) (λ h. subst T e h)) in
        absurd (omega arith)

pub free-found : (S : Sizes) (t : List ℕ) → eqb (free_slot S t) S.slots ≡ false → Free S t (free_slot S t)
unfolding free_slot
free-found S t e =
    record {
      inside = i;
      free = not_use (live (txn t (free_slot S t))) (first_passes (λ s. not (live (txn t s))) 0 S.slots (let k = i in omega arith));
      lowest = λ r l. free-before S t r (let k = i in omega arith) l;
    }
  where
    i : free_slot S t < S.slots
    i =
        let d : free_slot S t ≢ S.slots = eqb-false (free_slot S t) S.slots e in
        omega (arith, first-le (λ s. not (live (txn t s))) 0 S.slots)

pub free_none :
    (S : Sizes) (t : List ℕ) → eqb (free_slot S t) S.slots ≡ true → (s : ℕ) → s < S.slots → T (live (txn t s))
free_none S t e s i =
    let z : free_slot S t ≡ S.slots = eqb-true (free_slot S t) S.slots e in
    free-before S t s i (omega arith)

-- ---- the kind of a live transaction
-- a query, relaxed or not
pub is_query :
    (t : List ℕ) (s : ℕ) → T (live (txn t s)) → query_kind (txn t s).kind ≡ true → T (any_query (txn t s))
unfolding any_query
is_query t s a e = and_both (live (txn t s)) _ a (true_is e)

pub any-query-kind : (t : List ℕ) (s : ℕ) → T (any_query (txn t s)) → query_kind (txn t s).kind ≡ true
unfolding any_query
any-query-kind t s h = is_true (query_kind (txn t s).kind) (and_right (live (txn t s)) _ h)

pub is_update :
    (S : Sizes) (G : Tables) → Good S G
    → (s : ℕ) → s < S.slots → T (live (txn G.txns s)) → query_kind (txn G.txns s).kind ≡ false
    → eqb (txn G.txns s).kind a_settled ≡ false → T (live_update (txn G.txns s))
unfolding live_update query_kind
is_update S G g s i a e f = and_both (live (txn G.txns s)) _ a (go (g.txn_good s i).kind_listed)
  where
    k : ℕ
    k = (txn G.txns s).kind

    go : (k ≡ an_update) ⊎ ((k ≡ a_query) ⊎ ((k ≡ a_settled) ⊎ (k ≡ a_relaxed))) → T (eqb k an_update)
    go (inl q) = eq_make k an_update q
    go (inr (inl q)) = absurd (false_is e (or_left (eqb k a_query) _ (eq_make k a_query q)))
    go (inr (inr (inl q))) = absurd (eqb-false k a_settled f q)
    go (inr (inr (inr q))) = absurd (false_is e (or_right (eqb k a_query) _ (eq_make k a_relaxed q)))

-- whoever has the kind of an update writes; whoever has not reads versions
pub is_writer : (t : List ℕ) (s : ℕ) → T (live (txn t s)) → eqb (txn t s).kind an_update ≡ true → T (live_update (txn t s))
unfolding live_update
is_writer t s a e = and_both (live (txn t s)) _ a (true_is e)

pub is_reader_lem : (t : List ℕ) (s : ℕ) → T (live (txn t s)) → eqb (txn t s).kind an_update ≡ false → T (is_reader (txn t s))
unfolding is_reader
is_reader_lem t s a e = and_both (live (txn t s)) _ a (not_make (eqb (txn t s).kind an_update) (λ h. false_is e h))

-- request E6
pub is_settled :
    (t : List ℕ) (s : ℕ) → T (live (txn t s)) → eqb (txn t s).kind a_settled ≡ true → T (live_settled (txn t s))
unfolding live_settled
is_settled t s a e = and_both (live (txn t s)) _ a (true_is e)

pub settled-kind : (t : List ℕ) (s : ℕ) → T (live_settled (txn t s)) → (txn t s).kind ≡ a_settled
settled-kind t s h = (settled-live (txn t s) h).1

-- a query is no update, and the test of the kind tells them apart
pub query-kind : (t : List ℕ) (s : ℕ) → T (live_query (txn t s)) → (txn t s).kind ≡ a_query
query-kind t s h = (query-live (txn t s) h).1

pub update-kind : (t : List ℕ) (s : ℕ) → T (live_update (txn t s)) → (txn t s).kind ≡ an_update
update-kind t s h = (update-live (txn t s) h).1

pub query_not_update : (t : List ℕ) (s : ℕ) → T (live_query (txn t s)) → T (live_update (txn t s)) → ⊥
query_not_update t s q u = let k = query-kind t s q in let m = update-kind t s u in omega arith

pub update-alive : (t : List ℕ) (s : ℕ) → T (live_update (txn t s)) → T (live (txn t s))
update-alive t s h = (update-live (txn t s) h).0

-- who reads is a query, past its writing, or a relaxed query
pub reader_cases :
    (S : Sizes) (G : Tables) → Good S G → (s : ℕ) → s < S.slots → T (is_reader (txn G.txns s))
    → T (live_query (txn G.txns s)) ⊎ (T (live_settled (txn G.txns s)) ⊎ T (live_relaxed (txn G.txns s)))
reader_cases S G g s i q = go (g.txn_good s i).kind_listed
  where
    r : Txn
    r = txn G.txns s

    go :
        (r.kind ≡ an_update) ⊎ ((r.kind ≡ a_query) ⊎ ((r.kind ≡ a_settled) ⊎ (r.kind ≡ a_relaxed)))
        → T (live_query r) ⊎ (T (live_settled r) ⊎ T (live_relaxed r))
    go (inl e) = absurd ((reader-live r q).1 e)
    go (inr (inl e)) = inl (live-query r (reader-live r q).0 e)
    go (inr (inr (inl e))) = inr (inl (live-settled r (reader-live r q).0 e))
    go (inr (inr (inr e))) = inr (inr (live-relaxed r (reader-live r q).0 e))

-- who reads and holds an item exclusively is past its writing
pub reader-holds :
    (S : Sizes) (G : Tables) → Good S G → (s : ℕ) → s < S.slots → T (is_reader (txn G.txns s)) → (x : ℕ) → x < S.items
    → T (holds_exclusive (lock G.locks x) s) → T (live_settled (txn G.txns s))
reader-holds S G g s i q x j h = go (holder_cases (txn G.txns s) ((g.lock_good x j).excluders s h).1)
  where
    go : T (live_update (txn G.txns s)) ⊎ T (live_settled (txn G.txns s)) → T (live_settled (txn G.txns s))
    go (inl u) = absurd (update_no_reader (txn G.txns s) u q)
    go (inr p) = p

-- ---- who is held back by another past its writing reads by a start: no relaxed query lives beside that one
pub back-settled : (t l : List ℕ) (x s b : ℕ) → T (holds_back t l x s b) → T (live_settled (txn t b))
unfolding holds_back
back-settled t l x s b h =
    and_left (live_settled (txn t b)) _ (and_right (holds_exclusive (lock l x) b) _ (and_right (not (eqb s b)) _ h))

pub held_by_start :
    (S : Sizes) (G : Tables) → Good S G → (s : ℕ) → s < S.slots → T (is_reader (txn G.txns s)) → (x b : ℕ) → b < S.slots
    → T (holds_back G.txns G.locks x s b) → T (by_start (txn G.txns s))
held_by_start S G g s i q x b j h = go (reader_cases S G g s i q)
  where
    go :
        T (live_query (txn G.txns s)) ⊎ (T (live_settled (txn G.txns s)) ⊎ T (live_relaxed (txn G.txns s)))
        → T (by_start (txn G.txns s))
    go (inl a) = query-starts (txn G.txns s) a
    go (inr (inl a)) = settled-starts (txn G.txns s) a
    go (inr (inr a)) = absurd (g.sets_good.apart b s j i (back-settled G.txns G.locks x s b h) a)
