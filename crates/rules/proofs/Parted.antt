-- Request E11: those who read up to a start, and the relaxed queries, apart. A row of versions can be tested so: by the starts, and by the words
-- of whom the versions are hidden from. This holds of any tables.
use Prim.Native.Nat.{ℕ, zero, suc, ◌-◌, ◌<◌}
use mathlib.Core.Path.{◌≡◌, refl, sym, ap, ◌∙◌, subst}
use mathlib.Core.Logic.{◌≢◌, ◌⊎◌, inl, inr}
use mathlib.Core.Bool.{Bool, true, false, ◌&&◌, ◌||◌, not, cond}
use mathlib.Core.List.{List, [], ◌∷◌, Memᴰ}
use native.Mathlib.Omega.{arith}
use lib.ListN.{length, get_or}
use lib.Dec.{T, eqb, leb, ltb, eqb→eq, leb→le, lt→ltb, ltb→lt}
use borrow.Author.Tests.{leb-false}
use Rattle.names.specs.declared.Sizes.{Sizes}
use Rattle.rules.specs.Words.{some, every, some_below, bit, contains}
use Rattle.rules.specs.Tables.{txn, a_relaxed, live_relaxed, is_reader, Reader, up_to, outside, reader_in, readers_from, readers, relaxed_in}
use Rattle.rules.specs.Versions.{Version, no_version, stamp_at, hidden_at, sees}
use Rattle.rules.specs.Tested.{nests, last_seen}
use Rattle.rules.proofs.Tests.{iff_eq, and_left, and_right, and_both, or_cases, or_left, or_right, is_false, true_is, false_is, not_make, not_use, eq_make, ne_make, ne_use, same?}
use Rattle.rules.proofs.Counts.{some_below→, →some_below, some_mem, mem_some, every_mem, mem_every}
use Rattle.rules.proofs.Bits.{bit_none, no_bits, same_bits, contains→, →contains}
use Rattle.rules.proofs.RowKinds.{reader-live, relaxed-live, live-relaxed, relaxed-reads, reads_up_to, reads-outside}
use Rattle.rules.proofs.Choice.{Nests, nests→Nests}
use Rattle.rules.proofs.Reading.{between}
use Rattle.rules.proofs.Readers.{reader_in_lem, in_reader}
use Rattle.rules.proofs.EqualVersions.{relaxed→}

-- ---- the starts up to which is read
unfoldable pub starts_of : List Reader → List ℕ
starts_of [] = []
starts_of (up_to c ∷ qs) = c ∷ starts_of qs
starts_of (outside s ∷ qs) = starts_of qs

-- slot by slot
pub starts-row :
    (t : List ℕ) (s n : ℕ)
    → starts_of (readers_from t s (suc n))
    ≡ cond (is_reader (txn t s) && not (eqb (txn t s).kind a_relaxed)) ((txn t s).start ∷ starts_of (readers_from t (suc s) n)) (starts_of (readers_from t (suc s) n))
unfolding readers_from reader_in starts_of
starts-row t s n = go (is_reader (txn t s)) (eqb (txn t s).kind a_relaxed)
  where
    rest : List Reader
    rest = readers_from t (suc s) n

    c : ℕ
    c = (txn t s).start

    go : (a b : Bool) → starts_of (cond a (cond b (outside s) (up_to c) ∷ rest) rest) ≡ cond (a && not b) (c ∷ starts_of rest) (starts_of rest)
    go true true = refl
    go true false = refl
    go false b = refl

-- ---- the two kinds of readers are two
start_in : Reader → ℕ
start_in (up_to c) = c
start_in (outside s) = 0

slot_in : Reader → ℕ
slot_in (up_to c) = 0
slot_in (outside s) = suc s

one_start : (c d : ℕ) → up_to c ≡ up_to d → c ≡ d
unfolding start_in
one_start c d e = ap start_in e

one_slot : (r s : ℕ) → outside r ≡ outside s → r ≡ s
unfolding slot_in
one_slot r s e = let k = ap slot_in e in omega arith

two_kinds : (c s : ℕ) → up_to c ≡ outside s → ⊥
unfolding slot_in
two_kinds c s e = let k = ap slot_in e in omega arith

pub start_in_lem : (c : ℕ) (qs : List Reader) → Memᴰ (up_to c) qs → Memᴰ c (starts_of qs)
unfolding starts_of
start_in_lem c [] x' = elim x' [ ]
start_in_lem c (up_to d ∷ qs) (Memᴰ.head e) = Memᴰ.head (one_start c d e)
start_in_lem c (up_to d ∷ qs) (Memᴰ.tail m) = Memᴰ.tail (start_in_lem c qs m)
start_in_lem c (outside s ∷ qs) (Memᴰ.head e) = absurd (two_kinds c s e)
start_in_lem c (outside s ∷ qs) (Memᴰ.tail m) = start_in_lem c qs m

pub in_start : (c : ℕ) (qs : List Reader) → Memᴰ c (starts_of qs) → Memᴰ (up_to c) qs
unfolding starts_of
in_start c [] m = elim m [ ]
in_start c (up_to d ∷ qs) (Memᴰ.head e) = Memᴰ.head (ap up_to e)
in_start c (up_to d ∷ qs) (Memᴰ.tail m) = Memᴰ.tail (in_start c qs m)
in_start c (outside s ∷ qs) m = Memᴰ.tail (in_start c qs m)

-- one of the starts lies from lo on and below hi
unfoldable pub within : List ℕ → ℕ → ℕ → Bool
within cs lo hi = some (λ c. leb lo c && ltb c hi) cs

module _ (S : Sizes) (t : List ℕ) where
  abbrev qs : List Reader
  qs = readers S t

  -- ---- the relaxed queries among the readers
  pub in_outside : (s : ℕ) → s < S.slots → T (live_relaxed (txn t s)) → Memᴰ (outside s) (readers S t)
  in_outside s i h =
      subst (λ (q : Reader). Memᴰ q (readers S t)) (reads-outside t s (relaxed-live (txn t s) h).1) (reader_in_lem S t s i (relaxed-reads (txn t s) h))

  pub outside_in : (s : ℕ) → Memᴰ (outside s) (readers S t) → (s < S.slots) × T (live_relaxed (txn t s))
  outside_in s h = let w = in_reader S t (outside s) h in go w.0 w.1 w.2 w.3 (same? (txn t w.0).kind a_relaxed)
    where
      go :
          (r : ℕ) → r < S.slots → T (is_reader (txn t r)) → reader_in t r ≡ outside s → ((txn t r).kind ≡ a_relaxed) ⊎ ((txn t r).kind ≢ a_relaxed)
          → (s < S.slots) × T (live_relaxed (txn t s))
      go r i a e (inr d) = absurd (two_kinds (txn t r).start s (sym (reads_up_to t r d) ∙ e))
      go r i a e (inl k) =
          subst (λ (j : ℕ). (j < S.slots) × T (live_relaxed (txn t j))) (one_slot r s (sym (reads-outside t r k) ∙ e))
          (i, live-relaxed (txn t r) (reader-live (txn t r) a).0 k)

  -- ---- a version has a reader that may not read the one before it: by a start, or because that one is hidden from more
  module _
      (older newer : Version) (hides : T (contains (relaxed_in S t) newer.hidden)) (nest : T (contains newer.hidden older.hidden))
    where
      p : Reader → Bool
      p q = sees q older && not (sees q newer)

      -- a slot from which only the newer is hidden
      abbrev only : ℕ → Bool
      only s = bit newer.hidden s && not (bit older.hidden s)

      hidden-slot : (s : ℕ) → T (bit newer.hidden s) → (s < S.slots) × T (live_relaxed (txn t s))
      hidden-slot s b = relaxed→ S t s (contains→ (relaxed_in S t) newer.hidden hides s b)

      same_masks : (T (some_below S.slots only) → ⊥) → older.hidden ≡ newer.hidden
      same_masks n =
          same_bits older.hidden newer.hidden
          (λ s. iff_eq (bit older.hidden s) (bit newer.hidden s) (contains→ newer.hidden older.hidden nest s)
          (λ b. go s b (bit older.hidden s) refl))
        where
          go : (s : ℕ) → T (bit newer.hidden s) → (c : Bool) → bit older.hidden s ≡ c → T (bit older.hidden s)
          go s b true e = true_is e
          go s b false e =
              absurd
              (n
              (→some_below S.slots only s (hidden-slot s b).0
              (and_both (bit newer.hidden s) _ b (not_make (bit older.hidden s) (false_is e)))))

      pub between_parted :
          between (readers S t) older newer
          ≡ (within (starts_of (readers S t)) older.stamp newer.stamp || not (eqb older.hidden newer.hidden))
      unfolding between within sees p
      between_parted = iff_eq (some p qs) (some inside cs || differ) (λ h. let w = mem_some p qs h in to w.0 w.1 w.2) (λ h. from (or_cases (some inside cs) differ h))
        where
          cs : List ℕ
          cs = starts_of (readers S t)

          inside : ℕ → Bool
          inside c = leb older.stamp c && ltb c newer.stamp

          differ : Bool
          differ = not (eqb older.hidden newer.hidden)

          to : (q : Reader) → Memᴰ q qs → T (p q) → T (some inside cs || differ)
          to (up_to c) k h =
              let a = and_left (leb older.stamp c) _ h in
              let b = not_use (leb newer.stamp c) (and_right (leb older.stamp c) _ h) in
              or_left (some inside cs) differ (some_mem inside (start_in_lem c qs k) (and_both (leb older.stamp c) _ a (below c b)))
            where
              below : (c : ℕ) → (T (leb newer.stamp c) → ⊥) → T (ltb c newer.stamp)
              below c n = go (leb newer.stamp c) refl
                where
                  go : (b : Bool) → leb newer.stamp c ≡ b → T (ltb c newer.stamp)
                  go true e = absurd (n (true_is e))
                  go false e = lt→ltb c newer.stamp (leb-false newer.stamp c e)
          to (outside s) k h =
              or_right (some inside cs) differ
              (ne_make older.hidden newer.hidden
              (λ e.
              let a = not_use (bit older.hidden s) (and_left (not (bit older.hidden s)) _ h) in
              not_use (not (bit newer.hidden s)) (and_right (not (bit older.hidden s)) _ h)
              (not_make (bit newer.hidden s) (λ b. a (subst (λ (w : ℕ). T (bit w s)) (sym e) b)))))

          from : T (some inside cs) ⊎ T differ → T (some p qs)
          from (inl h) =
              let w = mem_some inside cs h in
              let c = w.0 in
              let a = and_left (leb older.stamp c) _ w.2 in
              let b = ltb→lt c newer.stamp (and_right (leb older.stamp c) _ w.2) in
              some_mem p (in_start c qs w.1) (and_both (leb older.stamp c) _ a (not_make (leb newer.stamp c) (λ z. let y = leb→le newer.stamp c z in omega arith)))
          from (inr h) = go (some_below S.slots only) refl
            where
              go : (b : Bool) → some_below S.slots only ≡ b → T (some p qs)
              go false e = absurd (ne_use older.hidden newer.hidden h (same_masks (false_is e)))
              go true e =
                  let w = some_below→ S.slots only (true_is e) in
                  let s = w.0 in
                  let k = hidden-slot s (and_left (bit newer.hidden s) _ w.2) in
                  some_mem p (in_outside s k.0 k.1)
                  (and_both (not (bit older.hidden s)) _ (and_right (bit newer.hidden s) _ w.2)
                  (not_make (not (bit newer.hidden s)) (λ z. not_use (bit newer.hidden s) z (and_left (bit newer.hidden s) _ w.2))))

  -- ---- every reader may read a version: it is old enough for every start, and hidden from nobody
  pub seen_parted :
      (v : Version) → T (contains (relaxed_in S t) v.hidden)
      → every (λ q. sees q v) (readers S t) ≡ (every (λ c. leb v.stamp c) (starts_of (readers S t)) && eqb v.hidden 0)
  unfolding sees
  seen_parted v hides = iff_eq (every seen qs) (every old cs && eqb v.hidden 0) to from
    where
      seen : Reader → Bool
      seen q = sees q v

      old : ℕ → Bool
      old c = leb v.stamp c

      cs : List ℕ
      cs = starts_of (readers S t)

      to : T (every seen qs) → T (every old cs && eqb v.hidden 0)
      to h =
          and_both (every old cs) _ (mem_every old cs (λ c k. every_mem seen h (in_start c qs k)))
          (eq_make v.hidden 0
          (no_bits v.hidden
          (λ s. is_false (bit v.hidden s)
          (λ b.
          let w = relaxed→ S t s (contains→ (relaxed_in S t) v.hidden hides s b) in
          not_use (bit v.hidden s) (every_mem seen h (in_outside s w.0 w.1)) b))))

      from : T (every old cs && eqb v.hidden 0) → T (every seen qs)
      from h = mem_every seen qs each
        where
          each : (q : Reader) → Memᴰ q qs → T (seen q)
          each (up_to c) k = every_mem old (and_left (every old cs) _ h) (start_in_lem c qs k)
          each (outside s) k =
              not_make (bit v.hidden s)
              (λ b. false_is (bit_none s) (subst (λ (w : ℕ). T (bit w s)) (eqb→eq v.hidden 0 (and_right (every old cs) _ h)) b))

  pub last_parted :
      (vs : List Version) → T (contains (relaxed_in S t) (hidden_at vs (length vs - 1)))
      → last_seen (readers S t) vs
      ≡ (every (λ c. leb (stamp_at vs (length vs - 1)) c) (starts_of (readers S t)) && eqb (hidden_at vs (length vs - 1)) 0)
  unfolding last_seen hidden_at stamp_at
  last_parted vs hides = seen_parted (get_or vs (length vs - 1) no_version) hides

-- ---- where the newest version is hidden from some of m only, every version is
pub hidden-within : (m : ℕ) (vs : List Version) → T (nests vs) → T (contains m (hidden_at vs 0)) → (k : ℕ) → k < length vs → T (contains m (hidden_at vs k))
unfolding Nests
hidden-within m vs n h zero i = h
hidden-within m vs n h (suc k) i =
    →contains m (hidden_at vs (suc k)) (λ q b. contains→ m (hidden_at vs 0) h q (nests→Nests vs n 0 (suc k) (omega arith) i q b))
