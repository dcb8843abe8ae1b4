-- The test of one row of versions says what GoodVersions says.
use Prim.Native.Nat.{ℕ, zero, suc, ◌+◌, ◌-◌, ◌*◌, ◌≤◌, ◌<◌}
use mathlib.Core.Path.{◌≡◌, refl, sym, ap, ◌∙◌, subst}
use mathlib.Core.Bool.{Bool, true, false, ◌&&◌, ◌||◌}
use mathlib.Core.List.{List, [], ◌∷◌}
use native.Mathlib.Omega.{arith}
use native.Mathlib.Nat.{zero-add}
use lib.ListN.{length, get_or, take, drop, length-take, get_or-eq_default}
use lib.Seq.{get_or-drop, get_or-take}
use lib.Dec.{T, eqb, leb, ltb, leb→le, le→leb}
use borrow.Author.Tests.{ltb-true, ltb-false}
use Rattle.names.specs.declared.Sizes.{Sizes}
use Rattle.rules.specs.Words.{every, bit, contains}
use Rattle.rules.specs.Tables.{clock, txn, is_reader, live_relaxed, masks_at, Reader, reader_in, readers, relaxed_in}
use Rattle.rules.specs.Versions.{Version, no_version, versions_in, stamp_at, hidden_at, sees, place, read_by_some}
use Rattle.rules.specs.Good.{GoodVersions}
use Rattle.rules.specs.Tested.{falls, nests, last_seen, all_read, versions_good}
use Rattle.rules.proofs.Tests.{and_left, and_right, and_both, or_right, eq_make, false_is}
use Rattle.rules.proofs.Bits.{bit_none, contains→, →contains, slots→, →slots}
use Rattle.rules.proofs.Counts.{some_mem, every_mem, mem_every}
use Rattle.rules.proofs.Choice.{length-versions_in, zero_each, zero_all, Falls, falls→Falls, Falls→falls, Nests, nests→Nests, Nests→nests, place_exists}
use Rattle.rules.proofs.Trim.{→all_read, reader}
use Rattle.rules.proofs.Readers.{reader_in_lem, in_reader}

-- ---- the slots of relaxed queries
pub relaxed→ : (S : Sizes) (t : List ℕ) (q : ℕ) → T (bit (relaxed_in S t) q) → (q < S.slots) × T (live_relaxed (txn t q))
unfolding relaxed_in
relaxed→ S t q h = slots→ S.slots (λ s. live_relaxed (txn t s)) q h

pub →relaxed : (S : Sizes) (t : List ℕ) (q : ℕ) → q < S.slots → T (live_relaxed (txn t q)) → T (bit (relaxed_in S t) q)
unfolding relaxed_in
→relaxed S t q l h = →slots S.slots (λ s. live_relaxed (txn t s)) q l h

-- past the versions nothing is hidden
pub unhidden-past : (vs : List Version) (k q : ℕ) → T (bit (hidden_at vs k) q) → k < length vs
unfolding hidden_at
unhidden-past [] k q h = absurd (false_is (bit_none q) h)
unhidden-past (v ∷ vs) zero q h = omega arith
unhidden-past (v ∷ vs) (suc k) q h = let l = unhidden-past vs k q h in omega arith

module _ (S : Sizes) (t r : List ℕ) where
  abbrev vs : List Version
  vs = versions_in S r

  abbrev qs : List Reader
  qs = readers S t

  abbrev n : ℕ
  n = get_or r 0 0

  abbrev last_of : Version
  last_of = get_or vs (length vs - 1) no_version

  -- the tests, as they are put together
  abbrev pairs_zero : Bool
  pairs_zero = every (λ w. eqb w 0) (drop (1 + 2 * n) (take (masks_at S) r))

  abbrev masks_zero : Bool
  masks_zero = every (λ w. eqb w 0) (drop (masks_at S + n) r)

  abbrev in_order : Bool
  in_order =
      falls vs
      && (nests vs
      && (contains (relaxed_in S t) (hidden_at vs 0) && (leb (stamp_at vs 0) (clock t) && (last_seen qs vs && all_read qs vs 0 vs))))

  -- ---- from the test
  pub versions→Good : T (versions_good S (clock t) (readers S t) (relaxed_in S t) r) → GoodVersions S t r
  unfolding versions_good last_seen Falls Nests
  versions→Good h =
      record {
        count_least = least;
        count_most = leb→le n S.places (and_left (leb n S.places) _ h₂);
        unused =
            λ k l m.
            sym (get_or-take (masks_at S) r k 0 m)
            ∙ ap (λ (j : ℕ). get_or (take (masks_at S) r) j 0) (let e : k ≡ (1 + 2 * n) + (k - (1 + 2 * n)) = omega arith in e)
            ∙ sym (get_or-drop (1 + 2 * n) (take (masks_at S) r) (k - (1 + 2 * n)) 0)
            ∙ zero_each (drop (1 + 2 * n) (take (masks_at S) r)) (and_left pairs_zero _ h₃) (k - (1 + 2 * n));
        unhidden =
            λ k l.
            ap (λ (j : ℕ). get_or r j 0) (let e : masks_at S + k ≡ (masks_at S + n) + (k - n) = omega arith in e)
            ∙ sym (get_or-drop (masks_at S + n) r (k - n) 0)
            ∙ zero_each (drop (masks_at S + n) r) (and_left masks_zero _ h₄) (k - n);
        fall = falls→Falls vs (and_left (falls vs) _ h₅);
        nest = nest;
        from_relaxed = λ k q b. relaxed→ S t q (contains→ (relaxed_in S t) (hidden_at vs 0) (and_left (contains (relaxed_in S t) (hidden_at vs 0)) _ h₇) q (top k q b));
        first = leb→le (stamp_at vs 0) (clock t) (and_left (leb (stamp_at vs 0) (clock t)) _ h₈);
        last = last;
        reads = λ k z. (λ l. to k z l, λ m. from k m);
      }
    where
      h₂ : T (leb n S.places && (pairs_zero && (masks_zero && in_order)))
      h₂ = and_right (leb 1 n) _ h

      h₃ : T (pairs_zero && (masks_zero && in_order))
      h₃ = and_right (leb n S.places) _ h₂

      h₄ : T (masks_zero && in_order)
      h₄ = and_right pairs_zero _ h₃

      h₅ : T in_order
      h₅ = and_right masks_zero _ h₄

      h₆ : T (nests vs && (contains (relaxed_in S t) (hidden_at vs 0) && (leb (stamp_at vs 0) (clock t) && (last_seen qs vs && all_read qs vs 0 vs))))
      h₆ = and_right (falls vs) _ h₅

      h₇ : T (contains (relaxed_in S t) (hidden_at vs 0) && (leb (stamp_at vs 0) (clock t) && (last_seen qs vs && all_read qs vs 0 vs)))
      h₇ = and_right (nests vs) _ h₆

      h₈ : T (leb (stamp_at vs 0) (clock t) && (last_seen qs vs && all_read qs vs 0 vs))
      h₈ = and_right (contains (relaxed_in S t) (hidden_at vs 0)) _ h₇

      h₉ : T (last_seen qs vs && all_read qs vs 0 vs)
      h₉ = and_right (leb (stamp_at vs 0) (clock t)) _ h₈

      least : 1 ≤ n
      least = leb→le 1 n (and_left (leb 1 n) _ h)

      nest : (i j : ℕ) → i < j → j < length vs → (q : ℕ) → T (bit (hidden_at vs j) q) → T (bit (hidden_at vs i) q)
      nest = nests→Nests vs (and_left (nests vs) _ h₆)

      -- what is hidden is hidden in front
      top : (k q : ℕ) → T (bit (hidden_at vs k) q) → T (bit (hidden_at vs 0) q)
      top zero q b = b
      top (suc k) q b = nest 0 (suc k) (omega arith) (unhidden-past vs (suc k) q b) q b

      last : (s : ℕ) → s < S.slots → T (is_reader (txn t s)) → T (sees (reader_in t s) last_of)
      last s l q = every_mem (λ q. sees q last_of) (and_left (last_seen qs vs) (all_read qs vs 0 vs) h₉) (reader_in_lem S t s l q)

      -- an older version has a reader
      to :
          (k : ℕ) → 0 < k → k < length vs
          → (s : ℕ) × (s < S.slots) × T (is_reader (txn t s)) × (place (reader_in t s) vs ≡ k)
      to k z l =
          let m = reader qs vs (and_right (last_seen qs vs) (all_read qs vs 0 vs) h₉) k z l in
          let s = in_reader S t m.0 m.1 in
          (s.0, s.1, s.2, ap (λ (q : Reader). place q vs) s.3 ∙ m.2)

      -- each reader reads a version that is there: it may read the last
      from : (k : ℕ) → (s : ℕ) × (s < S.slots) × T (is_reader (txn t s)) × (place (reader_in t s) vs ≡ k) → k < length vs
      from k m =
          subst (λ (j : ℕ). j < length vs) m.3
          (place_exists (reader_in t m.0) vs (let e = length-versions_in S r in omega (arith, least)) (last m.0 m.1 m.2))

  -- ---- to the test
  pub Good→read : GoodVersions S t r → T (all_read (readers S t) (versions_in S r) 0 (versions_in S r))
  unfolding read_by_some
  Good→read g = →all_read qs vs 0 vs each
    where
      each : (j : ℕ) → j < length vs → T (eqb (0 + j) 0 || read_by_some qs vs (0 + j))
      each zero l = tt
      each (suc j) l =
          let m = (g.reads (suc j) (omega arith)).0 l in
          or_right (eqb (0 + suc j) 0) (read_by_some qs vs (0 + suc j))
          (some_mem (λ q. eqb (place q vs) (0 + suc j)) (reader_in_lem S t m.0 m.1 m.2)
          (eq_make (place (reader_in t m.0) vs) (0 + suc j) (m.3 ∙ sym (zero-add (suc j)))))

  -- words before the masks
  zero_before : GoodVersions S t r → (k : ℕ) → 2 * n < k → get_or (take (masks_at S) r) k 0 ≡ 0
  zero_before g k l = go (ltb k (masks_at S)) refl
    where
      go : (b : Bool) → ltb k (masks_at S) ≡ b → get_or (take (masks_at S) r) k 0 ≡ 0
      go true e = let m = ltb-true k (masks_at S) e in get_or-take (masks_at S) r k 0 m ∙ g.unused k l m
      go false e = get_or-eq_default (take (masks_at S) r) 0 (let m = ltb-false k (masks_at S) e in rw length-take (omega arith))

  pub Good→versions : GoodVersions S t r → T (versions_good S (clock t) (readers S t) (relaxed_in S t) r)
  unfolding versions_good last_seen Falls Nests
  Good→versions g =
      and_both (leb 1 n) _ (le→leb 1 n g.count_least)
      (and_both (leb n S.places) _ (le→leb n S.places g.count_most)
      (and_both pairs_zero _
      (zero_all (drop (1 + 2 * n) (take (masks_at S) r))
      (λ j. get_or-drop (1 + 2 * n) (take (masks_at S) r) j 0 ∙ zero_before g (1 + 2 * n + j) (omega arith)))
      (and_both masks_zero _
      (zero_all (drop (masks_at S + n) r)
      (λ j. get_or-drop (masks_at S + n) r j 0
      ∙ ap (λ (k : ℕ). get_or r k 0) (let e : masks_at S + n + j ≡ masks_at S + (n + j) = omega arith in e) ∙ g.unhidden (n + j) (omega arith)))
      (and_both (falls vs) _ (Falls→falls vs g.fall)
      (and_both (nests vs) _ (Nests→nests vs g.nest)
      (and_both (contains (relaxed_in S t) (hidden_at vs 0)) _
      (→contains (relaxed_in S t) (hidden_at vs 0) (λ q b. let m = g.from_relaxed 0 q b in →relaxed S t q m.0 m.1))
      (and_both (leb (stamp_at vs 0) (clock t)) _ (le→leb (stamp_at vs 0) (clock t) g.first)
      (and_both (last_seen qs vs) (all_read qs vs 0 vs)
      (mem_every (λ q. sees q last_of) qs
      (λ q m.
      let s = in_reader S t q m in
      subst (λ (p : Reader). T (sees p last_of)) s.3 (g.last s.0 s.1 s.2)))
      (Good→read g)))))))))
