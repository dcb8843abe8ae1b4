-- Who reads versions: those with a start, and the relaxed queries. What both ask of a version.
use Prim.Native.Nat.{ℕ, zero, suc, ◌+◌, ◌≤◌, ◌<◌}
use mathlib.Core.Path.{◌≡◌, refl, sym, ap, ◌∙◌, subst}
use mathlib.Core.Logic.{◌≢◌, ◌⊎◌, inl, inr}
use mathlib.Core.Bool.{Bool, true, false, ◌&&◌, ◌||◌, not, cond}
use mathlib.Core.List.Memᴰ
use mathlib.Core.List.{List, [], ◌∷◌, Memᴰ}
use native.Mathlib.Omega.{arith}
use lib.Dec.{T, eqb, leb, ltb, eqb→eq, leb→le, ltb→lt, lt→ltb}
use borrow.Author.Tests.{leb-false}
use Rattle.names.specs.declared.Sizes.{Sizes}
use Rattle.rules.specs.Words.{every, some, some_below, bit}
use Rattle.rules.specs.Tables.{Txn, txn, live, an_update, a_relaxed, is_reader, live_relaxed, Reader, up_to, outside, reader_in, readers, relaxed_in}
use Rattle.rules.specs.Versions.{Version, sees}
use Rattle.rules.proofs.Tests.{same?, iff_eq, and_left, and_right, and_both, or_cases, or_left, or_right, not_make, not_use, is_false, true_is, false_is, eq_make, ne_make, ne_use}
use Rattle.rules.proofs.Counts.{some_mem, mem_some, every_mem, mem_every, some_below→, →some_below}
use Rattle.rules.proofs.Bits.{bit_none, bit_below, below_power, no_bits, same_bits}
use Rattle.rules.proofs.RowKinds.{relaxed-live, relaxed-reads, reads_up_to, reads-outside}
use Rattle.rules.proofs.EqualVersions.{relaxed→, →relaxed}
use Rattle.rules.proofs.Readers.{reader_in_lem, in_reader}
use Rattle.rules.proofs.Reading.{between}
use Rattle.starts.specs.Starts.{reads_by_start, starts_from, starts, Split}

-- ---- each start is there
start_in_from :
    (t : List ℕ) (s : ℕ) → T (reads_by_start (txn t s)) → (m i : ℕ) → i ≤ s → s < i + m → Memᴰ (txn t s).start (starts_from t i m)
unfolding starts_from
start_in_from t s q zero i l h = absurd (omega arith)
start_in_from t s q (suc m) i l h =
    go (same? i s) (reads_by_start (txn t i)) refl (λ k. start_in_from t s q m (suc i) k (omega arith))
  where
    go :
        (i ≡ s) ⊎ (i ≢ s) → (b : Bool) → reads_by_start (txn t i) ≡ b → (suc i ≤ s → Memᴰ (txn t s).start (starts_from t (suc i) m))
        → Memᴰ (txn t s).start (cond b ((txn t i).start ∷ starts_from t (suc i) m) (starts_from t (suc i) m))
    go (inl e) true f ih = Memᴰ.head (ap (λ (j : ℕ). (txn t j).start) (sym e))
    go (inl e) false f ih = absurd (false_is (ap (λ (j : ℕ). reads_by_start (txn t j)) (sym e) ∙ f) q)
    go (inr d) true f ih = Memᴰ.tail (ih (omega arith))
    go (inr d) false f ih = ih (omega arith)

-- and no other
in_start-from :
    (t : List ℕ) (u m i : ℕ) → Memᴰ u (starts_from t i m)
    → (s : ℕ) × (s < i + m) × T (reads_by_start (txn t s)) × ((txn t s).start ≡ u)
unfolding starts_from
in_start-from t u zero i h = absurd (none h)
  where
    none : Memᴰ u [] → ⊥
    none = elim [ ]
in_start-from t u (suc m) i h = go (reads_by_start (txn t i)) refl h (in_start-from t u m (suc i))
  where
    Found : ℕ → Type 0
    Found n = (s : ℕ) × (s < n) × T (reads_by_start (txn t s)) × ((txn t s).start ≡ u)

    on : Found (suc i + m) → Found (i + suc m)
    on r = (r.0, (let k = r.1 in omega arith), r.2, r.3)

    go :
        (b : Bool) → reads_by_start (txn t i) ≡ b → Memᴰ u (cond b ((txn t i).start ∷ starts_from t (suc i) m) (starts_from t (suc i) m))
        → (Memᴰ u (starts_from t (suc i) m) → Found (suc i + m)) → Found (i + suc m)
    go true e (Memᴰ.head f) ih = (i, omega arith, true_is e, sym f)
    go true e (Memᴰ.tail n) ih = on (ih n)
    go false e n ih = on (ih n)

-- ---- who reads versions, by its kind
module _ (r : Txn) where
  start-reader : T (reads_by_start r) → T (is_reader r) × (r.kind ≢ a_relaxed)
  unfolding reads_by_start is_reader
  start-reader h =
      let k = and_right (live r) _ h in
      (and_both (live r) _ (and_left (live r) _ h) (and_left (not (eqb r.kind an_update)) _ k), ne_use r.kind a_relaxed (and_right (not (eqb r.kind an_update)) _ k))

  reader-start : T (is_reader r) → r.kind ≢ a_relaxed → T (reads_by_start r)
  unfolding reads_by_start is_reader
  reader-start h d =
      and_both (live r) _ (and_left (live r) _ h)
      (and_both (not (eqb r.kind an_update)) _ (and_right (live r) _ h) (ne_make r.kind a_relaxed d))

  reader-relaxed : T (is_reader r) → r.kind ≡ a_relaxed → T (live_relaxed r)
  unfolding live_relaxed is_reader
  reader-relaxed h e = and_both (live r) _ (and_left (live r) _ h) (eq_make r.kind a_relaxed e)

pub readers-split : (S : Sizes) (t : List ℕ) → Split (readers S t) (starts S t) (relaxed_in S t)
unfolding starts
readers-split S t =
    record {
      start = λ u h.
          let k = in_start-from t u S.slots 0 h in
          let r = start-reader (txn t k.0) k.2 in
          Memᴰ.cast (sym (reads_up_to t k.0 r.1 ∙ ap up_to k.3)) (reader_in_lem S t k.0 (let l = k.1 in omega arith) r.0);
      relaxed = λ s h.
          let k = relaxed→ S t s h in
          Memᴰ.cast (sym (reads-outside t s (relaxed-live (txn t s) k.1).1)) (reader_in_lem S t s k.0 (relaxed-reads (txn t s) k.1));
      only = λ q h.
          let k = in_reader S t q h in
          kinds k.0 k.1 k.2 q k.3 (same? (txn t k.0).kind a_relaxed);
    }
  where
    kinds :
        (s : ℕ) → s < S.slots → T (is_reader (txn t s)) → (q : Reader) → reader_in t s ≡ q
        → ((txn t s).kind ≡ a_relaxed) ⊎ ((txn t s).kind ≢ a_relaxed)
        → ((u : ℕ) × Memᴰ u (starts_from t 0 S.slots) × (q ≡ up_to u)) ⊎ ((s : ℕ) × T (bit (relaxed_in S t) s) × (q ≡ outside s))
    kinds s l h q e (inl k) = inr (s, →relaxed S t s l (reader-relaxed (txn t s) h k), sym e ∙ reads-outside t s k)
    kinds s l h q e (inr d) =
        inl ((txn t s).start, start_in_from t s (reader-start (txn t s) h d) S.slots 0 (omega arith) (omega arith), sym e ∙ reads_up_to t s d)

-- ---- two words, the one within the other, are different if a bit of the one is none of the other
bit-more : (a b : ℕ) → a ≢ b → ((i : ℕ) → T (bit a i) → T (bit b i)) → (i : ℕ) × T (bit b i) × (T (bit a i) → ⊥)
bit-more a b d f = go (some_below b (λ i. bit b i && not (bit a i))) refl
  where
    go : (c : Bool) → some_below b (λ i. bit b i && not (bit a i)) ≡ c → (i : ℕ) × T (bit b i) × (T (bit a i) → ⊥)
    go true e =
        let k = some_below→ b (λ i. bit b i && not (bit a i)) (true_is e) in
        (k.0, and_left (bit b k.0) _ k.2, not_use (bit a k.0) (and_right (bit b k.0) _ k.2))
    go false e =
        absurd (d (same_bits a b (λ i. iff_eq (bit a i) (bit b i) (f i) (λ t. old i t (bit a i) refl))))
      where
        old : (i : ℕ) → T (bit b i) → (c : Bool) → bit a i ≡ c → T (bit a i)
        old i t true z = true_is z
        old i t false z =
            absurd (false_is e (→some_below b (λ i. bit b i && not (bit a i)) i (bit_below b i b (below_power b) t)
            (and_both (bit b i) _ t (not_make (bit a i) (false_is z)))))

-- some start lies from lo on and below hi
unfoldable pub within : List ℕ → ℕ → ℕ → Bool
within us lo hi = some (λ u. leb lo u && ltb u hi) us

module _ (qs : List Reader) (us : List ℕ) (m : ℕ) (split : Split qs us m) where
  -- some reader may read the one version and not the other, which is hidden from whom that is, and from relaxed queries alone: a start
  -- lies between their stamps, or the sets differ
  pub split_between :
      (older newer : Version) → ((i : ℕ) → T (bit older.hidden i) → T (bit newer.hidden i)) → ((i : ℕ) → T (bit newer.hidden i) → T (bit m i))
      → between qs older newer ≡ (within us older.stamp newer.stamp || not (eqb newer.hidden older.hidden))
  unfolding between within sees
  split_between older newer nested known =
      iff_eq (some test qs) (some inside us || differ) to from
    where
      test : Reader → Bool
      test q = sees q older && not (sees q newer)

      inside : ℕ → Bool
      inside u = leb older.stamp u && ltb u newer.stamp

      differ : Bool
      differ = not (eqb newer.hidden older.hidden)

      one : (q : Reader) → T (test q) → ((u : ℕ) × Memᴰ u us × (q ≡ up_to u)) ⊎ ((s : ℕ) × T (bit m s) × (q ≡ outside s)) → T (some inside us || differ)
      one q t (inl k) =
          let h : T (test (up_to k.0)) = subst (λ (q : Reader). T (test q)) k.2 t in
          let a = and_left (leb older.stamp k.0) _ h in
          let b = leb-false newer.stamp k.0 (is_false _ (not_use (leb newer.stamp k.0) (and_right (leb older.stamp k.0) _ h))) in
          or_left (some inside us) differ
          (some_mem inside k.1 (and_both (leb older.stamp k.0) _ a (lt→ltb k.0 newer.stamp b)))
      one q t (inr k) =
          let h : T (test (outside k.0)) = subst (λ (q : Reader). T (test q)) k.2 t in
          let a = not_use (bit older.hidden k.0) (and_left (not (bit older.hidden k.0)) _ h) in
          or_right (some inside us) differ
          (ne_make newer.hidden older.hidden
          (λ e. not_use (not (bit newer.hidden k.0)) (and_right (not (bit older.hidden k.0)) _ h)
          (subst (λ (w : ℕ). T (not (bit w k.0))) (sym e) (not_make (bit older.hidden k.0) a))))

      to : T (some test qs) → T (some inside us || differ)
      to t = let k = mem_some test qs t in one k.0 k.2 (split.only k.0 k.1)

      from : T (some inside us || differ) → T (some test qs)
      from t = go (or_cases (some inside us) differ t)
        where
          go : T (some inside us) ⊎ T differ → T (some test qs)
          go (inl h) =
              let k = mem_some inside us h in
              let u = k.0 in
              let a = and_left (leb older.stamp u) _ k.2 in
              let b = ltb→lt u newer.stamp (and_right (leb older.stamp u) _ k.2) in
              some_mem test (split.start u k.1)
              (and_both (leb older.stamp u) _ a (not_make (leb newer.stamp u) (λ z. let w = leb→le newer.stamp u z in absurd (omega arith))))
          go (inr h) =
              let k = bit-more older.hidden newer.hidden (λ e. ne_use newer.hidden older.hidden h (sym e)) nested in
              let s = k.0 in
              some_mem test (split.relaxed s (known s k.1))
              (and_both (not (bit older.hidden s)) _ (not_make (bit older.hidden s) k.2)
              (not_make (not (bit newer.hidden s)) (λ z. not_use (bit newer.hidden s) z k.1)))

  -- every reader may read a version that is hidden from relaxed queries alone: every start is from its stamp on, and it is hidden from none
  pub split-seen :
      (v : Version) → ((i : ℕ) → T (bit v.hidden i) → T (bit m i))
      → every (λ q. sees q v) qs ≡ (every (λ u. leb v.stamp u) us && eqb v.hidden 0)
  unfolding sees
  split-seen v known =
      iff_eq (every (λ q. sees q v) qs) (every (λ u. leb v.stamp u) us && eqb v.hidden 0)
      (λ t.
      and_both (every (λ u. leb v.stamp u) us) _
      (mem_every (λ u. leb v.stamp u) us (λ u h. every_mem (λ q. sees q v) t (split.start u h)))
      (eq_make v.hidden 0
      (no_bits v.hidden (λ i. is_false (bit v.hidden i) (λ b. not_use (bit v.hidden i) (every_mem (λ q. sees q v) t (split.relaxed i (known i b))) b)))))
      (λ t.
      mem_every (λ q. sees q v) qs
      (λ q h. go (and_left (every (λ u. leb v.stamp u) us) _ t) (eqb→eq v.hidden 0 (and_right (every (λ u. leb v.stamp u) us) _ t)) q (split.only q h)))
    where
      go :
          T (every (λ u. leb v.stamp u) us) → v.hidden ≡ 0 → (q : Reader)
          → ((u : ℕ) × Memᴰ u us × (q ≡ up_to u)) ⊎ ((s : ℕ) × T (bit m s) × (q ≡ outside s)) → T (sees q v)
      go t e q (inl k) = subst (λ (q : Reader). T (sees q v)) (sym k.2) (every_mem (λ u. leb v.stamp u) t k.1)
      go t e q (inr k) =
          subst (λ (q : Reader). T (sees q v)) (sym k.2)
          (not_make (bit v.hidden k.0) (λ b. false_is (bit_none k.0) (subst (λ (w : ℕ). T (bit w k.0)) e b)))
