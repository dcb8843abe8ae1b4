-- The readers: whose they are, how many there are, and when they stay the same.
use Prim.Native.Nat.{ℕ, zero, suc, ◌+◌, ◌≤◌, ◌<◌}
use mathlib.Core.Path.{◌≡◌, refl, sym, ap, ap₂, ◌∙◌}
use mathlib.Core.Logic.{◌≢◌, ◌⊎◌, inl, inr}
use mathlib.Core.Bool.{Bool, true, false, cond}
use mathlib.Core.List.{List, [], ◌∷◌, Memᴰ}
use native.Mathlib.Omega.{arith}
use lib.ListN.{length}
use lib.Dec.{T, eqb}
use Rattle.names.specs.declared.Sizes.{Sizes}
use Rattle.rules.specs.Tables.{Reader, up_to, outside, a_relaxed, Txn, txn, is_reader, reader_in, readers_from, readers}
use Rattle.rules.proofs.Tests.{same?, true_is, false_is}

-- ---- each is there
reader_in_from :
    (t : List ℕ) (s : ℕ) → T (is_reader (txn t s)) → (m i : ℕ) → i ≤ s → s < i + m
    → Memᴰ (reader_in t s) (readers_from t i m)
unfolding readers_from
reader_in_from t s q zero i l h = absurd (omega arith)
reader_in_from t s q (suc m) i l h =
    go (same? i s) (is_reader (txn t i)) refl (λ k. reader_in_from t s q m (suc i) k (omega arith))
  where
    go :
        (i ≡ s) ⊎ (i ≢ s) → (b : Bool) → is_reader (txn t i) ≡ b → (suc i ≤ s → Memᴰ (reader_in t s) (readers_from t (suc i) m))
        → Memᴰ (reader_in t s) (cond b (reader_in t i ∷ readers_from t (suc i) m) (readers_from t (suc i) m))
    go (inl e) true f ih = Memᴰ.head (ap (reader_in t) (sym e))
    go (inl e) false f ih = absurd (false_is (ap (λ (j : ℕ). is_reader (txn t j)) (sym e) ∙ f) q)
    go (inr d) true f ih = Memᴰ.tail (ih (omega arith))
    go (inr d) false f ih = ih (omega arith)

pub reader_in_lem : (S : Sizes) (t : List ℕ) (s : ℕ) → s < S.slots → T (is_reader (txn t s)) → Memᴰ (reader_in t s) (readers S t)
unfolding readers
reader_in_lem S t s h q = reader_in_from t s q S.slots 0 (omega arith) (omega arith)

-- ---- and no other
in_reader-from :
    (t : List ℕ) (q : Reader) (m i : ℕ) → Memᴰ q (readers_from t i m)
    → (s : ℕ) × (s < i + m) × T (is_reader (txn t s)) × (reader_in t s ≡ q)
unfolding readers_from
in_reader-from t q zero i h = absurd (none h)
  where
    none : Memᴰ q [] → ⊥
    none = elim [ ]
in_reader-from t q (suc m) i h = go (is_reader (txn t i)) refl h (in_reader-from t q m (suc i))
  where
    Found : ℕ → Type 0
    Found n = (s : ℕ) × (s < n) × T (is_reader (txn t s)) × (reader_in t s ≡ q)

    on : Found (suc i + m) → Found (i + suc m)
    on r = (r.0, (let k = r.1 in omega arith), r.2, r.3)

    go :
        (b : Bool) → is_reader (txn t i) ≡ b → Memᴰ q (cond b (reader_in t i ∷ readers_from t (suc i) m) (readers_from t (suc i) m))
        → (Memᴰ q (readers_from t (suc i) m) → Found (suc i + m)) → Found (i + suc m)
    go true e (Memᴰ.head f) ih = (i, omega arith, true_is e, sym f)
    go true e (Memᴰ.tail n) ih = on (ih n)
    go false e n ih = on (ih n)

pub in_reader :
    (S : Sizes) (t : List ℕ) (q : Reader) → Memᴰ q (readers S t)
    → (s : ℕ) × (s < S.slots) × T (is_reader (txn t s)) × (reader_in t s ≡ q)
unfolding readers
in_reader S t q h =
    let r = in_reader-from t q S.slots 0 h in
    (r.0, (let k = r.1 in omega arith), r.2, r.3)

-- ---- at most as many as slots, and one less where a slot has none
length-cond : (b : Bool) (x : Reader) (l : List Reader) → length (cond b (x ∷ l) l) ≤ suc (length l)
length-cond true x l = omega arith
length-cond false x l = omega arith

readers-le-from : (t : List ℕ) (m i : ℕ) → length (readers_from t i m) ≤ m
unfolding readers_from
readers-le-from t zero i = omega arith
readers-le-from t (suc m) i =
    let a = length-cond (is_reader (txn t i)) (reader_in t i) (readers_from t (suc i) m) in
    let b = readers-le-from t m (suc i) in
    omega arith

pub readers-le : (S : Sizes) (t : List ℕ) → length (readers S t) ≤ S.slots
unfolding readers
readers-le S t = readers-le-from t S.slots 0

readers-lt-from :
    (t : List ℕ) (s : ℕ) → is_reader (txn t s) ≡ false → (m i : ℕ) → i ≤ s → s < i + m → length (readers_from t i m) < m
unfolding readers_from
readers-lt-from t s e zero i l h = absurd (omega arith)
readers-lt-from t s e (suc m) i l h = go (same? i s) (λ k. readers-lt-from t s e m (suc i) k (omega arith))
  where
    rest : List Reader
    rest = readers_from t (suc i) m

    go :
        (i ≡ s) ⊎ (i ≢ s) → (suc i ≤ s → length rest < m)
        → length (cond (is_reader (txn t i)) (reader_in t i ∷ rest) rest) < suc m
    go (inl q) ih =
        let z : is_reader (txn t i) ≡ false = ap (λ (j : ℕ). is_reader (txn t j)) q ∙ e in
        rw z (let b = readers-le-from t m (suc i) in omega arith)
    go (inr d) ih =
        let a = length-cond (is_reader (txn t i)) (reader_in t i) rest in
        let b = ih (omega arith) in
        omega arith

pub readers-lt : (S : Sizes) (t : List ℕ) (s : ℕ) → s < S.slots → is_reader (txn t s) ≡ false → length (readers S t) < S.slots
unfolding readers
readers-lt S t s h e = readers-lt-from t s e S.slots 0 (omega arith) (omega arith)

-- ---- where the same slots read, and in the same way, the readers are the same
module _
    (t t' : List ℕ)
    (same : (r : ℕ) → (is_reader (txn t' r) ≡ is_reader (txn t r)) × (T (is_reader (txn t r)) → reader_in t' r ≡ reader_in t r))
  where
    readers-same-from : (m i : ℕ) → readers_from t' i m ≡ readers_from t i m
    unfolding readers_from
    readers-same-from zero i = refl
    readers-same-from (suc m) i =
        ap (λ (b : Bool). cond b (reader_in t' i ∷ readers_from t' (suc i) m) (readers_from t' (suc i) m)) (same i).0
        ∙ go (is_reader (txn t i)) refl (readers-same-from m (suc i))
      where
        go :
            (b : Bool) → is_reader (txn t i) ≡ b → readers_from t' (suc i) m ≡ readers_from t (suc i) m
            → cond b (reader_in t' i ∷ readers_from t' (suc i) m) (readers_from t' (suc i) m)
            ≡ cond b (reader_in t i ∷ readers_from t (suc i) m) (readers_from t (suc i) m)
        go true e h = ap₂ {C = List Reader} ◌∷◌ ((same i).1 (true_is e)) h
        go false e h = h

    pub readers-same : (S : Sizes) → readers S t' ≡ readers S t
    unfolding readers
    readers-same S = readers-same-from S.slots 0

-- so they are where a row is the same row, or neither reads
pub same-reader :
    (t t' : List ℕ) (r : ℕ) → (txn t' r ≡ txn t r) ⊎ ((is_reader (txn t' r) ≡ false) × (is_reader (txn t r) ≡ false))
    → (is_reader (txn t' r) ≡ is_reader (txn t r)) × (T (is_reader (txn t r)) → reader_in t' r ≡ reader_in t r)
unfolding reader_in
same-reader t t' r (inl e) = (ap is_reader e, λ h. ap (λ (w : Txn). cond (eqb w.kind a_relaxed) (outside r) (up_to w.start)) e)
same-reader t t' r (inr e) = (e.0 ∙ sym e.1, λ h. absurd (false_is e.1 h))
