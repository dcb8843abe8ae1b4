-- What is kept of a row of versions: the newest, and what each reader reads; and how many versions that are.
use Prim.Native.Nat.{ℕ, zero, suc, ◌+◌, ◌≤◌, ◌<◌}
use mathlib.Core.Path.{◌≡◌, refl, sym, ap, ◌∙◌}
use mathlib.Core.Logic.{◌⊎◌, inl, inr}
use mathlib.Core.Bool.{Bool, true, false, ◌||◌, cond}
use mathlib.Core.List.{List, [], ◌∷◌, Memᴰ}
use native.Mathlib.Omega.{arith}
use native.Mathlib.Nat.{add-zero, add-suc, suc-add, not-suc-le-zero, le_of_suc-le-suc}
use lib.ListN.{length, get_or}
use lib.Dec.{T, eqb, eqb→eq}
use borrow.Author.Tests.{ne_eqb}
use Rattle.rules.specs.Tables.{Reader}
use Rattle.rules.specs.Versions.{Version, no_version, stamp_at, sees, place, choice, read_by_some, kept_from, kept}
use Rattle.rules.specs.Tested.{all_read}
use Rattle.rules.proofs.Tests.{and_left, and_right, and_both, or_cases, or_left, or_right, is_true, true_is, false_is, eq_make}
use Rattle.rules.proofs.Counts.{some_mem, mem_some}
use Rattle.rules.proofs.Choice.{place_hit, place_miss, choice_hit, choice_miss}
use Rattle.rules.proofs.Passing.{tally, passing, counted-le, passing_some}

-- ---- the newest is kept, and stays in front
pub kept-first : (qs : List Reader) (v : Version) (vs : List Version) → kept qs (v ∷ vs) ≡ v ∷ kept_from qs (v ∷ vs) 1 vs
unfolding kept kept_from
kept-first qs v vs = refl

-- the newest stays the newest
pub kept_top : (qs : List Reader) (vs : List Version) → get_or (kept qs vs) 0 no_version ≡ get_or vs 0 no_version
unfolding kept kept_from
kept_top qs [] = refl
kept_top qs (v ∷ vs) = refl

pub kept-newest : (qs : List Reader) (vs : List Version) → stamp_at (kept qs vs) 0 ≡ stamp_at vs 0
unfolding stamp_at
kept-newest qs vs = ap (λ (v : Version). v.stamp) (kept_top qs vs)

-- ---- what all_read says of each place
pub all_read→ :
    (qs : List Reader) (vs : List Version) (k : ℕ) (rest : List Version) → T (all_read qs vs k rest)
    → (j : ℕ) → j < length rest → T (eqb (k + j) 0 || read_by_some qs vs (k + j))
unfolding all_read
all_read→ qs vs k [] h j l = absurd (not-suc-le-zero l)
all_read→ qs vs k (v ∷ rest) h zero l = rw add-zero (and_left (eqb k 0 || read_by_some qs vs k) (all_read qs vs (suc k) rest) h)
all_read→ qs vs k (v ∷ rest) h (suc j) l =
    rw add-suc
    (rw suc-add at (all_read→ qs vs (suc k) rest (and_right (eqb k 0 || read_by_some qs vs k) (all_read qs vs (suc k) rest) h) j (le_of_suc-le-suc l)))

pub →all_read :
    (qs : List Reader) (vs : List Version) (k : ℕ) (rest : List Version)
    → ((j : ℕ) → j < length rest → T (eqb (k + j) 0 || read_by_some qs vs (k + j))) → T (all_read qs vs k rest)
unfolding all_read
→all_read qs vs k [] f = tt
→all_read qs vs k (v ∷ rest) f =
    and_both (eqb k 0 || read_by_some qs vs k) (all_read qs vs (suc k) rest)
    (rw add-zero at (f 0 (omega arith)))
    (→all_read qs vs (suc k) rest (λ j l. rw suc-add (rw add-suc at (f (suc j) (omega arith)))))

-- every version but the newest has a reader
pub reader :
    (qs : List Reader) (vs : List Version) → T (all_read qs vs 0 vs)
    → (k : ℕ) → 0 < k → k < length vs → (q : Reader) × Memᴰ q qs × (place q vs ≡ k)
unfolding read_by_some
reader qs vs h zero z l = absurd (not-suc-le-zero z)
reader qs vs h (suc k) z l = go (or_cases (eqb (0 + suc k) 0) (read_by_some qs vs (0 + suc k)) (all_read→ qs vs 0 vs h (suc k) l))
  where
    go : T (eqb (0 + suc k) 0) ⊎ T (read_by_some qs vs (0 + suc k)) → (q : Reader) × Memᴰ q qs × (place q vs ≡ suc k)
    go (inl x) = absurd (let e = eqb→eq (0 + suc k) 0 x in omega arith)
    go (inr x) =
        let r = mem_some (λ q. eqb (place q vs) (0 + suc k)) qs x in
        (r.0, r.1, (let e = eqb→eq (place r.0 vs) (0 + suc k) r.2 in omega arith))

-- ---- how many are kept: at most one more than there are starts, and at most as many as there are
length-kept_from :
    (qs : List Reader) (vs : List Version) (k : ℕ) (rest : List Version) → 0 < k
    → length (kept_from qs vs k rest) ≡ passing (λ i. read_by_some qs vs i) k (length rest)
unfolding kept_from passing tally
length-kept_from qs vs k [] h = refl
length-kept_from qs vs k (v ∷ rest) h =
    rw (ne_eqb k 0 (λ e. omega arith)) (go (read_by_some qs vs k) (length-kept_from qs vs (suc k) rest (omega arith)))
  where
    go :
        (b : Bool) → length (kept_from qs vs (suc k) rest) ≡ passing (λ i. read_by_some qs vs i) (suc k) (length rest)
        → length (cond b (v ∷ kept_from qs vs (suc k) rest) (kept_from qs vs (suc k) rest))
        ≡ tally b (passing (λ i. read_by_some qs vs i) (suc k) (length rest))
    go true e = ap suc e
    go false e = e

pub length-kept : (qs : List Reader) (vs : List Version) → length (kept qs vs) ≤ 1 + length qs
unfolding kept kept_from read_by_some
length-kept qs [] = omega arith
length-kept qs (v ∷ vs) =
    let a = length-kept_from qs (v ∷ vs) 1 vs (omega arith) in
    let b = passing_some (λ q. true) (λ q. place q (v ∷ vs)) qs 1 (length vs) in
    let c = counted-le (λ q. true) qs in
    omega arith

pub length-kept-le : (qs : List Reader) (vs : List Version) → length (kept qs vs) ≤ length vs
unfolding kept kept_from
length-kept-le qs vs = from 0 vs
  where
    from : (k : ℕ) (rest : List Version) → length (kept_from qs vs k rest) ≤ length rest
    from k [] = omega arith
    from k (v ∷ rest) = go (eqb k 0 || read_by_some qs vs k) (from (suc k) rest)
      where
        go :
            (b : Bool) → length (kept_from qs vs (suc k) rest) ≤ length rest
            → length (cond b (v ∷ kept_from qs vs (suc k) rest) (kept_from qs vs (suc k) rest)) ≤ suc (length rest)
        go true h = omega arith
        go false h = omega arith

-- each of them was there
kept_of_from :
    (qs : List Reader) (vs : List Version) (i : ℕ) (rest : List Version) (k : ℕ) → k < length (kept_from qs vs i rest)
    → (j : ℕ) × (j < length rest) × (get_or (kept_from qs vs i rest) k no_version ≡ get_or rest j no_version)
unfolding kept_from
kept_of_from qs vs i [] k h = absurd (omega arith)
kept_of_from qs vs i (v ∷ rest) k h = go (eqb i 0 || read_by_some qs vs i) k (kept_of_from qs vs (suc i) rest) h
  where
    older : List Version
    older = kept_from qs vs (suc i) rest

    go :
        (b : Bool) (k : ℕ) → ((m : ℕ) → m < length older → (j : ℕ) × (j < length rest) × (get_or older m no_version ≡ get_or rest j no_version))
        → k < length (cond b (v ∷ older) older) → (j : ℕ) × (j < suc (length rest)) × (get_or (cond b (v ∷ older) older) k no_version ≡ get_or (v ∷ rest) j no_version)
    go true zero ih h = (0, omega arith, refl)
    go true (suc k) ih h = let w = ih k (omega arith) in (suc w.0, (let a = w.1 in omega arith), w.2)
    go false k ih h = let w = ih k h in (suc w.0, (let a = w.1 in omega arith), w.2)

pub kept_of :
    (qs : List Reader) (vs : List Version) (k : ℕ) → k < length (kept qs vs)
    → (j : ℕ) × (j < length vs) × (get_or (kept qs vs) k no_version ≡ get_or vs j no_version)
unfolding kept
kept_of qs vs k h = kept_of_from qs vs 0 vs k h

-- a row all of whose older versions are read is not changed
pub kept_fixed_from :
    (qs : List Reader) (vs : List Version) (k : ℕ) (rest : List Version) → T (all_read qs vs k rest) → kept_from qs vs k rest ≡ rest
unfolding kept_from all_read
kept_fixed_from qs vs k [] h = refl
kept_fixed_from qs vs k (v ∷ rest) h =
    let a = eqb k 0 || read_by_some qs vs k in
    rw (is_true a (and_left a (all_read qs vs (suc k) rest) h))
    (ap {B = List Version} (λ l. v ∷ l) (kept_fixed_from qs vs (suc k) rest (and_right a (all_read qs vs (suc k) rest) h)))

pub kept_fixed : (qs : List Reader) (vs : List Version) → T (all_read qs vs 0 vs) → kept qs vs ≡ vs
unfolding kept
kept_fixed qs vs h = kept_fixed_from qs vs 0 vs h

-- ---- each start finds what it found
-- the first of a row is chosen, or not
chosen_0 : (q : Reader) (w : Version) (rest : List Version) → place q (w ∷ rest) ≡ 0 → sees q w ≡ true
chosen_0 q w rest e = go (sees q w) refl
  where
    go : (b : Bool) → sees q w ≡ b → sees q w ≡ true
    go true f = f
    go false f = absurd (omega (arith, place_miss q w rest f))

passed : (q : Reader) (w : Version) (rest : List Version) → 0 < place q (w ∷ rest) → sees q w ≡ false
passed q w rest h = go (sees q w) refl
  where
    go : (b : Bool) → sees q w ≡ b → sees q w ≡ false
    go true f = absurd (omega (arith, place_hit q w rest f))
    go false f = f

module _ (qs : List Reader) (vs : List Version) where
  module _ (q : Reader) (alive : Memᴰ q qs) where
    read_there_lem : (k : ℕ) → place q vs ≡ k → T (eqb k 0 || read_by_some qs vs k)
    unfolding read_by_some
    read_there_lem k e =
        or_right (eqb k 0) (read_by_some qs vs k) (some_mem (λ r. eqb (place r vs) k) alive (eq_make (place q vs) k e))

    kept-choice-from :
        (k : ℕ) (rest : List Version) → place q vs ≡ k + place q rest → choice q (kept_from qs vs k rest) ≡ choice q rest
    unfolding kept_from
    kept-choice-from k [] h = refl
    kept-choice-from k (v ∷ rest) h =
        go (sees q v) refl (eqb k 0 || read_by_some qs vs k) refl (kept-choice-from (suc k) rest)
      where
        rest' : List Version
        rest' = kept_from qs vs (suc k) rest

        go :
            (b : Bool) → sees q v ≡ b → (c : Bool) → (eqb k 0 || read_by_some qs vs k) ≡ c
            → (place q vs ≡ suc k + place q rest → choice q rest' ≡ choice q rest)
            → choice q (kept_from qs vs k (v ∷ rest)) ≡ choice q (v ∷ rest)
        go true e true d ih = rw d (choice_hit q v rest' e ∙ sym (choice_hit q v rest e))
        go true e false d ih = absurd (false_is d (read_there_lem k (omega (arith, place_hit q v rest e))))
        go false e true d ih =
            rw d (choice_miss q v rest' e ∙ ih (omega (arith, place_miss q v rest e)) ∙ sym (choice_miss q v rest e))
        go false e false d ih = rw d (ih (omega (arith, place_miss q v rest e)) ∙ sym (choice_miss q v rest e))

    -- "those that some live query reads": each start chooses the same version as before
    pub kept-choice : choice q (kept qs vs) ≡ choice q vs
    unfolding kept
    kept-choice = kept-choice-from 0 vs (omega arith)

    kept-found-from :
        (k : ℕ) (rest : List Version) → place q vs ≡ k + place q rest → place q rest < length rest
        → place q (kept_from qs vs k rest) < length (kept_from qs vs k rest)
    unfolding kept_from
    kept-found-from k [] e h = h
    kept-found-from k (w ∷ rest) e h =
        go (sees q w) refl (eqb k 0 || read_by_some qs vs k) refl (kept-found-from (suc k) rest)
      where
        rest' : List Version
        rest' = kept_from qs vs (suc k) rest

        go :
            (b : Bool) → sees q w ≡ b → (c : Bool) → (eqb k 0 || read_by_some qs vs k) ≡ c
            → (place q vs ≡ suc k + place q rest → place q rest < length rest → place q rest' < length rest')
            → place q (kept_from qs vs k (w ∷ rest)) < length (kept_from qs vs k (w ∷ rest))
        go true x true y ih = rw y (omega (arith, place_hit q w rest' x))
        go true x false y ih = absurd (false_is y (read_there_lem k (omega (arith, place_hit q w rest x))))
        go false x true y ih =
            rw y
            (let a = ih (omega (arith, place_miss q w rest x)) (omega (arith, place_miss q w rest x)) in
            omega (arith, place_miss q w rest' x))
        go false x false y ih = rw y (ih (omega (arith, place_miss q w rest x)) (omega (arith, place_miss q w rest x)))

    -- who found a version still finds one
    pub kept-found : place q vs < length vs → place q (kept qs vs) < length (kept qs vs)
    unfolding kept
    kept-found h = kept-found-from 0 vs (omega arith) h

  -- ---- each version that is kept behind the newest is read, also by its new place
  abbrev K : List Version
  K = kept qs vs

  kept-read-from :
      (k j : ℕ) (rest : List Version) → ((q : Reader) → k ≤ place q vs → place q vs ≡ k + place q rest)
      → ((q : Reader) → k ≤ place q vs → place q K ≡ j + place q (kept_from qs vs k rest)) → (k ≡ 0 → j ≡ 0)
      → T (all_read qs K j (kept_from qs vs k rest))
  unfolding kept_from all_read read_by_some
  kept-read-from k j [] D H z = tt
  kept-read-from k j (w ∷ rest) D H z = go (eqb k 0 || read_by_some qs vs k) refl (λ j'. kept-read-from (suc k) j' rest D')
    where
      -- who looks further has passed this one
      fails : (q : Reader) → suc k ≤ place q vs → sees q w ≡ false
      fails q l = passed q w rest (let e = D q (omega arith) in omega arith)

      D' : (q : Reader) → suc k ≤ place q vs → place q vs ≡ suc k + place q rest
      D' q l = let e = D q (omega arith) in omega (arith, place_miss q w rest (fails q l))

      rest' : List Version
      rest' = kept_from qs vs (suc k) rest

      go :
          (b : Bool) → (eqb k 0 || read_by_some qs vs k) ≡ b
          → ((j' : ℕ) → ((q : Reader) → suc k ≤ place q vs → place q K ≡ j' + place q rest') → (suc k ≡ 0 → j' ≡ 0) → T (all_read qs K j' rest'))
          → T (all_read qs K j (cond (eqb k 0 || read_by_some qs vs k) (w ∷ rest') rest'))
      go true e ih =
          rw e
          (and_both (eqb j 0 || read_by_some qs K j) (all_read qs K (suc j) rest')
          (hit (or_cases (eqb k 0) (read_by_some qs vs k) (true_is e)))
          (ih (suc j)
          (λ q l. let a = (rw e at (H q (omega arith))) in omega (arith, place_miss q w rest' (fails q l)))
          (λ x. absurd (omega arith))))
        where
          hit : T (eqb k 0) ⊎ T (read_by_some qs vs k) → T (eqb j 0 || read_by_some qs K j)
          hit (inl x) = or_left (eqb j 0) (read_by_some qs K j) (eq_make j 0 (z (eqb→eq k 0 x)))
          hit (inr x) =
              let r = mem_some (λ q. eqb (place q vs) k) qs x in
              let q = r.0 in
              let p : place q vs ≡ k = eqb→eq (place q vs) k r.2 in
              let d : place q vs ≡ k + place q (w ∷ rest) = D q (omega arith) in
              let c : sees q w ≡ true = chosen_0 q w rest (omega arith) in
              let a : place q K ≡ j + place q (w ∷ rest') = (rw e at (H q (omega arith))) in
              or_right (eqb j 0) (read_by_some qs K j)
              (some_mem (λ q. eqb (place q K) j) r.1 (eq_make (place q K) j (omega (arith, place_hit q w rest' c))))
      go false e ih = rw e (ih j (λ q l. rw e at (H q (omega arith))) (λ x. absurd (omega arith)))

  pub kept_read : T (all_read qs K 0 K)
  unfolding kept
  kept_read = kept-read-from 0 0 vs (λ q l. omega arith) (λ q l. omega arith) (λ x. refl)
