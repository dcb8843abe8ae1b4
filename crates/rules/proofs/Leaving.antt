-- What is kept of a row where at most one of its versions lost its readers: when one who read it leaves, and when a new version
-- comes in front.
use Prim.Native.Nat.{ℕ, zero, suc, ◌+◌, ◌<◌}
use mathlib.Core.Path.{◌≡◌, refl, sym, ap, ap₂, ◌∙◌, subst, fun_ext}
use mathlib.Core.Logic.{◌≢◌, ◌⊎◌, inl, inr}
use mathlib.Core.Bool.{Bool, true, false, ◌||◌, cond}
use mathlib.Core.List.{List, [], ◌∷◌, ◌++◌}
use native.Mathlib.Omega.{arith}
use native.Mathlib.Nat.{zero-add}
use lib.ListN.{length, get_or, take, drop}
use lib.Seq.{take-nil}
use lib.Dec.{T, eqb, eqb→eq, leb→le, le→leb}
use borrow.Author.Tests.{ne_eqb}
use Rattle.rules.specs.Words.{some, bit}
use Rattle.rules.specs.Tables.{Reader, up_to, outside}
use Rattle.rules.specs.Versions.{Version, no_version, stamp_at, hidden_at, sees, place, read_by_some, kept_from, kept}
use Rattle.rules.specs.Tested.{all_read}
use Rattle.rules.proofs.Tests.{or_right, is_true, is_false, true_is, not_make, not_use, eq_make, iff_eq}
use Rattle.rules.proofs.Counts.{some_mem}
use Rattle.rules.proofs.Choice.{place_hit, place_miss, place_above}
use Rattle.rules.proofs.Trim.{→all_read, reader, kept_fixed, kept_fixed_from, kept_read}
use Rattle.rules.proofs.Reading.{between, read_between}

-- every version behind the newest is read by some of qs, but perhaps the one at place p
module _
    (qs : List Reader) (vs : List Version) (p : ℕ)
    (others : (k : ℕ) → 0 < k → k < length vs → (p ≡ k) ⊎ T (read_by_some qs vs k))
  where
    -- place k has a reader, or needs none, or is p
    abbrev Held : ℕ → Type 0
    Held k = (p ≡ k) ⊎ T (eqb k 0 || read_by_some qs vs k)

    held : (k : ℕ) → k < length vs → Held k
    held zero h = inr tt
    held (suc k) h = go (others (suc k) (omega arith) h)
      where
        go : (p ≡ suc k) ⊎ T (read_by_some qs vs (suc k)) → Held (suc k)
        go (inl e) = inl e
        go (inr t) = inr (or_right (eqb (suc k) 0) (read_by_some qs vs (suc k)) t)

    -- what holds of a place that is not p
    but : (k : ℕ) → p ≢ k → Held k → T (eqb k 0 || read_by_some qs vs k)
    but k d (inl e) = absurd (d e)
    but k d (inr t) = t

    -- if p is the newest, or is read too, all stay
    all_stay : T (eqb p 0 || read_by_some qs vs p) → kept qs vs ≡ vs
    all_stay h =
        kept_fixed qs vs
        (→all_read qs vs 0 vs (λ j l. subst (λ (k : ℕ). T (eqb k 0 || read_by_some qs vs k)) (sym (zero-add j)) (go j (held j l))))
      where
        go : (j : ℕ) → Held j → T (eqb j 0 || read_by_some qs vs j)
        go j (inl e) = subst (λ (k : ℕ). T (eqb k 0 || read_by_some qs vs k)) e h
        go j (inr t) = t

    -- else it goes, and no other: of those from place k on, n of which stand before it
    one_goes :
        (eqb p 0 || read_by_some qs vs p) ≡ false → (n k : ℕ) (rest : List Version) → k + n ≡ p
        → ((j : ℕ) → j < length rest → Held (k + j)) → kept_from qs vs k rest ≡ take n rest ++ drop (suc n) rest
    unfolding kept_from
    one_goes u n k [] e f = sym (ap (λ (l : List Version). l ++ []) (take-nil n))
    one_goes u zero k (v ∷ rest) e f =
        let z : p ≡ k = omega arith in
        rw (subst (λ (i : ℕ). (eqb i 0 || read_by_some qs vs i) ≡ false) z u)
        (kept_fixed_from qs vs (suc k) rest
        (→all_read qs vs (suc k) rest (λ j l. but (suc k + j) (λ y. omega arith) (subst Held (let y : k + suc j ≡ suc k + j = omega arith in y) (f (suc j) (omega arith))))))
    one_goes u (suc n) k (v ∷ rest) e f =
        rw (is_true (eqb k 0 || read_by_some qs vs k) (but k (λ y. omega arith) (subst Held (let y : k + 0 ≡ k = omega arith in y) (f 0 (omega arith)))))
        (ap {B = List Version} (λ l. v ∷ l)
        (one_goes u n (suc k) rest (omega arith) (λ j l. subst Held (let y : k + suc j ≡ suc k + j = omega arith in y) (f (suc j) (omega arith)))))

    pub one_may_go : kept qs vs ≡ cond (eqb p 0 || read_by_some qs vs p) vs (take p vs ++ drop (suc p) vs)
    one_may_go = go (eqb p 0 || read_by_some qs vs p) refl
      where
        go : (b : Bool) → (eqb p 0 || read_by_some qs vs p) ≡ b → kept qs vs ≡ cond b vs (take p vs ++ drop (suc p) vs)
        go true e = all_stay (true_is e)
        go false e = unfold kept in one_goes e p 0 vs (zero-add p) (λ j l. subst Held (sym (zero-add j)) (held j l))

-- ---- the reader q leaves, qs are those who stay: the version that it read goes, unless it is the newest or one of
-- them reads it
pub reader-leaves :
    (q : Reader) (qs : List Reader) (vs : List Version) → ((k : ℕ) → 0 < k → k < length vs → (place q vs ≡ k) ⊎ T (read_by_some qs vs k))
    → kept qs vs ≡ cond (eqb (place q vs) 0 || read_by_some qs vs (place q vs)) vs (take (place q vs) vs ++ drop (suc (place q vs)) vs)
reader-leaves q qs vs f = one_may_go qs vs (place q vs) f

-- whoever may read a new version may read the newest of before: its stamp is above, and it is hidden from whom that is hidden
abbrev pub Over : Version → List Version → Type 0
Over new vs = (q : Reader) → T (sees q new) → T (sees q (get_or vs 0 no_version))

pub over :
    (new : Version) (vs : List Version) → stamp_at vs 0 < new.stamp → ((s : ℕ) → T (bit (hidden_at vs 0) s) → T (bit new.hidden s)) → Over new vs
unfolding stamp_at hidden_at sees
over new vs l f (up_to c) h = le→leb (get_or vs 0 no_version).stamp c (let a = leb→le new.stamp c h in omega arith)
over new vs l f (outside s) h = not_make (bit (get_or vs 0 no_version).hidden s) (λ b. not_use (bit new.hidden s) h (f s b))

-- the newest of before is read behind a new one by those who may read it and not the new one
front_read :
    (qs : List Reader) (new : Version) (vs : List Version) → 0 < length vs → read_by_some qs (new ∷ vs) 1 ≡ between qs (get_or vs 0 no_version) new
front_read qs new vs h = read_between (new ∷ vs) 0 (omega arith) (λ q i l. absurd (omega arith)) qs

-- ---- a new version comes in front of a trimmed row: the one that was the newest stays if some reader may read it and not the new one
module _ (qs : List Reader) (new : Version) (vs : List Version) (trimmed : T (all_read qs vs 0 vs)) (newer : Over new vs) where
  abbrev all : List Version
  all = new ∷ vs

  -- who read an older version reads it still
  further : (k : ℕ) → 0 < k → k < length vs → T (read_by_some qs all (suc k))
  unfolding read_by_some
  further k z l =
      let r = reader qs vs trimmed k z l in
      let q = r.0 in
      let old : sees q new ≡ false = is_false (sees q new) (λ h. place_above q vs 0 (let e = r.2 in omega arith) (newer q h)) in
      some_mem (λ q. eqb (place q all) (suc k)) r.1
      (eq_make (place q all) (suc k) (place_miss q new vs old ∙ ap suc r.2))

  others : (k : ℕ) → 0 < k → k < length all → (1 ≡ k) ⊎ T (read_by_some qs all k)
  others zero z l = absurd (omega arith)
  others (suc zero) z l = inl refl
  others (suc (suc k)) z l = inr (further (suc k) (omega arith) (omega arith))

  pub new_comes : 0 < length vs → kept qs (new ∷ vs) ≡ new ∷ cond (between qs (get_or vs 0 no_version) new) vs (drop 1 vs)
  new_comes h =
      one_may_go qs all 1 others ∙ ap (λ (b : Bool). cond b all (new ∷ drop 1 vs)) (front_read qs new vs h) ∙ go (between qs (get_or vs 0 no_version) new)
    where
      go : (b : Bool) → cond b all (new ∷ drop 1 vs) ≡ new ∷ cond b vs (drop 1 vs)
      go true = refl
      go false = refl

-- ---- a new version comes in front of a row that was trimmed for the same readers: it is the same row as without that
module _ (qs : List Reader) (new : Version) where
  first_read : (q : Reader) (vs : List Version) → T (sees q (get_or vs 0 no_version)) → place q vs ≡ 0
  unfolding place
  first_read q [] h = refl
  first_read q (v ∷ vs) h = rw (is_true (sees q v) h)

  -- who read an older version reads it behind the new one, and nobody else does
  same_read : (vs : List Version) → Over new vs → (k : ℕ) → read_by_some qs (new ∷ vs) (suc (suc k)) ≡ read_by_some qs vs (suc k)
  unfolding read_by_some
  same_read vs newer k = ap (λ (p : Reader → Bool). some p qs) (fun_ext λ q. go q (sees q new) refl)
    where
      go : (q : Reader) (b : Bool) → sees q new ≡ b → eqb (place q (new ∷ vs)) (suc (suc k)) ≡ eqb (place q vs) (suc k)
      go q true e =
          ap (λ (m : ℕ). eqb m (suc (suc k))) (place_hit q new vs e)
          ∙ ne_eqb 0 (suc (suc k)) (λ z. omega arith)
          ∙ sym (ap (λ (m : ℕ). eqb m (suc k)) (first_read q vs (newer q (true_is e))) ∙ ne_eqb 0 (suc k) (λ z. omega arith))
      go q false e =
          ap (λ (m : ℕ). eqb m (suc (suc k))) (place_miss q new vs e)
          ∙ iff_eq (eqb (suc (place q vs)) (suc (suc k))) (eqb (place q vs) (suc k))
          (λ t. let z = eqb→eq (suc (place q vs)) (suc (suc k)) t in eq_make (place q vs) (suc k) (omega arith))
          (λ t. let z = eqb→eq (place q vs) (suc k) t in eq_make (suc (place q vs)) (suc (suc k)) (omega arith))

  same_kept : (vs : List Version) → Over new vs → (k : ℕ) (rest : List Version) → kept_from qs (new ∷ vs) (suc (suc k)) rest ≡ kept_from qs vs (suc k) rest
  unfolding kept_from
  same_kept vs newer k [] = refl
  same_kept vs newer k (w ∷ rest) =
      ap₂ (λ (b : Bool) (l : List Version). cond b (w ∷ l) l)
      (ap₂ ◌||◌ (ne_eqb (suc (suc k)) 0 (λ z. omega arith) ∙ sym (ne_eqb (suc k) 0 (λ z. omega arith))) (same_read vs newer k))
      (same_kept vs newer (suc k) rest)

  pub new_over_kept : (vs : List Version) → Over new vs → kept qs (new ∷ kept qs vs) ≡ kept qs (new ∷ vs)
  unfolding kept kept_from
  new_over_kept [] newer = refl
  new_over_kept (v ∷ rest) newer =
      let vs : List Version = v ∷ rest in
      let K = kept qs vs in
      let e : get_or K 0 no_version ≡ v = refl in
      new_comes qs new K (kept_read qs vs) newer (omega arith)
      ∙ ap₂ (λ (b : Bool) (l : List Version). new ∷ cond b (v ∷ l) l) (sym (front_read qs new (v ∷ rest) (omega arith))) (sym (same_kept vs newer 0 rest))
