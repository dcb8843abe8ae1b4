-- Members of lists of entries: where they stand, and that a number has one place.
use Prim.Native.Nat.{ℕ, ◌≤◌, ◌%◌}
use mathlib.Core.Path.{◌≡◌, sym, ap, ◌∙◌, subst}
use mathlib.Core.Logic.{◌≢◌, ◌⊎◌, inl, inr}
use mathlib.Core.Bool.{Bool, true, false, cond}
use mathlib.Core.List.Memᴰ
use mathlib.Core.List.{List, [], ◌∷◌, Memᴰ}
use native.Mathlib.Omega.{arith}
use lib.Dec.{eqb, leb}
use borrow.Author.Tests.{eq-eqb, ne_eqb}
use Rattle.history.specs.Happened.{Happening, clock_after}
use Rattle.history.specs.Serial.{Entry, place_of, insert, insert_all, entries_from, numbers_of, Absent, Once}
use Rattle.history.proofs.Order.{All, absent_all, Sorted}

-- what holds of all holds of each
pub all_at : (P : ℕ → ℕ → Type 0) {e : Entry} {es : List Entry} → Memᴰ e es → All P es → P e.place e.number
unfolding All
all_at P (Memᴰ.head z) a = subst (λ (f : Entry). P f.place f.number) (sym z) a.0
all_at P (Memᴰ.tail m) a = all_at P m a.1

pub absent_at : (n : ℕ) {e : Entry} {es : List Entry} → Absent n (numbers_of es) → Memᴰ e es → e.number ≢ n
absent_at n {e} {es} a m = all_at (λ p k. k ≢ n) m (absent_all n es a)

-- ---- two at one even place are one
pub even_one : (i j : Entry) (es : List Entry) → Sorted es → Memᴰ i es → Memᴰ j es → i.place ≡ j.place → i.place % 2 ≡ 0 → i ≡ j
unfolding Sorted
even_one i j [] s a b e z = absurd (Memᴰ.not-nil a)
even_one i j (f ∷ es) s a b e z = go (λ a b. even_one i j es s.1 a b e z) (Memᴰ.cases_cons a) (Memᴰ.cases_cons b)
  where
    apart : (k : Entry) → Memᴰ k es → f.place ≡ k.place → k.place % 2 ≡ 0 → ⊥
    apart k m e z = let o = (all_at (λ p n. (f.place ≤ p) × (f.place ≡ p → p % 2 ≡ 1)) m s.0).1 e in omega arith

    go : (Memᴰ i es → Memᴰ j es → i ≡ j) → (i ≡ f) ⊎ Memᴰ i es → (j ≡ f) ⊎ Memᴰ j es → i ≡ j
    go ih (inl p) (inl q) = p ∙ sym q
    go ih (inl p) (inr q) = absurd (apart j q (ap (λ (k : Entry). k.place) (sym p) ∙ e) (ap (λ (m : ℕ). m % 2) (sym e) ∙ z))
    go ih (inr p) (inl q) = absurd (apart i p (ap (λ (k : Entry). k.place) (sym q) ∙ sym e) z)
    go ih (inr p) (inr q) = ih p q

-- ---- the place of the number n
unfoldable pub place_in : ℕ → List Entry → ℕ
place_in n [] = 0
place_in n (e ∷ es) = let rest = place_in n es in cond (eqb e.number n) e.place rest

pub place_in_lem : (e : Entry) (es : List Entry) → Once (numbers_of es) → Memᴰ e es → place_in e.number es ≡ e.place
unfolding place_in Once numbers_of
place_in_lem e [] o m = absurd (Memᴰ.not-nil m)
place_in_lem e (f ∷ es) o m = go (place_in_lem e es o.1) (Memᴰ.cases_cons m)
  where
    go : (Memᴰ e es → place_in e.number es ≡ e.place) → (e ≡ f) ⊎ Memᴰ e es → cond (eqb f.number e.number) f.place (place_in e.number es) ≡ e.place
    go ih (inl z) = rw (eq-eqb f.number e.number (ap (λ (k : Entry). k.number) (sym z))) (ap (λ (k : Entry). k.place) (sym z))
    go ih (inr k) = rw (ne_eqb f.number e.number (λ z. absent_at f.number o.0 k (sym z))) (ih k)

-- ---- the order grows
pub in_insert : {e : Entry} (f : Entry) (es : List Entry) → Memᴰ e es → Memᴰ e (insert f es)
unfolding insert
in_insert f [] m = absurd (Memᴰ.not-nil m)
in_insert {e} f (k ∷ es) m = go (leb k.place f.place) (in_insert f es)
  where
    on : (Memᴰ e es → Memᴰ e (insert f es)) → (e ≡ k) ⊎ Memᴰ e es → Memᴰ e (k ∷ insert f es)
    on ih (inl z) = Memᴰ.head z
    on ih (inr z) = Memᴰ.tail (ih z)

    go : (b : Bool) → (Memᴰ e es → Memᴰ e (insert f es)) → Memᴰ e (cond b (k ∷ insert f es) (f ∷ (k ∷ es)))
    go true ih = on ih (Memᴰ.cases_cons m)
    go false ih = Memᴰ.tail m

pub inserted : {e : Entry} (f : Entry) (es : List Entry) → e ≡ f → Memᴰ e (insert f es)
unfolding insert
inserted f [] z = Memᴰ.head z
inserted {e} f (k ∷ es) z = go (leb k.place f.place) (inserted f es z)
  where
    go : (b : Bool) → Memᴰ e (insert f es) → Memᴰ e (cond b (k ∷ insert f es) (f ∷ (k ∷ es)))
    go true m = Memᴰ.tail m
    go false m = Memᴰ.head z

pub insert_in : {e : Entry} (f : Entry) (es : List Entry) → Memᴰ e (insert f es) → (e ≡ f) ⊎ Memᴰ e es
unfolding insert
insert_in f [] m = Memᴰ.cases_cons m
insert_in {e} f (k ∷ es) m = go (leb k.place f.place) (insert_in f es) m
  where
    on : (e ≡ f) ⊎ Memᴰ e es → (e ≡ f) ⊎ Memᴰ e (k ∷ es)
    on (inl z) = inl z
    on (inr z) = inr (Memᴰ.tail z)

    back : (Memᴰ e (insert f es) → (e ≡ f) ⊎ Memᴰ e es) → (e ≡ k) ⊎ Memᴰ e (insert f es) → (e ≡ f) ⊎ Memᴰ e (k ∷ es)
    back ih (inl z) = inr (Memᴰ.head z)
    back ih (inr z) = on (ih z)

    go : (b : Bool) → (Memᴰ e (insert f es) → (e ≡ f) ⊎ Memᴰ e es) → Memᴰ e (cond b (k ∷ insert f es) (f ∷ (k ∷ es))) → (e ≡ f) ⊎ Memᴰ e (k ∷ es)
    go true ih m = back ih (Memᴰ.cases_cons m)
    go false ih m = Memᴰ.cases_cons m

pub in_insert_all : {e : Entry} (ds es : List Entry) → Memᴰ e es → Memᴰ e (insert_all ds es)
unfolding insert_all
in_insert_all [] es m = m
in_insert_all (d ∷ ds) es m = in_insert_all ds (insert d es) (in_insert d es m)

pub in_entries : {e : Entry} (c : ℕ) (es : List Entry) (hs : List Happening) → Memᴰ e es → Memᴰ e (entries_from c es hs)
unfolding entries_from
in_entries c es [] m = m
in_entries c es (h ∷ hs) m = in_entries (clock_after c h) (insert_all (place_of c h) es) hs (in_insert_all (place_of c h) es m)
