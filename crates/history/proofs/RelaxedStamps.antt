-- Request E11: by their stamps the updates outside leave the same array as in commit order. Up to the query's begin both orders end in the newest
-- values; while it lives nobody is past its writing, so whoever commits comes last in both.
use Prim.Native.Nat.{ℕ, ◌+◌, ◌*◌, ◌≤◌, ◌%◌}
use mathlib.Core.Path.{◌≡◌, refl, sym, ap, ◌∙◌, subst}
use mathlib.Core.Logic.{◌⊎◌, inl, inr}
use mathlib.Core.Bool.{Bool, true, false, cond}
use mathlib.Core.List.{List, [], ◌∷◌, ◌++◌, append_assoc}
use native.Mathlib.Omega.{arith}
use lib.Dec.{T, eqb}
use borrow.Author.Tests.{le-leb}
use Rattle.rules.specs.Words.{some}
use Rattle.rules.specs.Versions.{newest}
use Rattle.rules.proofs.Tests.{or_left, or_right, eq_make, false_is}
use Rattle.history.specs.Happened.{Access, Happening, update_began, query_began, relaxed_began, accessed, update_committed, empty_committed, settled_under, only_ended, nothing, clock_after, all_of}
use Rattle.history.specs.Serial.{Entry, place_of, insert, insert_all, entries_from, numbers_of, order, one_by_one}
use Rattle.history.specs.Relaxed.{committer, those}
use Rattle.history.proofs.Plain.{Array, zeros, final}
use Rattle.history.proofs.Replay.{final-append}
use Rattle.history.proofs.Order.{All, all_map, all_insert}
use Rattle.history.proofs.RelaxedLists.{some_append}
use Rattle.history.proofs.RelaxedPhase.{kept, log_of}

-- ---- those outside, by their stamps
abbrev pub by_stamp : (ℕ → Bool) → List Happening → List ℕ
by_stamp ever hs = those (λ n. some (eqb n) (kept ever hs)) (order hs)

abbrev pub stamp_array : (ℕ → Bool) → List Happening → Array
stamp_array ever hs = final (one_by_one (log_of hs) (by_stamp ever hs)) zeros

-- ---- one happening more
unfoldable pub clock_of : ℕ → List Happening → ℕ
clock_of c [] = c
clock_of c (h ∷ hs) = clock_of (clock_after c h) hs

pub entries_more : (c : ℕ) (es : List Entry) (hs : List Happening) (h : Happening) → entries_from c es (hs ++ (h ∷ [])) ≡ insert_all (place_of (clock_of c hs) h) (entries_from c es hs)
unfolding entries_from clock_of
entries_more c es [] h = refl
entries_more c es (k ∷ hs) h = entries_more (clock_after c k) (insert_all (place_of c k) es) hs h

-- what is inserted behind all comes last
pub insert-last : (e : Entry) (es : List Entry) → All (λ p n. p ≤ e.place) es → numbers_of (insert e es) ≡ numbers_of es ++ (e.number ∷ [])
unfolding insert numbers_of All
insert-last e [] a = refl
insert-last e (f ∷ es) a = rw (le-leb f.place e.place a.0) (ap (λ (l : List ℕ). f.number ∷ l) (insert-last e es a.1))

-- ---- who stands at an even place committed
abbrev Placed : List ℕ → ℕ → ℕ → Type 0
Placed ks p n = (p % 2 ≡ 1) ⊎ T (some (eqb n) ks)

placed-more : (ks ls : List ℕ) (es : List Entry) → All (Placed ks) es → All (Placed (ks ++ ls)) es
placed-more ks ls es a = all_map _ _ (λ p n w. more p n w) es a
  where
    more : (p n : ℕ) → Placed ks p n → Placed (ks ++ ls) p n
    more p n (inl o) = inl o
    more p n (inr m) = inr (subst T (sym (some_append (eqb n) ks ls)) (or_left (some (eqb n) ks) _ m))

placed_one : (ks : List ℕ) (c : ℕ) (h : Happening) (es : List Entry) → All (Placed ks) es → All (Placed (ks ++ committer h)) (insert_all (place_of c h) es)
unfolding place_of committer insert_all
placed_one ks c (update_committed n d) es a =
    all_insert (Placed (ks ++ (n ∷ []))) (record { place = 2 * d; number = n })
    (inr (subst T (sym (some_append (eqb n) ks (n ∷ []))) (or_right (some (eqb n) ks) _ (unfold some in or_left (eqb n n) _ (eq_make n n refl))))) es (placed-more ks (n ∷ []) es a)
placed_one ks c (empty_committed n d) es a =
    all_insert (Placed (ks ++ (n ∷ []))) (record { place = 2 * d + 1; number = n }) (inl (let e : (2 * d + 1) % 2 ≡ 1 = omega arith in e)) es (placed-more ks (n ∷ []) es a)
placed_one ks c (query_began n) es a =
    all_insert (Placed (ks ++ [])) (record { place = 2 * c + 1; number = n }) (inl (let e : (2 * c + 1) % 2 ≡ 1 = omega arith in e)) es (placed-more ks [] es a)
placed_one ks c (update_began n) es a = placed-more ks [] es a
placed_one ks c (relaxed_began n) es a = placed-more ks [] es a
placed_one ks c (accessed n b) es a = placed-more ks [] es a
placed_one ks c (settled_under n d) es a = placed-more ks [] es a
placed_one ks c (only_ended n) es a = placed-more ks [] es a
placed_one ks c nothing es a = placed-more ks [] es a

placed_all : (ks : List ℕ) (c : ℕ) (es : List Entry) (hs : List Happening) → All (Placed ks) es → All (Placed (ks ++ all_of committer hs)) (entries_from c es hs)
unfolding all_of entries_from
placed_all ks c es [] a = placed-more ks [] es a
placed_all ks c es (h ∷ hs) a =
    subst (λ (l : List ℕ). All (Placed l) (entries_from (clock_after c h) (insert_all (place_of c h) es) hs)) (append_assoc ks (committer h) (all_of committer hs))
    (placed_all (ks ++ committer h) (clock_after c h) (insert_all (place_of c h) es) hs (placed_one ks c h es a))

pub placed_so : (hs : List Happening) → All (Placed (all_of committer hs)) (entries_from 0 [] hs)
unfolding All
placed_so hs = placed_all [] 0 [] hs tt

-- ---- leaving out who changes nothing
pub skip_still :
    (log : ℕ → List Access) (f : ℕ → Bool) (es : List Entry) (a : Array) → All (λ p n. (p % 2 ≡ 1) ⊎ T (f n)) es
    → All (λ p n. p % 2 ≡ 1 → (a : Array) → final (log n) a ≡ a) es → final (one_by_one log (those f (numbers_of es))) a ≡ final (one_by_one log (numbers_of es)) a
unfolding those numbers_of one_by_one All
skip_still log f [] a p s = refl
skip_still log f (e ∷ es) a p s = go (λ b. skip_still log f es b p.1 s.1) (f e.number) refl p.0
  where
    n : ℕ
    n = e.number

    whole : final (log n ++ one_by_one log (numbers_of es)) a ≡ final (one_by_one log (numbers_of es)) (final (log n) a)
    whole = final-append (log n) (one_by_one log (numbers_of es)) a

    go :
        ((b : Array) → final (one_by_one log (those f (numbers_of es))) b ≡ final (one_by_one log (numbers_of es)) b) → (b : Bool) → f e.number ≡ b → (e.place % 2 ≡ 1) ⊎ T (f e.number)
        → final (one_by_one log (cond b (e.number ∷ those f (numbers_of es)) (those f (numbers_of es)))) a ≡ final (log e.number ++ one_by_one log (numbers_of es)) a
    go ih true z w = final-append (log n) (one_by_one log (those f (numbers_of es))) a ∙ ih (final (log n) a) ∙ sym whole
    go ih false z (inl o) = ih a ∙ sym (whole ∙ ap (final (one_by_one log (numbers_of es))) (s.0 o a))
    go ih false z (inr t) = absurd (false_is z t)
