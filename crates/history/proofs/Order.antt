-- Laws of the serial order: entries inserted by their places, the array that a place sees (`array_at`), and what an insertion makes of it.
use Prim.Native.Nat.{ℕ, ◌+◌, ◌≤◌, ◌<◌, ◌%◌}
use mathlib.Core.Path.{◌≡◌, refl, sym, ap, ◌∙◌, subst}
use mathlib.Core.Logic.{◌≢◌, ◌⊎◌, inl, inr}
use mathlib.Core.Bool.{Bool, true, false, cond}
use mathlib.Core.List.{List, [], ◌∷◌, ◌++◌}
use native.Mathlib.Omega.{arith}
use lib.Dec.{T, leb, ltb}
use borrow.Author.Tests.{leb-true, leb-false, le-leb, ltb-true, ltb-false, lt-ltb, le-ltb}
use Rattle.rules.proofs.Tests.{same?}
use Rattle.history.specs.Happened.{Access}
use Rattle.history.specs.Serial.{Entry, insert, numbers_of, one_by_one, Absent, Once}
use Rattle.history.proofs.Plain.{Array, zeros, agrees, final}
use Rattle.history.proofs.Replay.{Within, within-append, within_none, local_final, untouched, final-append, agrees-append}

-- what is up to b, and not b, is below it
pub strictly : (a b : ℕ) → a ≤ b → a ≢ b → a < b
strictly a b m d = go (ltb a b) refl
  where
    go : (c : Bool) → ltb a b ≡ c → a < b
    go true z = ltb-true a b z
    go false z = absurd (d (let n = ltb-false a b z in omega arith))

-- ---- all entries, each with its place and its number
unfoldable pub All : (ℕ → ℕ → Type 0) → List Entry → Type 0
All P [] = T true
All P (e ∷ es) = P e.place e.number × All P es

pub all_map : (P Q : ℕ → ℕ → Type 0) → ((p n : ℕ) → P p n → Q p n) → (es : List Entry) → All P es → All Q es
unfolding All
all_map P Q f [] h = tt
all_map P Q f (e ∷ es) h = (f e.place e.number h.0, all_map P Q f es h.1)

pub all_both :
    (P Q R : ℕ → ℕ → Type 0) → ((p n : ℕ) → P p n → Q p n → R p n) → (es : List Entry) → All P es → All Q es → All R es
unfolding All
all_both P Q R f [] h k = tt
all_both P Q R f (e ∷ es) h k = (f e.place e.number h.0 k.0, all_both P Q R f es h.1 k.1)

pub all_insert : (P : ℕ → ℕ → Type 0) (e : Entry) → P e.place e.number → (es : List Entry) → All P es → All P (insert e es)
unfolding All insert
all_insert P e w [] h = (w, tt)
all_insert P e w (f ∷ es) h = go (leb f.place e.place) (all_insert P e w es h.1)
  where
    go : (b : Bool) → All P (insert e es) → All P (cond b (f ∷ insert e es) (e ∷ (f ∷ es)))
    go true k = (h.0, k)
    go false k = (w, h)

pub absent_all : (n : ℕ) (es : List Entry) → Absent n (numbers_of es) → All (λ p m. m ≢ n) es
unfolding All numbers_of Absent
absent_all n [] h = tt
absent_all n (e ∷ es) h = (h.0, absent_all n es h.1)

pub all_absent : (n : ℕ) (es : List Entry) → All (λ p m. m ≢ n) es → Absent n (numbers_of es)
unfolding All numbers_of Absent
all_absent n [] h = tt
all_absent n (e ∷ es) h = (h.0, all_absent n es h.1)

pub absent_insert : (n : ℕ) (e : Entry) → e.number ≢ n → (es : List Entry) → Absent n (numbers_of es) → Absent n (numbers_of (insert e es))
absent_insert n e d es h = all_absent n (insert e es) (all_insert (λ p m. m ≢ n) e d es (absent_all n es h))

pub once-insert : (e : Entry) (es : List Entry) → Once (numbers_of es) → Absent e.number (numbers_of es) → Once (numbers_of (insert e es))
unfolding Once Absent numbers_of insert
once-insert e [] o h = (tt, tt)
once-insert e (f ∷ es) o h = go (leb f.place e.place) (once-insert e es o.1 h.1)
  where
    go : (b : Bool) → Once (numbers_of (insert e es)) → Once (numbers_of (cond b (f ∷ insert e es) (e ∷ (f ∷ es))))
    go true k = (absent_insert f.number e (λ z. h.0 (sym z)) es o.0, k)
    go false k = (h, o)

-- ---- places rise; only queries, which stand at odd places, share one
unfoldable pub Sorted : List Entry → Type 0
Sorted [] = T true
Sorted (e ∷ es) = All (λ p n. (e.place ≤ p) × (e.place ≡ p → p % 2 ≡ 1)) es × Sorted es

pub sorted_insert :
    (e : Entry) (es : List Entry) → Sorted es → (e.place % 2 ≡ 1) ⊎ All (λ p n. p ≢ e.place) es → Sorted (insert e es)
unfolding Sorted insert All
sorted_insert e [] o v = (tt, tt)
sorted_insert e (f ∷ es) o v = go (leb f.place e.place) refl (sorted_insert e es o.1 (tail v))
  where
    tail : (e.place % 2 ≡ 1) ⊎ ((f.place ≢ e.place) × All (λ p n. p ≢ e.place) es) → (e.place % 2 ≡ 1) ⊎ All (λ p n. p ≢ e.place) es
    tail (inl h) = inl h
    tail (inr h) = inr h.1

    odd : (e.place % 2 ≡ 1) ⊎ ((f.place ≢ e.place) × All (λ p n. p ≢ e.place) es) → f.place ≡ e.place → e.place % 2 ≡ 1
    odd (inl h) z = h
    odd (inr h) z = absurd (h.0 z)

    go : (b : Bool) → leb f.place e.place ≡ b → Sorted (insert e es) → Sorted (cond b (f ∷ insert e es) (e ∷ (f ∷ es)))
    go true h k = (all_insert _ e (leb-true f.place e.place h, odd v) es o.0, k)
    go false h k =
        let l : e.place < f.place = leb-false f.place e.place h in (
          (
            (omega arith, λ z. absurd (let q : e.place ≡ f.place = z in omega arith)),
            all_map _ _ (λ p n g. (let a = g.0 in omega arith, λ z. absurd (let a = g.0 in omega arith))) es o.0,
          ),
          o,
        )

-- ---- the numbers of the entries below a place
unfoldable pub below : ℕ → List Entry → List ℕ
below q [] = []
below q (e ∷ es) = let rest = below q es in cond (ltb e.place q) (e.number ∷ rest) rest

pub below_same : (q r : ℕ) (es : List Entry) → All (λ p n. (p < q → p < r) × (p < r → p < q)) es → below q es ≡ below r es
unfolding below All
below_same q r [] h = refl
below_same q r (e ∷ es) h = go (ltb e.place q) refl (below_same q r es h.1)
  where
    go :
        (b : Bool) → ltb e.place q ≡ b → below q es ≡ below r es
        → cond b (e.number ∷ below q es) (below q es) ≡ cond (ltb e.place r) (e.number ∷ below r es) (below r es)
    go true k i = rw (lt-ltb e.place r (h.0.0 (ltb-true e.place q k))) (ap (λ (l : List ℕ). e.number ∷ l) i)
    go false k i =
        let l : q ≤ e.place = ltb-false e.place q k in
        rw (le-ltb e.place r (below_not e.place q r h.0.1 l)) i
      where
        below_not : (p q r : ℕ) → (p < r → p < q) → q ≤ p → r ≤ p
        below_not p q r f l = cases (ltb p r) refl
          where
            cases : (b : Bool) → ltb p r ≡ b → r ≤ p
            cases true z = absurd (let a = f (ltb-true p r z) in omega arith)
            cases false z = ltb-false p r z

pub below_absent : (n q : ℕ) (es : List Entry) → Absent n (numbers_of es) → Absent n (below q es)
unfolding below numbers_of Absent
below_absent n q [] h = tt
below_absent n q (e ∷ es) h = go (ltb e.place q) (below_absent n q es h.1)
  where
    go : (b : Bool) → Absent n (below q es) → Absent n (cond b (e.number ∷ below q es) (below q es))
    go true i = (h.0, i)
    go false i = i

pub below_all : (q : ℕ) (es : List Entry) → All (λ p n. p < q) es → below q es ≡ numbers_of es
unfolding below numbers_of All
below_all q [] h = refl
below_all q (e ∷ es) h = rw (lt-ltb e.place q h.0) (ap (λ (l : List ℕ). e.number ∷ l) (below_all q es h.1))

-- what is inserted is not below its place
pub below_insert : (q : ℕ) (e : Entry) → q ≤ e.place → (es : List Entry) → below q (insert e es) ≡ below q es
unfolding below insert
below_insert q e l [] = rw (le-ltb e.place q l)
below_insert q e l (f ∷ es) = go (leb f.place e.place) (below_insert q e l es)
  where
    go :
        (b : Bool) → below q (insert e es) ≡ below q es
        → below q (cond b (f ∷ insert e es) (e ∷ (f ∷ es))) ≡ cond (ltb f.place q) (f.number ∷ below q es) (below q es)
    go true i = ap (λ (k : List ℕ). cond (ltb f.place q) (f.number ∷ k) k) i
    go false i = rw (le-ltb e.place q l)

-- and behind all it comes last
pub below_last :
    (q : ℕ) (e : Entry) → e.place < q → (es : List Entry) → All (λ p n. p ≤ e.place) es → below q (insert e es) ≡ below q es ++ (e.number ∷ [])
unfolding below insert All
below_last q e l [] h = rw (lt-ltb e.place q l)
below_last q e l (f ∷ es) h =
    let b : leb f.place e.place ≡ true = le-leb f.place e.place h.0 in
    let c : ltb f.place q ≡ true = lt-ltb f.place q (let a = h.0 in omega arith) in
    rw (b, c) (ap (λ (k : List ℕ). f.number ∷ k) (below_last q e l es h.1))

-- ---- the array that a place sees: all entries below it, run one after another on zeros
abbrev pub array_from : ℕ → List Entry → (ℕ → List Access) → Array → Array
array_from q es log a = final (one_by_one log (below q es)) a

abbrev pub array_at : ℕ → List Entry → (ℕ → List Access) → Array
array_at q es log = array_from q es log zeros

-- one entry, and the rest
from_below :
    (q : ℕ) (log : ℕ → List Access) (e : Entry) (es : List Entry) (a : Array) → e.place < q
    → array_from q (e ∷ es) log a ≡ array_from q es log (final (log e.number) a)
unfolding below one_by_one
from_below q log e es a l = rw (lt-ltb e.place q l) (final-append (log e.number) (one_by_one log (below q es)) a)

from_skip :
    (q : ℕ) (log : ℕ → List Access) (e : Entry) (es : List Entry) (a : Array) → q ≤ e.place → array_from q (e ∷ es) log a ≡ array_from q es log a
unfolding below
from_skip q log e es a l = rw (le-ltb e.place q l)

from_above : (q : ℕ) (log : ℕ → List Access) (es : List Entry) (a : Array) → All (λ p n. q ≤ p) es → array_from q es log a ≡ a
unfolding below one_by_one final All
from_above q log [] a h = refl
from_above q log (e ∷ es) a h = rw (le-ltb e.place q h.0) (from_above q log es a h.1)

-- entries above p name only items of D, so do those of them that are below q
within_below :
    (D : ℕ → Type 0) (log : ℕ → List Access) (q : ℕ) (es : List Entry) → All (λ p n. Within D (log n)) es → Within D (one_by_one log (below q es))
unfolding below one_by_one All
within_below D log q [] h = within_none D
within_below D log q (e ∷ es) h = go (ltb e.place q) (within_below D log q es h.1)
  where
    go : (b : Bool) → Within D (one_by_one log (below q es)) → Within D (one_by_one log (cond b (e.number ∷ below q es) (below q es)))
    go true i = within-append D (log e.number) (one_by_one log (below q es)) h.0 i
    go false i = i

-- ---- an insertion in the middle, at a place where nobody stands: if whoever stands behind names only items of D, and who is inserted
-- changes only items outside D, then those outside D have its values ever after, and those of D are as before
module _
    (D : ℕ → Type 0) (log : ℕ → List Access) (e : Entry) (q : ℕ) (later : e.place < q)
  where
    pub insert_array :
        (es : List Entry) (a : Array) → Sorted es → All (λ p n. p ≢ e.place) es → All (λ p n. e.place < p → Within D (log n)) es
        → ((y : ℕ) → D y → final (log e.number) (array_from e.place es log a) y ≡ array_from e.place es log a y)
        → ((y : ℕ) → D y → array_from q (insert e es) log a y ≡ array_from q es log a y)
        × ((y : ℕ) → (D y → ⊥) → array_from q (insert e es) log a y ≡ final (log e.number) (array_from e.place es log a) y)
    unfolding insert Sorted All
    insert_array [] a o v w h =
        let z = from_below q log e [] a later in
        (λ y d. ap (λ (b : Array). b y) z ∙ unfold below one_by_one final in h y d, λ y d. ap (λ (b : Array). b y) z ∙ unfold below one_by_one final in refl)
    insert_array (f ∷ es) a o v w h = go (leb f.place e.place) refl (insert_array es (final (log f.number) a) o.1 v.1 w.1)
      where
        Goal : Bool → Type 0
        Goal b =
            ((y : ℕ) → D y → array_from q (cond b (f ∷ insert e es) (e ∷ (f ∷ es))) log a y ≡ array_from q (f ∷ es) log a y)
            × ((y : ℕ) → (D y → ⊥) → array_from q (cond b (f ∷ insert e es) (e ∷ (f ∷ es))) log a y ≡ final (log e.number) (array_from e.place (f ∷ es) log a) y)

        go :
            (b : Bool) → leb f.place e.place ≡ b
            → (((y : ℕ) → D y → final (log e.number) (array_from e.place es log (final (log f.number) a)) y ≡ array_from e.place es log (final (log f.number) a) y)
            → ((y : ℕ) → D y → array_from q (insert e es) log (final (log f.number) a) y ≡ array_from q es log (final (log f.number) a) y)
            × ((y : ℕ) → (D y → ⊥) → array_from q (insert e es) log (final (log f.number) a) y ≡ final (log e.number) (array_from e.place es log (final (log f.number) a)) y))
            → Goal b
        go true k i =
            let l : f.place < e.place = let m = leb-true f.place e.place k in let d = v.0 in strictly f.place e.place m d in
            let l' : f.place < q = omega arith in
            let n = from_below e.place log f es a l in
            let j = i (subst (λ (b : Array). (y : ℕ) → D y → final (log e.number) b y ≡ b y) n h) in (
              λ y d. ap (λ (b : Array). b y) (from_below q log f (insert e es) a l') ∙ j.0 y d ∙ sym (ap (λ (b : Array). b y) (from_below q log f es a l')),
              λ y d. ap (λ (b : Array). b y) (from_below q log f (insert e es) a l') ∙ j.1 y d ∙ sym (ap (λ (b : Array). final (log e.number) b y) n),
            )
        go false k i =
            let l : e.place < f.place = leb-false f.place e.place k in
            let none : array_from e.place (f ∷ es) log a ≡ a =
            from_above e.place log (f ∷ es) a (let m : e.place ≤ f.place = omega arith in (m, all_map _ _ (λ p n g. let b = g.0 in omega arith) es o.0)) in
            let in-D : Within D (one_by_one log (below q (f ∷ es))) =
            within_below D log q (f ∷ es) (w.0 l, all_both _ _ _ (λ p n g b. b (let c = g.0 in omega arith)) es o.0 w.1) in
            let h' : (y : ℕ) → D y → final (log e.number) a y ≡ a y = subst (λ (b : Array). (y : ℕ) → D y → final (log e.number) b y ≡ b y) none h in (
              λ y d.
                  ap (λ (b : Array). b y) (from_below q log e (f ∷ es) a later)
                  ∙ local_final D (one_by_one log (below q (f ∷ es))) (final (log e.number) a) a h' y d,
              λ y d.
                  ap (λ (b : Array). b y) (from_below q log e (f ∷ es) a later)
                  ∙ untouched D (one_by_one log (below q (f ∷ es))) (final (log e.number) a) in-D y d
                  ∙ sym (ap (λ (b : Array). final (log e.number) b y) none),
            )

-- ---- at an odd place stand queries, so that the array behind it is the array ahead of it
pub skip_odd :
    (log : ℕ → List Access) (q : ℕ) → q % 2 ≡ 1 → (es : List Entry) (a : Array)
    → All (λ p n. p % 2 ≡ 1 → (a : Array) → final (log n) a ≡ a) es → array_from (q + 1) es log a ≡ array_from q es log a
unfolding All below
skip_odd log q o [] a h = refl
skip_odd log q o (e ∷ es) a h = go (ltb e.place q) refl (λ b. skip_odd log q o es b h.1)
  where
    Goal : Type 0
    Goal = array_from (q + 1) (e ∷ es) log a ≡ array_from q (e ∷ es) log a

    here : ((b : Array) → array_from (q + 1) es log b ≡ array_from q es log b) → q ≤ e.place → (e.place ≡ q) ⊎ (e.place ≢ q) → Goal
    here i l (inl z) =
        from_below (q + 1) log e es a (omega arith) ∙ ap (λ (b : Array). array_from (q + 1) es log b) (h.0 (ap (λ (m : ℕ). m % 2) z ∙ o) a)
        ∙ i a ∙ sym (from_skip q log e es a l)
    here i l (inr d) =
        let m = strictly q e.place l (λ z. d (sym z)) in
        from_skip (q + 1) log e es a (omega arith) ∙ i a ∙ sym (from_skip q log e es a l)

    go : (b : Bool) → ltb e.place q ≡ b → ((b : Array) → array_from (q + 1) es log b ≡ array_from q es log b) → Goal
    go true k i =
        let l : e.place < q = ltb-true e.place q k in
        from_below (q + 1) log e es a (omega arith) ∙ i (final (log e.number) a) ∙ sym (from_below q log e es a l)
    go false k i = here i (ltb-false e.place q k) (same? e.place q)

-- ---- the whole order agrees, if each entry agrees with the array that its place sees. Entries at one place change nothing for each other:
-- they are queries, whose logs leave every array as it is
still_final :
    (log : ℕ → List Access) (e : Entry) (es : List Entry) (a : Array) → Sorted (e ∷ es)
    → (e.place % 2 ≡ 1 → (a : Array) → final (log e.number) a ≡ a)
    → All (λ p n. T (agrees (log n) (array_from p (e ∷ es) log a))) es
    → All (λ p n. T (agrees (log n) (array_from p es log (final (log e.number) a)))) es
unfolding Sorted below
still_final log e es a o quiet told =
    all_both _ _ _ (λ p n g h. subst (λ (b : Array). T (agrees (log n) b)) (same p g.0 g.1) h) es o.0 told
  where
    same : (p : ℕ) → e.place ≤ p → (e.place ≡ p → p % 2 ≡ 1) → array_from p (e ∷ es) log a ≡ array_from p es log (final (log e.number) a)
    same p l odd = go (ltb e.place p) refl
      where
        go : (b : Bool) → ltb e.place p ≡ b → array_from p (e ∷ es) log a ≡ array_from p es log (final (log e.number) a)
        go true k = from_below p log e es a (ltb-true e.place p k)
        go false k =
            let z : e.place ≡ p = let m = ltb-false e.place p k in omega arith in
            rw k (ap (λ (b : Array). array_from p es log b) (sym (quiet (ap (λ (m : ℕ). m % 2) z ∙ odd z) a)))

pub all_agree :
    (log : ℕ → List Access) (es : List Entry) (a : Array) → Sorted es
    → All (λ p n. p % 2 ≡ 1 → (a : Array) → final (log n) a ≡ a) es
    → All (λ p n. T (agrees (log n) (array_from p es log a))) es → T (agrees (one_by_one log (numbers_of es)) a)
unfolding Sorted All one_by_one numbers_of agrees
all_agree log [] a o quiet told = tt
all_agree log (e ∷ es) a o quiet told =
    agrees-append (log e.number) (one_by_one log (numbers_of es)) a
    (subst (λ (b : Array). T (agrees (log e.number) b)) first told.0)
    (all_agree log es (final (log e.number) a) o.1 quiet.1 (still_final log e es a o quiet.0 told.1))
  where
    first : array_from e.place (e ∷ es) log a ≡ a
    first = from_above e.place log (e ∷ es) a (omega arith, all_map _ _ (λ p n g. g.0) es o.0)
