-- What the counted tests say: every number below n, some number below n, the lowest that passes, every and some element.
use Prim.Native.Nat.{ℕ, zero, suc, ◌+◌, ◌≤◌, ◌<◌}
use mathlib.Core.Path.{◌≡◌, refl, sym, ap, ◌∙◌, subst}
use mathlib.Core.Logic.{◌≢◌, ◌⊎◌, inl, inr}
use mathlib.Core.Bool.{Bool, true, false, cond, ◌&&◌, ◌||◌}
use mathlib.Core.List.{List, [], ◌∷◌, Memᴰ}
use native.Mathlib.Omega.{arith}
use native.Mathlib.Nat.{not-suc-le-zero}
use native.Mathlib.Numerals.{add-one}
use lib.Dec.{T, ltb}
use borrow.Author.Tests.{ltb-true, ltb-false}
use Rattle.rules.specs.Words.{every_below, some_below, count_below, first_from, every, some}
use Rattle.rules.proofs.Tests.{and_left, and_right, and_both, or_cases, or_left, or_right, true_is, same?}

-- i ≤ n is i < n or i ≡ n
pub split-le : (i n : ℕ) → i < suc n → (i < n) ⊎ (i ≡ n)
split-le i n h = go (ltb i n) refl
  where
    go : (b : Bool) → ltb i n ≡ b → (i < n) ⊎ (i ≡ n)
    go true e = inl (ltb-true i n e)
    go false e = inr (let k : n ≤ i = ltb-false i n e in omega arith)

-- ---- below n
pub every_below→ : (n : ℕ) (p : ℕ → Bool) → T (every_below n p) → (i : ℕ) → i < n → T (p i)
unfolding every_below
every_below→ zero p h i l = absurd (not-suc-le-zero l)
every_below→ (suc n) p h i l = go (λ k. every_below→ n p (and_right (p n) (every_below n p) h) i k) (split-le i n l)
  where
    go : (i < n → T (p i)) → (i < n) ⊎ (i ≡ n) → T (p i)
    go f (inl k) = f k
    go f (inr e) = subst (λ (m : ℕ). T (p m)) (sym e) (and_left (p n) (every_below n p) h)

pub →every_below : (n : ℕ) (p : ℕ → Bool) → ((i : ℕ) → i < n → T (p i)) → T (every_below n p)
unfolding every_below
→every_below zero p h = tt
→every_below (suc n) p h =
    and_both (p n) (every_below n p) (h n (omega arith)) (→every_below n p (λ i l. h i (omega arith)))

pub some_below→ : (n : ℕ) (p : ℕ → Bool) → T (some_below n p) → (i : ℕ) × (i < n) × T (p i)
unfolding some_below
some_below→ zero p h = absurd h
some_below→ (suc n) p h = go (λ k. some_below→ n p k) (or_cases (p n) (some_below n p) h)
  where
    go : (T (some_below n p) → (i : ℕ) × (i < n) × T (p i)) → T (p n) ⊎ T (some_below n p) → (i : ℕ) × (i < suc n) × T (p i)
    go f (inl t) = (n, omega arith, t)
    go f (inr t) = let r = f t in (r.0, (let k = r.1 in omega arith), r.2)

pub →some_below : (n : ℕ) (p : ℕ → Bool) (i : ℕ) → i < n → T (p i) → T (some_below n p)
unfolding some_below
→some_below zero p i l t = absurd (not-suc-le-zero l)
→some_below (suc n) p i l t = go (λ k. →some_below n p i k t) (split-le i n l)
  where
    go : (i < n → T (some_below n p)) → (i < n) ⊎ (i ≡ n) → T (some_below (suc n) p)
    go f (inl k) = or_right (p n) (some_below n p) (f k)
    go f (inr e) = or_left (p n) (some_below n p) (subst (λ (m : ℕ). T (p m)) e t)

-- one turn of a loop that tests every number, or looks for one
pub every_more : (p : ℕ → Bool) (n : ℕ) → every_below (n + 1) p ≡ (p n && every_below n p)
unfolding every_below
every_more p n = rw add-one

pub some_more : (p : ℕ → Bool) (n : ℕ) → some_below (n + 1) p ≡ (p n || some_below n p)
unfolding some_below
some_more p n = rw add-one

-- ---- how many pass
-- one more number looked at
pub count_yes : (n : ℕ) (p : ℕ → Bool) → p n ≡ true → count_below (n + 1) p ≡ count_below n p + 1
unfolding count_below
count_yes n p e = ap (λ (m : ℕ). count_below m p) (add-one n) ∙ rw e (sym (add-one (count_below n p)))

pub count_no : (n : ℕ) (p : ℕ → Bool) → p n ≡ false → count_below (n + 1) p ≡ count_below n p
unfolding count_below
count_no n p e = ap (λ (m : ℕ). count_below m p) (add-one n) ∙ rw e refl

pub count-le : (n : ℕ) (p : ℕ → Bool) → count_below n p ≤ n
unfolding count_below
count-le zero p = omega arith
count-le (suc n) p = go (p n) (count-le n p)
  where
    go : (b : Bool) → count_below n p ≤ n → cond b (suc (count_below n p)) (count_below n p) ≤ suc n
    go true h = omega arith
    go false h = omega arith

-- where fewer pass
pub count_fewer : (n : ℕ) (p q : ℕ → Bool) → ((i : ℕ) → i < n → T (p i) → T (q i)) → count_below n p ≤ count_below n q
unfolding count_below
count_fewer zero p q f = omega arith
count_fewer (suc n) p q f = go (p n) (q n) (f n (omega arith)) (count_fewer n p q (λ i l. f i (omega arith)))
  where
    go : (a b : Bool) → (T a → T b) → count_below n p ≤ count_below n q → cond a (suc (count_below n p)) (count_below n p) ≤ cond b (suc (count_below n q)) (count_below n q)
    go true true h k = omega arith
    go true false h k = absurd (h tt)
    go false true h k = omega arith
    go false false h k = k

-- where all that pass but perhaps x passed before
pub count_one_more :
    (n : ℕ) (p q : ℕ → Bool) (x : ℕ) → ((i : ℕ) → i < n → i ≢ x → T (p i) → T (q i)) → count_below n p ≤ suc (count_below n q)
unfolding count_below
count_one_more zero p q x f = omega arith
count_one_more (suc n) p q x f = go (count_one_more n p q x (λ i l. f i (omega arith))) (same? n x)
  where
    step : (a b : Bool) → (T a → T b) → count_below n p ≤ suc (count_below n q) → cond a (suc (count_below n p)) (count_below n p) ≤ suc (cond b (suc (count_below n q)) (count_below n q))
    step true true h k = omega arith
    step true false h k = absurd (h tt)
    step false true h k = omega arith
    step false false h k = k

    last : (a b : Bool) → count_below n p ≤ count_below n q → cond a (suc (count_below n p)) (count_below n p) ≤ suc (cond b (suc (count_below n q)) (count_below n q))
    last true true k = omega arith
    last true false k = omega arith
    last false true k = omega arith
    last false false k = omega arith

    go : count_below n p ≤ suc (count_below n q) → (n ≡ x) ⊎ (n ≢ x) → count_below (suc n) p ≤ suc (count_below (suc n) q)
    go k (inl e) = last (p n) (q n) (count_fewer n p q (λ i l. f i (omega arith) (λ z. omega arith)))
    go k (inr d) = step (p n) (q n) (f n (omega arith) d) k

pub count_none : (n : ℕ) (p : ℕ → Bool) → ((i : ℕ) → i < n → T (p i) → ⊥) → count_below n p ≡ 0
unfolding count_below
count_none zero p f = refl
count_none (suc n) p f = go (p n) (f n (omega arith)) (count_none n p (λ i l. f i (omega arith)))
  where
    go : (a : Bool) → (T a → ⊥) → count_below n p ≡ 0 → cond a (suc (count_below n p)) (count_below n p) ≡ 0
    go true h k = absurd (h tt)
    go false h k = k

pub count_zero : (n : ℕ) (p : ℕ → Bool) → count_below n p ≡ 0 → (i : ℕ) → i < n → T (p i) → ⊥
unfolding count_below
count_zero zero p e i b h = omega arith
count_zero (suc n) p e i b h = go (p n) refl e (split-le i n b) (λ z l. count_zero n p z i l h)
  where
    go :
        (c : Bool) → p n ≡ c → cond c (suc (count_below n p)) (count_below n p) ≡ 0 → (i < n) ⊎ (i ≡ n)
        → (count_below n p ≡ 0 → i < n → ⊥) → ⊥
    go true f z k below = omega arith
    go false f z (inl l) below = below z l
    go false f z (inr q) below = subst T (ap p q ∙ f) h

pub count_some : (n : ℕ) (p : ℕ → Bool) → count_below n p ≢ 0 → (i : ℕ) × (i < n) × T (p i)
count_some n p d = go (some_below n p) refl
  where
    go : (c : Bool) → some_below n p ≡ c → (i : ℕ) × (i < n) × T (p i)
    go true f = some_below→ n p (true_is f)
    go false f = absurd (d (count_none n p (λ i b h. subst T f (→some_below n p i b h))))

-- ---- the lowest that passes
pub first-le : (p : ℕ → Bool) (s n : ℕ) → first_from p s n ≤ s + n
unfolding first_from
first-le p s zero = omega arith
first-le p s (suc n) = go (p s) (first-le p (suc s) n)
  where
    go : (b : Bool) → first_from p (suc s) n ≤ suc s + n → cond b s (first_from p (suc s) n) ≤ s + suc n
    go true h = omega arith
    go false h = omega arith

pub first_passes : (p : ℕ → Bool) (s n : ℕ) → first_from p s n < s + n → T (p (first_from p s n))
unfolding first_from
first_passes p s zero h = absurd (omega arith)
first_passes p s (suc n) h = go (p s) refl (first_passes p (suc s) n)
  where
    go :
        (b : Bool) → p s ≡ b → (first_from p (suc s) n < suc s + n → T (p (first_from p (suc s) n)))
        → T (p (cond (p s) s (first_from p (suc s) n)))
    go true e f = rw e (true_is e)
    go false e f = rw e (f (let k : first_from p s (suc n) ≡ first_from p (suc s) n = rw e in omega arith))

-- who passes is not before the first that passes
pub first-least : (p : ℕ → Bool) (k s n : ℕ) → s ≤ k → k < s + n → T (p k) → first_from p s n ≤ k
unfolding first_from
first-least p k s zero a b h = absurd (omega arith)
first-least p k s (suc n) a b h = go (p s) refl (λ c. first-least p k (suc s) n c (omega arith) h)
  where
    go : (z : Bool) → p s ≡ z → (suc s ≤ k → first_from p (suc s) n ≤ k) → cond (p s) s (first_from p (suc s) n) ≤ k
    go true e f = rw e a
    go false e f = rw e (f (more (same? s k)))
      where
        more : (s ≡ k) ⊎ (s ≢ k) → suc s ≤ k
        more (inl q) = absurd (subst T (ap p (sym q) ∙ e) h)
        more (inr d) = omega arith

-- ---- elements of a list
pub some_mem : {A : Type 0} (p : A → Bool) {a : A} {l : List A} → Memᴰ a l → T (p a) → T (some p l)
unfolding some
some_mem p (Memᴰ.head {x = x} {xs = xs} e) t = or_left (p x) (some p xs) (subst (λ y. T (p y)) e t)
some_mem p (Memᴰ.tail {x = x} {xs = xs} m) t = or_right (p x) (some p xs) (some_mem p m t)

pub mem_some : {A : Type 0} (p : A → Bool) (l : List A) → T (some p l) → (a : A) × Memᴰ a l × T (p a)
unfolding some
mem_some p [] h = absurd h
mem_some {A} p (x ∷ xs) h = go (mem_some p xs) (or_cases (p x) (some p xs) h)
  where
    go : (T (some p xs) → (a : A) × Memᴰ a xs × T (p a)) → T (p x) ⊎ T (some p xs) → (a : A) × Memᴰ a (x ∷ xs) × T (p a)
    go f (inl t) = (x, Memᴰ.head refl, t)
    go f (inr t) = let r = f t in (r.0, Memᴰ.tail r.1, r.2)

pub every_mem : {A : Type 0} (p : A → Bool) {a : A} {l : List A} → T (every p l) → Memᴰ a l → T (p a)
unfolding every
every_mem p h (Memᴰ.head {x = x} {xs = xs} e) =
    subst (λ y. T (p y)) (sym e) (and_left (p x) (every p xs) h)
every_mem p h (Memᴰ.tail {x = x} {xs = xs} m) = every_mem p (and_right (p x) (every p xs) h) m

pub mem_every : {A : Type 0} (p : A → Bool) (l : List A) → ((a : A) → Memᴰ a l → T (p a)) → T (every p l)
unfolding every
mem_every p [] f = tt
mem_every p (x ∷ xs) f =
    and_both (p x) (every p xs) (f x (Memᴰ.head refl)) (mem_every p xs (λ a m. f a (Memᴰ.tail m)))
