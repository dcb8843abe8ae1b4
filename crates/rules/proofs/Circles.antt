-- The marks after n rounds on n slots are exactly the slots below n that a walk reaches.
use Prim.Native.Nat.{ℕ, zero, suc, ◌+◌, ◌≤◌, ◌<◌}
use mathlib.Core.Path.{◌≡◌, refl, sym, ap, ◌∙◌, subst}
use mathlib.Core.Logic.{◌⊎◌, inl, inr}
use mathlib.Core.Bool.{Bool, true, false, ◌&&◌, ◌||◌}
use mathlib.Core.List.{List, [], ◌∷◌}
use native.Mathlib.Omega.{arith}
use native.Mathlib.Nat.{add-zero, zero-add, add-suc, suc-add, not-suc-le-zero, le_of_suc-le-suc}
use lib.ListN.{length, get_or}
use lib.Dec.{T}
use Rattle.rules.specs.Words.{some_below, tabulate_from}
use Rattle.rules.specs.Waits.{Walk, one, more, marked, spread, rounds, reached}
use Rattle.rules.proofs.Tests.{and_left, and_right, and_both, or_cases, or_left, or_right}
use Rattle.rules.proofs.Counts.{some_below→, →some_below}

pub get_d_tabulate : {A : Type 0} (n i : ℕ) (f : ℕ → A) (d : A) (k : ℕ) → k < n → get_or (tabulate_from i n f) k d ≡ f (i + k)
unfolding tabulate_from
get_d_tabulate zero i f d k h = absurd (not-suc-le-zero h)
get_d_tabulate (suc n) i f d zero h = ap f (sym (add-zero i))
get_d_tabulate (suc n) i f d (suc k) h = get_d_tabulate n (suc i) f d k (le_of_suc-le-suc h) ∙ ap f (suc-add i k ∙ sym (add-suc i k))

pub length_tabulate : {A : Type 0} (n i : ℕ) (f : ℕ → A) → length (tabulate_from i n f) ≡ n
unfolding tabulate_from
length_tabulate zero i f = refl
length_tabulate (suc n) i f = ap suc (length_tabulate n (suc i) f)

-- how many marks
tally : Bool → ℕ → ℕ
tally true n = suc n
tally false n = n

count : List Bool → ℕ
unfolding tally
count [] = 0
count (b ∷ m) = tally b (count m)

count-le : (m : List Bool) → count m ≤ length m
unfolding count tally
count-le [] = omega arith
count-le (true ∷ m) = let h = count-le m in omega arith
count-le (false ∷ m) = let h = count-le m in omega arith

-- a list with some marks more
data Grown : List Bool → List Bool → Type 0 where
  none : Grown [] []
  kept : {b : Bool} {m k : List Bool} → Grown m k → Grown (b ∷ m) (b ∷ k)
  new : {m k : List Bool} → Grown m k → Grown (false ∷ m) (true ∷ k)

same_or_more : {m k : List Bool} → Grown m k → (m ≡ k) ⊎ (count m < count k)
unfolding count tally
same_or_more none = inl refl
same_or_more (kept {b} {m} {k} g) = go b (same_or_more g)
  where
    go : (b : Bool) → (m ≡ k) ⊎ (count m < count k) → ((b ∷ m) ≡ (b ∷ k)) ⊎ (count (b ∷ m) < count (b ∷ k))
    go b (inl e) = inl (ap {B = List Bool} (λ r. b ∷ r) e)
    go true (inr h) = inr (omega arith)
    go false (inr h) = inr h
same_or_more (new {m} {k} g) = inr (go (same_or_more g))
  where
    go : (m ≡ k) ⊎ (count m < count k) → count m < suc (count k)
    go (inl e) = let h : count m ≡ count k = ap count e in omega arith
    go (inr h) = omega arith

grown_cons : (b c : Bool) {m k : List Bool} → (T b → T c) → Grown m k → Grown (b ∷ m) (c ∷ k)
grown_cons true true h g = kept g
grown_cons true false h g = absurd (h tt)
grown_cons false true h g = new g
grown_cons false false h g = kept g

grown_tabulate :
    (m : List Bool) (i : ℕ) (f : ℕ → Bool) → ((k : ℕ) → T (get_or m k false) → T (f (i + k)))
    → Grown m (tabulate_from i (length m) f)
unfolding tabulate_from
grown_tabulate [] i f h = none
grown_tabulate (b ∷ m) i f h =
    grown_cons b (f i) (λ t. rw add-zero at (h 0 t))
    (grown_tabulate m (suc i) f (λ k t. rw suc-add (rw add-suc at (h (suc k) t))))

module _ (n : ℕ) (E : ℕ → ℕ → Bool) where
  -- b is marked, or a marked slot below n waits for it
  met : List Bool → ℕ → Bool
  met m b = marked m b || some_below n (λ a. marked m a && E a b)

  spread_at : (m : List Bool) (b : ℕ) → b < n → marked (spread n E m) b ≡ met m b
  unfolding marked spread met
  spread_at m b h = get_d_tabulate n 0 (λ b. marked m b || some_below n (λ a. marked m a && E a b)) false b h ∙ ap (met m) (zero-add b)

  length-spread : (m : List Bool) → length (spread n E m) ≡ n
  unfolding spread met
  length-spread m = length_tabulate n 0 (met m)

  grown-spread : (m : List Bool) → length m ≡ n → Grown m (spread n E m)
  unfolding spread met marked
  grown-spread m e =
      subst (λ (k : ℕ). Grown m (tabulate_from 0 k (met m))) e
      (grown_tabulate m 0 (met m) (λ k t. rw zero-add (or_left (marked m k) (some_below n (λ a. marked m a && E a k)) t)))

  -- where no slot is left to mark, further rounds mark none
  stays : (k : ℕ) (m : List Bool) → spread n E m ≡ m → rounds n E k m ≡ m
  unfolding rounds
  stays zero m e = refl
  stays (suc k) m e = ap (rounds n E k) e ∙ stays k m e

  -- each round marks one slot more or none, and there are n: after n rounds there is none left to mark
  settles : (k : ℕ) (m : List Bool) → length m ≡ n → n ≤ count m + k → spread n E (rounds n E k m) ≡ rounds n E k m
  unfolding rounds
  settles zero m e h = go (same_or_more (grown-spread m e))
    where
      go : (m ≡ spread n E m) ⊎ (count m < count (spread n E m)) → spread n E m ≡ m
      go (inl p) = sym p
      go (inr l) = absurd (let a = count-le (spread n E m) in let b = length-spread m in omega arith)
  settles (suc k) m e h = go (λ g. settles k (spread n E m) (length-spread m) g) (same_or_more (grown-spread m e))
    where
      go :
          (n ≤ count (spread n E m) + k → spread n E (rounds n E k (spread n E m)) ≡ rounds n E k (spread n E m))
          → (m ≡ spread n E m) ⊎ (count m < count (spread n E m))
          → spread n E (rounds n E k (spread n E m)) ≡ rounds n E k (spread n E m)
      go f (inl p) =
          let q : rounds n E k (spread n E m) ≡ m = ap (rounds n E k) (sym p) ∙ stays k m (sym p) in
          ap (spread n E) q ∙ sym p ∙ sym q
      go f (inr l) = f (omega arith)

  first : ℕ → List Bool
  first a = tabulate_from 0 n (E a)

  reached_stable : (a : ℕ) → spread n E (reached n E a) ≡ reached n E a
  unfolding reached first
  reached_stable a = settles n (first a) (length_tabulate n 0 (E a)) (omega arith)

  -- ---- what is marked stays marked, and each mark is reached by a walk
  marked-spread : (m : List Bool) (b : ℕ) → b < n → T (marked m b) → T (marked (spread n E m) b)
  unfolding met
  marked-spread m b h t = rw spread_at (or_left (marked m b) (some_below n (λ a. marked m a && E a b)) t)

  marked-rounds : (k : ℕ) (m : List Bool) (b : ℕ) → b < n → T (marked m b) → T (marked (rounds n E k m) b)
  unfolding rounds
  marked-rounds zero m b h t = t
  marked-rounds (suc k) m b h t = marked-rounds k (spread n E m) b h (marked-spread m b h t)

  sound-spread :
      (a : ℕ) (m : List Bool) → ((b : ℕ) → b < n → T (marked m b) → Walk E a b)
      → (b : ℕ) → b < n → T (marked (spread n E m) b) → Walk E a b
  unfolding met
  sound-spread a m s b h t = go (or_cases (marked m b) (some_below n (λ a. marked m a && E a b)) (subst T (spread_at m b h) t))
    where
      go : T (marked m b) ⊎ T (some_below n (λ a. marked m a && E a b)) → Walk E a b
      go (inl u) = s b h u
      go (inr u) =
          let r = some_below→ n (λ a. marked m a && E a b) u in
          more (s r.0 r.1 (and_left (marked m r.0) (E r.0 b) r.2)) (and_right (marked m r.0) (E r.0 b) r.2)

  sound-rounds :
      (a k : ℕ) (m : List Bool) → ((b : ℕ) → b < n → T (marked m b) → Walk E a b)
      → (b : ℕ) → b < n → T (marked (rounds n E k m) b) → Walk E a b
  unfolding rounds
  sound-rounds a zero m s b h t = s b h t
  sound-rounds a (suc k) m s b h t = sound-rounds a k (spread n E m) (sound-spread a m s) b h t

  first_at : (a b : ℕ) → b < n → marked (first a) b ≡ E a b
  unfolding marked first
  first_at a b h = get_d_tabulate n 0 (E a) false b h ∙ ap (E a) (zero-add b)

  pub reached→walk : (a b : ℕ) → b < n → T (marked (reached n E a) b) → Walk E a b
  unfolding reached first
  reached→walk a b h t = sound-rounds a n (first a) (λ c l u. one (subst T (first_at a c l) u)) b h t

  -- waits lead to slots below n
  module _ (within : (a b : ℕ) → T (E a b) → b < n) where
    pub walk_within : {a b : ℕ} → Walk E a b → b < n
    walk_within (one {a} {b} e) = within a b e
    walk_within (more {a} {b} {c} w e) = within b c e

    pub walk→reached : {a b : ℕ} → Walk E a b → T (marked (reached n E a) b)
    unfolding reached first met
    walk→reached (one {a} {b} e) = marked-rounds n (first a) b (within a b e) (subst T (sym (first_at a b (within a b e))) e)
    walk→reached (more {a} {b} {c} w e) =
        subst (λ (m : List Bool). T (marked m c)) (reached_stable a)
        (subst T (sym (spread_at (reached n E a) c (within b c e)))
        (or_right (marked (reached n E a) c) (some_below n (λ x. marked (reached n E a) x && E x c))
        (→some_below n (λ x. marked (reached n E a) x && E x c) b (walk_within w)
        (and_both (marked (reached n E a) b) (E b c) (walk→reached w) e))))
