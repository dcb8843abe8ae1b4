-- Sets as words: which numbers are in `those`, that a set is determined by its elements, and the lowest of a set.
use Prim.Native.Nat.{ℕ, zero, suc, ◌+◌, ◌^◌, ◌≤◌, ◌<◌}
use mathlib.Core.Path.{◌≡◌, refl, sym, ap, ◌∙◌, subst}
use mathlib.Core.Logic.{◌≢◌, ◌⊎◌, inl, inr}
use mathlib.Core.Bool.{Bool, true, false, ◌&&◌, ◌||◌, cond}
use native.Mathlib.Omega.{arith}
use lib.Bits.{bit_and, bit_or}
use lib.Dec.{T, eqb, ltb}
use borrow.Author.Tests.{ne_eqb, eq-eqb, eqb-true, ltb-true, ltb-false}
use Rattle.rules.specs.Words.{bit, first_from, slots_that}
use Rattle.rules.proofs.Tests.{and_both, and_left, and_right, is_true, true_is, false_is, not_make, not_use}
use Rattle.rules.proofs.Counts.{split-le, first-le, first_passes, first-least}
use Rattle.rules.proofs.Bits.{bit_none, below_bits, below_power, one_bit_at, or_alone}
use Rattle.words.proofs.SlotWords.{and_at, or_at, has_bit, no_bit}
use Rattle.graph.specs.Sets.{those, meets, lowest}

-- ---- those that pass
or_false : (b : Bool) → (b || false) ≡ b
or_false true = refl
or_false false = refl

joined-bit : (b : Bool) (rest n i : ℕ) → bit (cond b (bit_or rest (2 ^ n)) rest) i ≡ (bit rest i || (b && eqb n i))
joined-bit true rest n i = or_at rest (2 ^ n) i ∙ ap (λ (x : Bool). bit rest i || x) (one_bit_at n i)
joined-bit false rest n i = sym (or_false (bit rest i))

and_false : (b : Bool) → (b && false) ≡ false
and_false true = refl
and_false false = refl

and_true : (b : Bool) → (b && true) ≡ b
and_true true = refl
and_true false = refl

pub those-out : (n : ℕ) (p : ℕ → Bool) (i : ℕ) → n ≤ i → bit (those n p) i ≡ false
unfolding those
those-out zero p i h = bit_none i
those-out (suc n) p i h =
    let e : eqb n i ≡ false = ne_eqb n i (λ q. omega arith) in
    let r : bit (those n p) i ≡ false = those-out n p i (omega arith) in
    joined-bit (p n) (those n p) n i ∙ rw (r, e) (and_false (p n))

pub those_at : (n : ℕ) (p : ℕ → Bool) (i : ℕ) → i < n → bit (those n p) i ≡ p i
unfolding those
those_at zero p i h = absurd (omega arith)
those_at (suc n) p i h = joined-bit (p n) (those n p) n i ∙ go (split-le i n h) (those_at n p i)
  where
    go : (i < n) ⊎ (i ≡ n) → (i < n → bit (those n p) i ≡ p i) → (bit (those n p) i || (p n && eqb n i)) ≡ p i
    go (inl l) f =
        let e : eqb n i ≡ false = ne_eqb n i (λ q. omega arith) in
        rw (f l, e, and_false (p n)) (or_false (p i))
    go (inr q) f =
        let e : eqb n i ≡ true = eq-eqb n i (sym q) in
        let r : bit (those n p) i ≡ false = those-out n p i (omega arith) in
        rw (r, e, and_true (p n)) (ap p (sym q))

pub those_below : (n : ℕ) (p : ℕ → Bool) (i : ℕ) → T (bit (those n p) i) → i < n
those_below n p i t = go (ltb i n) refl
  where
    go : (c : Bool) → ltb i n ≡ c → i < n
    go true e = ltb-true i n e
    go false e = absurd (false_is (those-out n p i (ltb-false i n e)) t)

pub those_pass : (n : ℕ) (p : ℕ → Bool) (i : ℕ) → T (bit (those n p) i) → T (p i)
those_pass n p i t = subst T (those_at n p i (those_below n p i t)) t

pub those_in : (n : ℕ) (p : ℕ → Bool) (i : ℕ) → i < n → T (p i) → T (bit (those n p) i)
those_in n p i l t = subst T (sym (those_at n p i l)) t

pub those-small : (n : ℕ) (p : ℕ → Bool) → those n p < 2 ^ n
those-small n p = below_bits n (those n p) (those_below n p)

-- the same tests make the same set
pub those-same : (n : ℕ) (p q : ℕ → Bool) → ((i : ℕ) → i < n → p i ≡ q i) → those n p ≡ those n q
unfolding those
those-same zero p q f = refl
those-same (suc n) p q f = rw (f n (omega arith), those-same n p q (λ i l. f i (omega arith)))

-- ---- sets that meet
pub meets_at : (a b : ℕ) → T (meets a b) → (i : ℕ) × T (bit a i) × T (bit b i)
unfolding meets
meets_at a b t =
    let m = bit_and a b in
    let s = has_bit m m (below_power m) (λ z. not_use (eqb m 0) t (true_is (eq-eqb m 0 z))) in
    let h = subst T (and_at a b s.0) s.2 in
    (s.0, and_left (bit a s.0) (bit b s.0) h, and_right (bit a s.0) (bit b s.0) h)

pub at_meets : (a b i : ℕ) → T (bit a i) → T (bit b i) → T (meets a b)
unfolding meets
at_meets a b i s t =
    not_make (eqb (bit_and a b) 0)
    (λ e.
    let h : T (bit (bit_and a b) i) = subst T (sym (and_at a b i)) (and_both (bit a i) (bit b i) s t) in
    no_bit i (subst (λ (m : ℕ). T (bit m i)) (eqb-true (bit_and a b) 0 (is_true (eqb (bit_and a b) 0) e)) h))

-- ---- the first that passes, as a loop finds it
pub first_is_lem : (p : ℕ → Bool) (n k : ℕ) → k ≤ n → ((j : ℕ) → j < k → T (p j) → ⊥) → (k ≡ n) ⊎ T (p k) → k ≡ first_from p 0 n
first_is_lem p n k l none end = go (ltb f k) refl end
  where
    f : ℕ
    f = first_from p 0 n

    go : (c : Bool) → ltb f k ≡ c → (k ≡ n) ⊎ T (p k) → k ≡ f
    go true e s = let b = ltb-true f k e in absurd (none f b (first_passes p 0 n (omega arith)))
    go false e (inl q) = let a = ltb-false f k e in let b = first-le p 0 n in omega arith
    go false e (inr t) = go' (ltb k n) refl
      where
        go' : (c : Bool) → ltb k n ≡ c → k ≡ f
        go' true h = let a = ltb-false f k e in let c = ltb-true k n h in let b = first-least p k 0 n (omega arith) (omega arith) t in omega arith
        go' false h = let z = ltb-false k n h in let a = ltb-false f k e in let b = first-le p 0 n in omega arith

-- ---- the lowest of a set that is not empty
pub lowest_in : (m : ℕ) → m < 2 ^ 64 → m ≢ 0 → T (bit m (lowest m))
unfolding lowest
lowest_in m h d =
    let s = has_bit 64 m h d in
    let l = first-least (bit m) s.0 0 64 (omega arith) s.1 s.2 in
    let b = s.1 in
    first_passes (bit m) 0 64 (omega arith)

pub lowest-least : (m k : ℕ) → k < 64 → T (bit m k) → lowest m ≤ k
unfolding lowest
lowest-least m k h t = first-least (bit m) k 0 64 (omega arith) h t

-- the word of those that pass, as `words` makes it
pub slots_those : (n : ℕ) (p : ℕ → Bool) → slots_that n p ≡ those n p
unfolding slots_that those
slots_those zero p = refl
slots_those (suc n) p = go (p n) ∙ ap (λ (m : ℕ). cond (p n) (bit_or m (2 ^ n)) m) (slots_those n p)
  where
    go : (b : Bool) → slots_that n p + cond b (2 ^ n) 0 ≡ cond b (bit_or (slots_that n p) (2 ^ n)) (slots_that n p)
    go true = sym (or_alone n p)
    go false = omega arith
