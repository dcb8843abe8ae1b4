-- Bits of a word: one set or cleared, the others as they were; the word of one bit; a word below a power of two; two words taken together,
-- one word within another; the word of the slots that pass a test.
use Prim.Native.Nat.{ℕ, zero, suc, ◌+◌, ◌-◌, ◌*◌, ◌/◌, ◌%◌, ◌^◌, ◌≤◌, ◌<◌}
use mathlib.Core.Path.{◌≡◌, refl, sym, ap, ◌∙◌, subst}
use mathlib.Core.Logic.{◌≢◌, ◌⊎◌, inl, inr, ⊎_elim}
use mathlib.Core.Bool.{Bool, true, false, ◌&&◌, ◌||◌, cond}
use native.Mathlib.Omega.{arith}
use native.Mathlib.Nat.{div-eq_of_lt, pow-suc, zero-add, add-zero, one-mul, div-one, zero-div, lt_of_lt_of_le, eq-or-lt_of_le, not-suc-le-zero}
use lib.Bits.{bit_and, bit_or, and_shr, and_mod, or_shr, or_mod, or_shifted_r}
use lib.Pow.{shr-shr, pow_mono}
use lib.Dec.{T, eqb, ltb}
use borrow.Author.Tests.{eq-eqb, ne_eqb, eqb-true, eqb-false, ltb-true, ltb-false}
use Rattle.rules.specs.Words.{bit, with_bit, without_bit, contains, slots_that}
use Rattle.rules.proofs.Tests.{is_true, is_false, false_is, same?, eq_make, iff_eq, or_left, or_right, or_cases}
use Rattle.rules.proofs.Counts.{split-le}

-- the lowest digit, and the others
pub bit_zero : (h : ℕ) → bit h 0 ≡ eqb (h % 2) 1
unfolding bit
bit_zero h = ap (λ (x : ℕ). eqb (x % 2) 1) (div-one h)

pub bit-suc : (h i : ℕ) → bit h (suc i) ≡ bit (h / 2) i
unfolding bit
bit-suc h i = ap (λ (x : ℕ). eqb (x % 2) 1) (ap (λ (k : ℕ). h / 2 ^ k) (let e : suc i ≡ 1 + i = omega arith in e) ∙ sym (shr-shr h 1 i))

-- ---- a bit that is not set, set
set_here : (i h : ℕ) → bit h i ≡ false → bit (h + 2 ^ i) i ≡ true
set_here zero h e =
    let d = eqb-false (h % 2) 1 (sym (bit_zero h) ∙ e) in
    bit_zero (h + 1) ∙ eq-eqb ((h + 1) % 2) 1 (omega arith)
set_here (suc i) h e =
    let p = 2 ^ i in
    let q : 2 ^ suc i ≡ p * 2 = pow-suc 2 i in
    bit-suc (h + 2 ^ suc i) i
    ∙ ap (λ (x : ℕ). bit x i) (let z : (h + 2 ^ suc i) / 2 ≡ h / 2 + 2 ^ i = rw q (omega arith) in z)
    ∙ set_here i (h / 2) (sym (bit-suc h i) ∙ e)

set_there : (i j h : ℕ) → bit h i ≡ false → j ≢ i → bit (h + 2 ^ i) j ≡ bit h j
set_there zero zero h e d = absurd (d refl)
set_there zero (suc j) h e d =
    let b = eqb-false (h % 2) 1 (sym (bit_zero h) ∙ e) in
    bit-suc (h + 1) j ∙ ap (λ (x : ℕ). bit x j) (let z : (h + 1) / 2 ≡ h / 2 = omega arith in z) ∙ sym (bit-suc h j)
set_there (suc i) zero h e d =
    let q : 2 ^ suc i ≡ 2 ^ i * 2 = pow-suc 2 i in
    bit_zero (h + 2 ^ suc i) ∙ ap (λ (x : ℕ). eqb x 1) (let z : (h + 2 ^ suc i) % 2 ≡ h % 2 = rw q (omega arith) in z) ∙ sym (bit_zero h)
set_there (suc i) (suc j) h e d =
    let q : 2 ^ suc i ≡ 2 ^ i * 2 = pow-suc 2 i in
    bit-suc (h + 2 ^ suc i) j
    ∙ ap (λ (x : ℕ). bit x j) (let z : (h + 2 ^ suc i) / 2 ≡ h / 2 + 2 ^ i = rw q (omega arith) in z)
    ∙ set_there i j (h / 2) (sym (bit-suc h i) ∙ e) (λ x. d (ap suc x))
    ∙ sym (bit-suc h j)

-- ---- a bit that is set, cleared
at_least : (i h : ℕ) → bit h i ≡ true → 2 ^ i ≤ h
at_least zero h e = let d = eqb-true (h % 2) 1 (sym (bit_zero h) ∙ e) in omega arith
at_least (suc i) h e = let q : 2 ^ suc i ≡ 2 ^ i * 2 = pow-suc 2 i in let l = at_least i (h / 2) (sym (bit-suc h i) ∙ e) in omega arith

clear_here : (i h : ℕ) → bit h i ≡ true → bit (h - 2 ^ i) i ≡ false
clear_here zero h e =
    let d = eqb-true (h % 2) 1 (sym (bit_zero h) ∙ e) in
    bit_zero (h - 1) ∙ ne_eqb ((h - 1) % 2) 1 (λ x. omega arith)
clear_here (suc i) h e =
    let q : 2 ^ suc i ≡ 2 ^ i * 2 = pow-suc 2 i in
    let l = at_least (suc i) h e in
    bit-suc (h - 2 ^ suc i) i
    ∙ ap (λ (x : ℕ). bit x i) (let z : (h - 2 ^ suc i) / 2 ≡ h / 2 - 2 ^ i = rw q (omega arith) in z)
    ∙ clear_here i (h / 2) (sym (bit-suc h i) ∙ e)

clear_there : (i j h : ℕ) → bit h i ≡ true → j ≢ i → bit (h - 2 ^ i) j ≡ bit h j
clear_there zero zero h e d = absurd (d refl)
clear_there zero (suc j) h e d =
    let b = eqb-true (h % 2) 1 (sym (bit_zero h) ∙ e) in
    bit-suc (h - 1) j ∙ ap (λ (x : ℕ). bit x j) (let z : (h - 1) / 2 ≡ h / 2 = omega arith in z) ∙ sym (bit-suc h j)
clear_there (suc i) zero h e d =
    let q : 2 ^ suc i ≡ 2 ^ i * 2 = pow-suc 2 i in
    let l = at_least (suc i) h e in
    bit_zero (h - 2 ^ suc i) ∙ ap (λ (x : ℕ). eqb x 1) (let z : (h - 2 ^ suc i) % 2 ≡ h % 2 = rw q (omega arith) in z) ∙ sym (bit_zero h)
clear_there (suc i) (suc j) h e d =
    let q : 2 ^ suc i ≡ 2 ^ i * 2 = pow-suc 2 i in
    let l = at_least (suc i) h e in
    bit-suc (h - 2 ^ suc i) j
    ∙ ap (λ (x : ℕ). bit x j) (let z : (h - 2 ^ suc i) / 2 ≡ h / 2 - 2 ^ i = rw q (omega arith) in z)
    ∙ clear_there i j (h / 2) (sym (bit-suc h i) ∙ e) (λ x. d (ap suc x))
    ∙ sym (bit-suc h j)

-- ---- the two operations of the rules
pub with_bit_here : (h i : ℕ) → bit (with_bit h i) i ≡ true
unfolding with_bit
with_bit_here h i = go (bit h i) refl
  where
    go : (b : Bool) → bit h i ≡ b → bit (cond (bit h i) h (h + 2 ^ i)) i ≡ true
    go true e = rw e e
    go false e = rw e (set_here i h e)

pub with_bit_there : (h i j : ℕ) → j ≢ i → bit (with_bit h i) j ≡ bit h j
unfolding with_bit
with_bit_there h i j d = go (bit h i) refl
  where
    go : (b : Bool) → bit h i ≡ b → bit (cond (bit h i) h (h + 2 ^ i)) j ≡ bit h j
    go true e = rw e refl
    go false e = rw e (set_there i j h e d)

pub without_bit_here : (h i : ℕ) → bit (without_bit h i) i ≡ false
unfolding without_bit
without_bit_here h i = go (bit h i) refl
  where
    go : (b : Bool) → bit h i ≡ b → bit (cond (bit h i) (h - 2 ^ i) h) i ≡ false
    go true e = rw e (clear_here i h e)
    go false e = rw e e

pub without_bit_there : (h i j : ℕ) → j ≢ i → bit (without_bit h i) j ≡ bit h j
unfolding without_bit
without_bit_there h i j d = go (bit h i) refl
  where
    go : (b : Bool) → bit h i ≡ b → bit (cond (bit h i) (h - 2 ^ i) h) j ≡ bit h j
    go true e = rw e (clear_there i j h e d)
    go false e = rw e refl

-- a bit that is not set is not cleared
pub without_none : (h s : ℕ) → (T (bit h s) → ⊥) → without_bit h s ≡ h
unfolding without_bit
without_none h s n = rw (is_false (bit h s) n)

-- what is left of a word
pub without-bit : (h s q : ℕ) → T (bit (without_bit h s) q) → (q ≢ s) × T (bit h q)
without-bit h s q b = go (same? q s)
  where
    go : (q ≡ s) ⊎ (q ≢ s) → (q ≢ s) × T (bit h q)
    go (inl e) = absurd (false_is (without_bit_here h s) (subst (λ (j : ℕ). T (bit (without_bit h s) j)) e b))
    go (inr d) = (d, subst T (without_bit_there h s q d) b)

pub bit-without : (h s q : ℕ) → q ≢ s → T (bit h q) → T (bit (without_bit h s) q)
bit-without h s q d b = subst T (sym (without_bit_there h s q d)) b

-- ---- a word without bits, and the word of one bit
pub bit_none : (b : ℕ) → bit 0 b ≡ false
unfolding bit
bit_none b = rw zero-div

one_bit : (k : ℕ) → with_bit 0 k ≡ 2 ^ k
unfolding with_bit
one_bit k = rw (bit_none k) (zero-add (2 ^ k))

pub one_bit_at : (k i : ℕ) → bit (2 ^ k) i ≡ eqb k i
one_bit_at k i = ap (λ (w : ℕ). bit w i) (sym (one_bit k)) ∙ go (eqb k i) refl
  where
    go : (c : Bool) → eqb k i ≡ c → bit (with_bit 0 k) i ≡ eqb k i
    go true e = ap (bit (with_bit 0 k)) (sym (eqb-true k i e)) ∙ with_bit_here 0 k ∙ sym e
    go false e = with_bit_there 0 k i (λ q. eqb-false k i e (sym q)) ∙ bit_none i ∙ sym e

-- ---- a word that has bits below k only is below 2 ^ k, and the other way round
pub bit_below : (h b k : ℕ) → h < 2 ^ k → T (bit h b) → b < k
unfolding bit
bit_below h b k l t = go (ltb b k) refl
  where
    go : (c : Bool) → ltb b k ≡ c → b < k
    go true e = ltb-true b k e
    go false e =
        let m : 2 ^ k ≤ 2 ^ b = pow_mono (ltb-false b k e) in
        let z : h / 2 ^ b ≡ 0 = div-eq_of_lt (lt_of_lt_of_le l m) in
        absurd (subst (λ (x : ℕ). T (eqb (x % 2) 1)) z t)

-- a word without bits is 0
no_bits_below : (n h : ℕ) → h < 2 ^ n → ((b : ℕ) → bit h b ≡ false) → h ≡ 0
no_bits_below zero h l f = omega arith
no_bits_below (suc n) h l f =
    let q : 2 ^ suc n ≡ 2 ^ n * 2 = pow-suc 2 n in
    let e : h / 2 ≡ 0 = no_bits_below n (h / 2) (omega arith) (λ b. sym (bit-suc h b) ∙ f (suc b)) in
    let d : h % 2 ≢ 1 = eqb-false (h % 2) 1 (sym (bit_zero h) ∙ f 0) in
    omega arith

-- every number is below its power of two
pub below_power : (n : ℕ) → n < 2 ^ n
below_power zero = omega arith
below_power (suc n) = let q : 2 ^ suc n ≡ 2 ^ n * 2 = pow-suc 2 n in let h = below_power n in omega arith

pub no_bits : (h : ℕ) → ((b : ℕ) → bit h b ≡ false) → h ≡ 0
no_bits h f = no_bits_below h h (below_power h) f

pub below_bits : (k h : ℕ) → ((b : ℕ) → T (bit h b) → b < k) → h < 2 ^ k
below_bits zero h f = let e = no_bits h (λ b. is_false (bit h b) (λ t. absurd (let l = f b t in omega arith))) in omega arith
below_bits (suc k) h f =
    let q : 2 ^ suc k ≡ 2 ^ k * 2 = pow-suc 2 k in
    let l = below_bits k (h / 2) (λ b t. let m = f (suc b) (subst T (sym (bit-suc h b)) t) in omega arith) in
    omega arith

-- ---- two words with the same bits are one
same_below : (n a c : ℕ) → a < 2 ^ n → c < 2 ^ n → ((b : ℕ) → bit a b ≡ bit c b) → a ≡ c
same_below zero a c l m f = omega arith
same_below (suc n) a c l m f =
    let q : 2 ^ suc n ≡ 2 ^ n * 2 = pow-suc 2 n in
    let e : a / 2 ≡ c / 2 = same_below n (a / 2) (c / 2) (omega arith) (omega arith) (λ b. sym (bit-suc a b) ∙ f (suc b) ∙ bit-suc c b) in
    let d : eqb (a % 2) 1 ≡ eqb (c % 2) 1 = sym (bit_zero a) ∙ f 0 ∙ bit_zero c in
    digits (eqb (c % 2) 1) refl d e
  where
    digits : (z : Bool) → eqb (c % 2) 1 ≡ z → eqb (a % 2) 1 ≡ eqb (c % 2) 1 → a / 2 ≡ c / 2 → a ≡ c
    digits true z d e = let u = eqb-true (c % 2) 1 z in let v = eqb-true (a % 2) 1 (d ∙ z) in omega arith
    digits false z d e = let u = eqb-false (c % 2) 1 z in let v = eqb-false (a % 2) 1 (d ∙ z) in omega arith

pub same_bits : (a c : ℕ) → ((b : ℕ) → bit a b ≡ bit c b) → a ≡ c
same_bits a c f =
    same_below (a + c) a c (lt_of_lt_of_le (below_power a) (pow_mono {i = a} {j = a + c} (omega arith)))
    (lt_of_lt_of_le (below_power c) (pow_mono {i = c} {j = a + c} (omega arith))) f

-- ---- two words together, by their bits
digit : (w i : ℕ) → (w / 2 ^ i % 2 ≡ 0) ⊎ (w / 2 ^ i % 2 ≡ 1)
digit w i =
    let d : w / 2 ^ i % 2 ≤ 1 = omega arith in
    ⊎_elim (λ e. inr e) (λ (l : w / 2 ^ i % 2 < 1). inl (omega arith)) (eq-or-lt_of_le d)

single :
    (x y : ℕ) → (x ≡ 0) ⊎ (x ≡ 1) → (y ≡ 0) ⊎ (y ≡ 1)
    → (eqb (bit_and x y) 1 ≡ (eqb x 1 && eqb y 1)) × (eqb (bit_or x y) 1 ≡ (eqb x 1 || eqb y 1))
single x y (inl p) (inl q) = rw (p, q) (refl, refl)
single x y (inl p) (inr q) = rw (p, q) (refl, refl)
single x y (inr p) (inl q) = rw (p, q) (refl, refl)
single x y (inr p) (inr q) = rw (p, q) (refl, refl)

module _ (a b i : ℕ) where
  pub and_at : bit (bit_and a b) i ≡ (bit a i && bit b i)
  unfolding bit
  and_at =
      ap (λ (n : ℕ). eqb n 1) (ap (λ (n : ℕ). n % 2) (and_shr a b i) ∙ and_mod (a / 2 ^ i) (b / 2 ^ i) 1)
      ∙ (single (a / 2 ^ i % 2) (b / 2 ^ i % 2) (digit a i) (digit b i)).0

  pub or_at : bit (bit_or a b) i ≡ (bit a i || bit b i)
  unfolding bit
  or_at =
      ap (λ (n : ℕ). eqb n 1) (ap (λ (n : ℕ). n % 2) (or_shr a b i) ∙ or_mod (a / 2 ^ i) (b / 2 ^ i) 1)
      ∙ (single (a / 2 ^ i % 2) (b / 2 ^ i % 2) (digit a i) (digit b i)).1

  pub or_in_left : T (bit a i) → T (bit (bit_or a b) i)
  or_in_left h = subst T (sym or_at) (or_left (bit a i) (bit b i) h)

  pub or_in_right : T (bit b i) → T (bit (bit_or a b) i)
  or_in_right h = subst T (sym or_at) (or_right (bit a i) (bit b i) h)

  pub or_in : T (bit (bit_or a b) i) → T (bit a i) ⊎ T (bit b i)
  or_in h = or_cases (bit a i) (bit b i) (subst T or_at h)

-- a word to which nothing new is added
pub or_within : (a b : ℕ) → ((i : ℕ) → T (bit b i) → T (bit a i)) → bit_or a b ≡ a
or_within a b f =
    same_bits (bit_or a b) a (λ i. iff_eq (bit (bit_or a b) i) (bit a i) (λ h. ⊎_elim (λ k. k) (f i) (or_in a b i h)) (or_in_left a b i))

-- ---- one word within another
pub contains→ : (m n : ℕ) → T (contains m n) → (i : ℕ) → T (bit n i) → T (bit m i)
unfolding contains
contains→ m n h i k = subst (λ (w : ℕ). T (bit w i)) (eqb-true (bit_or m n) m (is_true (eqb (bit_or m n) m) h)) (or_in_right m n i k)

pub →contains : (m n : ℕ) → ((i : ℕ) → T (bit n i) → T (bit m i)) → T (contains m n)
unfolding contains
→contains m n f = eq_make (bit_or m n) m (or_within m n f)

-- ---- the word of the slots below n that pass
pub slots_lt : (n : ℕ) (p : ℕ → Bool) → slots_that n p < 2 ^ n
unfolding slots_that
slots_lt zero p = omega arith
slots_lt (suc n) p = let h = slots_lt n p in let e = pow-suc 2 n in let q = part (p n) in omega arith
  where
    part : (c : Bool) → cond c (2 ^ n) 0 ≤ 2 ^ n
    part true = omega arith
    part false = omega arith

pub or_alone : (n : ℕ) (p : ℕ → Bool) → bit_or (slots_that n p) (2 ^ n) ≡ slots_that n p + 2 ^ n
or_alone n p =
    ap (bit_or (slots_that n p)) (sym (one-mul (2 ^ n))) ∙ or_shifted_r 1 n (slots_that n p) (slots_lt n p) ∙ omega arith

or_false : (b : Bool) → (b || false) ≡ b
or_false true = refl
or_false false = refl

high : (w n : ℕ) → w < 2 ^ n → bit w n ≡ false
high w n l = is_false (bit w n) (λ t. let k = bit_below w n n l t in omega arith)

-- its bits are the test
pub slots_at : (n : ℕ) (p : ℕ → Bool) (s : ℕ) → s < n → bit (slots_that n p) s ≡ p s
unfolding slots_that
slots_at zero p s h = absurd (not-suc-le-zero h)
slots_at (suc n) p s h = go (p n) refl (λ q. slots_at n p s q)
  where
    w : ℕ
    w = slots_that n p

    go : (c : Bool) → p n ≡ c → (s < n → bit w s ≡ p s) → bit (slots_that n p + cond c (2 ^ n) 0) s ≡ p s
    go true e ih =
        ap (λ (v : ℕ). bit v s) (sym (or_alone n p))
        ∙ or_at w (2 ^ n) s
        ∙ ap (λ (b : Bool). bit w s || b) (one_bit_at n s)
        ∙ ⊎_elim
        (λ (q : s < n). ap (λ (b : Bool). bit w s || b) (ne_eqb n s (λ z. omega arith)) ∙ or_false (bit w s) ∙ ih q)
        (λ (q : s ≡ n). subst (λ (s : ℕ). (bit w s || eqb n s) ≡ p s) (sym q) (ap (λ (b : Bool). b || eqb n n) (high w n (slots_lt n p)) ∙ eq-eqb n n refl ∙ sym e))
        (split-le s n h)
    go false e ih =
        ap (λ (v : ℕ). bit v s) (add-zero w)
        ∙ ⊎_elim
        ih
        (λ (q : s ≡ n). subst (λ (s : ℕ). bit w s ≡ p s) (sym q) (high w n (slots_lt n p) ∙ sym e))
        (split-le s n h)

-- a slot of the word is below n and passes
pub slots→ : (n : ℕ) (p : ℕ → Bool) (s : ℕ) → T (bit (slots_that n p) s) → (s < n) × T (p s)
slots→ n p s h = let l = bit_below (slots_that n p) s n (slots_lt n p) h in (l, subst T (slots_at n p s l) h)

pub →slots : (n : ℕ) (p : ℕ → Bool) (s : ℕ) → s < n → T (p s) → T (bit (slots_that n p) s)
→slots n p s l h = subst T (sym (slots_at n p s l)) h
