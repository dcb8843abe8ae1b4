-- Words of slots: the bits of an and, an or, of one word without another, of a single slot; how many bits.
use Prim.Native.Nat.{ℕ, ◌+◌, ◌-◌, ◌*◌, ◌/◌, ◌%◌, ◌^◌, ◌≤◌, ◌<◌}
use mathlib.Core.Path.{◌≡◌, refl, sym, ap, ◌∙◌, subst}
use mathlib.Core.Logic.{◌≢◌, ◌⊎◌, inl, inr, ⊎_elim}
use mathlib.Core.Bool.{Bool, true, false, ◌&&◌, ◌||◌, not, cond}
use native.Mathlib.Omega.{arith}
use native.Mathlib.Nat.{eq-or-lt_of_le, mod-lt, add-mul, one-mul, zero-mul}
use lib.Bits.{bit_and, bit_or, bit_xor, and_shr, and_mod, or_shr, or_mod, xor_shr, xor_mod, and_high}
use lib.Bits.{xor_add_and, or_add_and, xor_zero_r, or_disjoint, and_le_l}
use lib.Pow.{pow_pos, pow-add, split, shl_exact}
use lib.Count.{ones, ones_cat, ones_step}
use lib.Dec.{T, eqb, ltb, eqb→eq}
use borrow.Author.Tests.{eqb-false, ltb-true, ltb-false}
use Rattle.rules.specs.Words.{bit, with_bit, some_below}
use Rattle.rules.proofs.Tests.{is_false, true_is, false_is, eq_make}
use Rattle.rules.proofs.Counts.{some_below→, →some_below}
use Rattle.rules.proofs.Bits.{bit_none, bit_below, no_bits, one_bit_at}

-- ---- digits
digit : (w i : ℕ) → (w / 2 ^ i % 2 ≡ 0) ⊎ (w / 2 ^ i % 2 ≡ 1)
digit w i =
    let d : w / 2 ^ i % 2 ≤ 1 = omega arith in
    ⊎_elim (λ e. inr e) (λ (l : w / 2 ^ i % 2 < 1). inl (omega arith)) (eq-or-lt_of_le d)

-- what the operations do to single digits
single :
    (x y : ℕ) → (x ≡ 0) ⊎ (x ≡ 1) → (y ≡ 0) ⊎ (y ≡ 1)
    → (eqb (bit_and x y) 1 ≡ (eqb x 1 && eqb y 1))
    × (eqb (bit_or x y) 1 ≡ (eqb x 1 || eqb y 1))
    × (eqb (bit_xor x (bit_and x y)) 1 ≡ (eqb x 1 && not (eqb y 1)))
single x y (inl p) (inl q) = rw (p, q) (refl, refl, refl)
single x y (inl p) (inr q) = rw (p, q) (refl, refl, refl)
single x y (inr p) (inl q) = rw (p, q) (refl, refl, refl)
single x y (inr p) (inr q) = rw (p, q) (refl, refl, refl)

-- ---- bits of words
module _ (a b i : ℕ) where
  and_digit : bit_and a b / 2 ^ i % 2 ≡ bit_and (a / 2 ^ i % 2) (b / 2 ^ i % 2)
  and_digit = ap (λ (n : ℕ). n % 2) (and_shr a b i) ∙ and_mod (a / 2 ^ i) (b / 2 ^ i) 1

  or_digit : bit_or a b / 2 ^ i % 2 ≡ bit_or (a / 2 ^ i % 2) (b / 2 ^ i % 2)
  or_digit = ap (λ (n : ℕ). n % 2) (or_shr a b i) ∙ or_mod (a / 2 ^ i) (b / 2 ^ i) 1

  xor_digit : bit_xor a b / 2 ^ i % 2 ≡ bit_xor (a / 2 ^ i % 2) (b / 2 ^ i % 2)
  xor_digit = ap (λ (n : ℕ). n % 2) (xor_shr a b i) ∙ xor_mod (a / 2 ^ i) (b / 2 ^ i) 1

  pub and_at : bit (bit_and a b) i ≡ (bit a i && bit b i)
  unfolding bit
  and_at = ap (λ (n : ℕ). eqb n 1) and_digit ∙ (single (a / 2 ^ i % 2) (b / 2 ^ i % 2) (digit a i) (digit b i)).0

  pub or_at : bit (bit_or a b) i ≡ (bit a i || bit b i)
  unfolding bit
  or_at = ap (λ (n : ℕ). eqb n 1) or_digit ∙ (single (a / 2 ^ i % 2) (b / 2 ^ i % 2) (digit a i) (digit b i)).1

-- a word without another
pub sans_at : (a b i : ℕ) → bit (bit_xor a (bit_and a b)) i ≡ (bit a i && not (bit b i))
unfolding bit
sans_at a b i =
    ap (λ (n : ℕ). eqb n 1) (xor_digit a (bit_and a b) i ∙ ap (bit_xor (a / 2 ^ i % 2)) (and_digit a b i))
    ∙ (single (a / 2 ^ i % 2) (b / 2 ^ i % 2) (digit a i) (digit b i)).2

pub no_bit : (i : ℕ) → T (bit 0 i) → ⊥
no_bit i = false_is (bit_none i)

-- a word that is not 0 has a bit
pub has_bit : (n w : ℕ) → w < 2 ^ n → w ≢ 0 → (b : ℕ) × (b < n) × T (bit w b)
has_bit n w h d = go (some_below n (bit w)) refl
  where
    go : (c : Bool) → some_below n (bit w) ≡ c → (b : ℕ) × (b < n) × T (bit w b)
    go true e = some_below→ n (bit w) (true_is e)
    go false e =
        absurd (d (no_bits w (λ b. is_false (bit w b) (λ t. false_is e (→some_below n (bit w) b (bit_below w b n h t) t)))))

-- bits 0, 1, .. that are not set are not all
pub first-within : (n w s : ℕ) → 0 < w → w < 2 ^ n → ((k : ℕ) → k < s → T (bit w k) → ⊥) → s < n
first-within n w s p h f = go (ltb b.0 s) refl
  where
    b : (k : ℕ) × (k < n) × T (bit w k)
    b = has_bit n w h (λ z. omega arith)

    go : (c : Bool) → ltb b.0 s ≡ c → s < n
    go true e = absurd (f b.0 (ltb-true b.0 s e) b.2)
    go false e = let l = ltb-false b.0 s e in let m = b.1 in omega arith

-- the code's test of a bit
pub bit_off : (w i : ℕ) → w / 2 ^ i % 2 ≡ 0 → T (bit w i) → ⊥
unfolding bit
bit_off w i z t = let o = eqb→eq (w / 2 ^ i % 2) 1 t in omega arith

pub bit_on : (w i : ℕ) → w / 2 ^ i % 2 ≢ 0 → T (bit w i)
unfolding bit
bit_on w i d = eq_make (w / 2 ^ i % 2) 1 (omega arith)

-- ---- the word of one slot
pub alone-only : (k i : ℕ) → T (bit (2 ^ k) i) → i ≡ k
alone-only k i t = sym (eqb→eq k i (subst T (one_bit_at k i) t))

-- a shift by less than a word's width loses nothing
-- the word of one slot, as the code computes it
abbrev pub one_shifted : ℕ → ℕ
one_shifted k = 1 * 2 ^ k % 2 ^ 64

pub shifted : (k : ℕ) → k < 64 → 1 * 2 ^ k % 2 ^ 64 ≡ 2 ^ k
shifted k h = shl_exact 1 k 64 (omega arith) (omega arith) ∙ one-mul (2 ^ k)

and_alone : (w k : ℕ) → bit_and w (2 ^ k) ≡ w / 2 ^ k % 2 * 2 ^ k
and_alone w k =
    let p : 2 ^ (1 + k) ≡ 2 ^ 1 * 2 ^ k = pow-add 2 1 k in
    let m : 2 ^ (1 + k) - 2 ^ k ≡ 2 ^ k = omega arith in
    ap (bit_and w) (sym m) ∙ and_high w 1 k

and_in : (w k : ℕ) → T (bit w k) → bit_and w (2 ^ k) ≡ 2 ^ k
unfolding bit
and_in w k t = and_alone w k ∙ ap (λ (n : ℕ). n * 2 ^ k) (eqb→eq (w / 2 ^ k % 2) 1 t) ∙ one-mul (2 ^ k)

and_out : (w k : ℕ) → bit w k ≡ false → bit_and w (2 ^ k) ≡ 0
unfolding bit
and_out w k e =
    let z : w / 2 ^ k % 2 ≡ 0 = (let d = eqb-false (w / 2 ^ k % 2) 1 e in omega arith) in
    and_alone w k ∙ ap (λ (n : ℕ). n * 2 ^ k) z ∙ zero-mul (2 ^ k)

-- a bit set, as the code sets it
pub set_is : (w k : ℕ) → bit_or w (2 ^ k) ≡ with_bit w k
unfolding with_bit
set_is w k = go (bit w k) refl
  where
    go : (b : Bool) → bit w k ≡ b → bit_or w (2 ^ k) ≡ cond b w (w + 2 ^ k)
    go true e = let a = and_in w k (true_is e) in let o = or_add_and w (2 ^ k) in omega arith
    go false e = let a = and_out w k e in let o = or_add_and w (2 ^ k) in omega arith

-- a slot less is a smaller word
pub sans_lt : (m k : ℕ) → T (bit m k) → bit_xor m (bit_and m (2 ^ k)) < m
sans_lt m k t =
    let a = and_in m k t in
    let b : bit_and m (bit_and m (2 ^ k)) ≡ 2 ^ k = ap (bit_and m) a ∙ a in
    let x = xor_add_and m (bit_and m (2 ^ k)) in
    let l = and_le_l m (2 ^ k) in
    let p = pow_pos k in
    omega arith

pub sans_le : (m k : ℕ) → bit_xor m (bit_and m (2 ^ k)) ≤ m
sans_le m k = go (bit m k) refl
  where
    go : (c : Bool) → bit m k ≡ c → bit_xor m (bit_and m (2 ^ k)) ≤ m
    go true e = let l = sans_lt m k (true_is e) in omega arith
    go false e = let z : bit_xor m (bit_and m (2 ^ k)) ≡ m = ap (bit_xor m) (and_out m k e) ∙ xor_zero_r m in omega arith

-- a slot more is one bit more
pub ones-more : (w k : ℕ) → bit w k ≡ false → ones (bit_or w (2 ^ k)) ≡ ones w + 1
unfolding bit
ones-more w k e =
    let q : ℕ = w / 2 ^ k in
    let r : ℕ = w % 2 ^ k in
    let l : r < 2 ^ k = mod-lt w (pow_pos k) in
    let s : q * 2 ^ k + r ≡ w = split w k in
    let m : (q + 1) * 2 ^ k ≡ q * 2 ^ k + 1 * 2 ^ k = add-mul q 1 (2 ^ k) in
    let o : bit_or w (2 ^ k) ≡ w + 2 ^ k = or_disjoint w (2 ^ k) (and_out w k e) in
    let d : q % 2 ≢ 1 = eqb-false (q % 2) 1 e in
    let hq : (q + 1) / 2 ≡ q / 2 = omega arith in
    let e : bit_or w (2 ^ k) ≡ (q + 1) * 2 ^ k + r = omega arith in
    let o1 : ones (bit_or w (2 ^ k)) ≡ ones (q + 1) + ones r = ap ones e ∙ ones_cat k (q + 1) r l in
    let o2 : ones w ≡ ones q + ones r = ap ones (sym s) ∙ ones_cat k q r l in
    let o3 : ones ((q + 1) / 2) ≡ ones (q / 2) = ap ones hq in
    omega (arith, ones_step (q + 1), ones_step q)
