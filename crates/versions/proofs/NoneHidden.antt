-- Where there is no relaxed query nothing is hidden, and a row is tested by its stamps alone.
use Prim.Native.Nat.{ℕ, zero, suc, ◌+◌, ◌-◌, ◌<◌, ◌≤◌}
use mathlib.Core.Path.{◌≡◌, refl, sym, ap, ◌∙◌, subst}
use mathlib.Core.Logic.{◌⊎◌, inl, inr}
use mathlib.Core.Bool.{Bool, true, false, ◌&&◌, ◌||◌}
use mathlib.Core.List.{List}
use native.Mathlib.Omega.{arith}
use lib.ListN.{get_or}
use lib.Bits.{bit_or}
use lib.Dec.{T, eqb, leb, ltb, eqb→eq, leb→le, ltb→lt, lt→ltb}
use borrow.Author.Tests.{ltb-true, ltb-false}
use Rattle.names.specs.Sizes.{base}
use Rattle.rules.specs.Words.{every_below, contains, bit}
use Rattle.rules.specs.Tables.{masks_at}
use Rattle.rules.proofs.Tests.{iff_eq, and_left, and_right, and_both, or_left, or_cases, eq_make, is_false, false_is}
use Rattle.rules.proofs.Counts.{every_below→, →every_below, some_below→}
use Rattle.rules.proofs.Bits.{bit_none, no_bits, contains→, →contains}
use Rattle.choices.specs.Pairs.{stamp_in, hidden_in}
use Rattle.words.specs.Zeros.{zero_words}
use Rattle.starts.specs.Ordered.{lanes, between}
use Rattle.versions.specs.Rows.{stamp_before, read_at, read_in, step_at, walk_in, walk_ok}

-- ---- words that are zero, by their places
pub zero_at : (l : List ℕ) (from n : ℕ) → T (zero_words l from n) → (i : ℕ) → from ≤ i → i < from + n → get_or l i 0 ≡ 0
unfolding zero_words
zero_at l from n t i a b =
    ap (λ (k : ℕ). get_or l k 0) (let e : i ≡ from + (i - from) = omega arith in e)
    ∙ eqb→eq (get_or l (from + (i - from)) 0) 0 (every_below→ n (λ k. eqb (get_or l (from + k) 0) 0) t (i - from) (omega arith))

pub zero_make : (l : List ℕ) (from n : ℕ) → ((i : ℕ) → from ≤ i → i < from + n → get_or l i 0 ≡ 0) → T (zero_words l from n)
unfolding zero_words
zero_make l from n f = →every_below n (λ k. eqb (get_or l (from + k) 0) 0) (λ k h. eq_make (get_or l (from + k) 0) 0 (f (from + k) (omega arith) (omega arith)))

-- what a start reads has an older stamp than what stands before it
pub between-lt : (q : List ℕ) (lo hi : ℕ) → T (between q lo hi) → lo < hi
unfolding between
between-lt q lo hi t =
    let m = some_below→ lanes (λ k. leb lo (get_or q k 0) && ltb (get_or q k 0) hi) t in
    let s = get_or q m.0 0 in
    let a = leb→le lo s (and_left (leb lo s) (ltb s hi) m.2) in
    let b = ltb→lt s hi (and_right (leb lo s) (ltb s hi) m.2) in
    omega arith

-- what is within nothing is nothing
pub within_none : (w : ℕ) → T (contains 0 w) → w ≡ 0
within_none w t = no_bits w (λ i. is_false (bit w i) (λ b. false_is (bit_none i) (contains→ 0 w t i b)))

pub none_within : (w : ℕ) → T (contains w 0)
none_within w = →contains w 0 (λ i b. absurd (false_is (bit_none i) b))

-- a version is hidden from no more than the one before it
pub step-nests : (q r : List ℕ) (j : ℕ) → T (step_at q r j) → T (contains (hidden_in r j) (hidden_in r (j + 1)))
unfolding step_at contains
step-nests q r j t =
    and_left (eqb (bit_or (hidden_in r j) (hidden_in r (j + 1))) (hidden_in r j)) _ (and_right (ltb (stamp_in r (j + 1)) (stamp_in r j)) _ t)

module _ (q r : List ℕ) (m : ℕ) (least : 1 ≤ m) (most : m ≤ base.places) where
  -- one place, where nothing is hidden
  step-read : (j : ℕ) → hidden_in r j ≡ 0 → hidden_in r (j + 1) ≡ 0 → step_at q r j ≡ read_at q r j
  unfolding step_at read_at
  step-read j a b = rw (a, b) (iff_eq (ltb (stamp_in r (j + 1)) (stamp_in r j) && (between q (stamp_in r (j + 1)) (stamp_in r j) || false)) (between q (stamp_in r (j + 1)) (stamp_in r j)) to from)
    where
      to : T (ltb (stamp_in r (j + 1)) (stamp_in r j) && (between q (stamp_in r (j + 1)) (stamp_in r j) || false)) → T (between q (stamp_in r (j + 1)) (stamp_in r j))
      to t = go (or_cases (between q (stamp_in r (j + 1)) (stamp_in r j)) false (and_right (ltb (stamp_in r (j + 1)) (stamp_in r j)) _ t))
        where
          go : T (between q (stamp_in r (j + 1)) (stamp_in r j)) ⊎ T false → T (between q (stamp_in r (j + 1)) (stamp_in r j))
          go (inl h) = h
          go (inr h) = absurd h

      from : T (between q (stamp_in r (j + 1)) (stamp_in r j)) → T (ltb (stamp_in r (j + 1)) (stamp_in r j) && (between q (stamp_in r (j + 1)) (stamp_in r j) || false))
      from t =
          and_both (ltb (stamp_in r (j + 1)) (stamp_in r j)) _ (lt→ltb (stamp_in r (j + 1)) (stamp_in r j) (between-lt q (stamp_in r (j + 1)) (stamp_in r j) t))
          (or_left (between q (stamp_in r (j + 1)) (stamp_in r j)) false t)

  abbrev masks_zero : Bool
  masks_zero = zero_words r (masks_at base) base.places

  abbrev old : Bool
  old = leb (stamp_before r m) (get_or q 0 0)

  abbrev last_shown : Bool
  last_shown = eqb (hidden_in r (m - 1)) 0

  abbrev rest_zero : Bool
  rest_zero = zero_words r (masks_at base + m) (base.places - m)

  to_walk : T (masks_zero && read_in q r m) → T (walk_ok q 0 r m)
  unfolding walk_ok walk_in read_in
  to_walk t =
      let zero : (j : ℕ) → j < base.places → hidden_in r j ≡ 0 = λ j h. zero_at r (masks_at base) base.places (and_left masks_zero _ t) (masks_at base + j) (omega arith) (omega arith) in
      let d = and_right masks_zero _ t in
      and_both (contains 0 (hidden_in r 0)) _ (subst (λ (w : ℕ). T (contains 0 w)) (sym (zero 0 (omega arith))) (none_within 0))
      (and_both rest_zero _
      (zero_make r (masks_at base + m) (base.places - m) (λ i a b. zero_at r (masks_at base) base.places (and_left masks_zero _ t) i (omega arith) (omega arith)))
      (and_both old _ (and_left old _ d)
      (and_both last_shown _ (eq_make (hidden_in r (m - 1)) 0 (zero (m - 1) (omega arith)))
      (→every_below (m - 1) (step_at q r)
      (λ j h. subst T (sym (step-read j (zero j (omega arith)) (zero (j + 1) (omega arith)))) (every_below→ (m - 1) (read_at q r) (and_right old _ d) j h))))))

  from_walk : T (walk_ok q 0 r m) → T (masks_zero && read_in q r m)
  unfolding walk_ok walk_in read_in
  from_walk t =
      and_both masks_zero _
      (zero_make r (masks_at base) base.places
      (λ i a b. ap (λ (k : ℕ). get_or r k 0) (let e : i ≡ masks_at base + (i - masks_at base) = omega arith in e) ∙ mask (i - masks_at base) (omega arith) (ltb (i - masks_at base) m) refl))
      (and_both old _ (and_left old _ t₂)
      (→every_below (m - 1) (read_at q r) (λ j h. subst T (step-read j (below j (omega arith)) (below (j + 1) (omega arith))) (step j h))))
    where
      t₁ : T (rest_zero && (old && (last_shown && every_below (m - 1) (step_at q r))))
      t₁ = and_right (contains 0 (hidden_in r 0)) _ t

      t₂ : T (old && (last_shown && every_below (m - 1) (step_at q r)))
      t₂ = and_right rest_zero _ t₁

      step : (j : ℕ) → j < m - 1 → T (step_at q r j)
      step = every_below→ (m - 1) (step_at q r) (and_right last_shown _ (and_right old _ t₂))

      -- each is hidden from no more than the one before it
      less : (j : ℕ) → suc j < m → hidden_in r j ≡ 0 → hidden_in r (suc j) ≡ 0
      less j h e =
          let n : j + 1 ≡ suc j = omega arith in
          within_none (hidden_in r (suc j))
          (subst (λ (k : ℕ). T (contains 0 (hidden_in r k))) n (subst (λ (w : ℕ). T (contains w (hidden_in r (j + 1)))) e (step-nests q r j (step j (omega arith)))))

      below : (j : ℕ) → j < m → hidden_in r j ≡ 0
      below zero h = within_none (hidden_in r 0) (and_left (contains 0 (hidden_in r 0)) _ t)
      below (suc j) h = less j h (below j (omega arith))

      mask : (j : ℕ) → j < base.places → (b : Bool) → ltb j m ≡ b → hidden_in r j ≡ 0
      mask j h true e = below j (ltb-true j m e)
      mask j h false e =
          let l = ltb-false j m e in
          zero_at r (masks_at base + m) (base.places - m) (and_left rest_zero _ t₁) (masks_at base + j) (omega arith) (omega arith)

  pub none_hidden : (zero_words r (masks_at base) base.places && read_in q r m) ≡ walk_ok q 0 r m
  none_hidden = iff_eq (masks_zero && read_in q r m) (walk_ok q 0 r m) to_walk from_walk
