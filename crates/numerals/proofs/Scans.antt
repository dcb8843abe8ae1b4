-- How the numbers of a line are read by an index: what stands from it on.
use Prim.Native.Nat.{ℕ, ◌+◌, ◌-◌, ◌*◌, ◌<◌, ◌≤◌}
use mathlib.Core.Path.{◌≡◌, refl, ap}
use mathlib.Core.Bool.{Bool, true, false, ◌&&◌, false≢true}
use mathlib.Core.List.{List}
use lib.Dec.{leb}
use lib.ListN.{length, get_or, drop}
use Rattle.texts.proofs.Places.{ended, opened}
use borrow.Author.Tests.{eq-eqb, ne_eqb, leb-true}
use native.Mathlib.Omega.{arith}
use Rattle.std.specs.Prelude.{Option, Some, None}
use Rattle.numerals.specs.Numbers.{upto, no, digit, with_digit, digits_from, some_digits, number, greatest}

pub and_left : (a b : Bool) → (a && b) ≡ true → a ≡ true
and_left true b e = refl
and_left false b e = e

pub and_right : (a b : Bool) → (a && b) ≡ true → b ≡ true
and_right true b e = e
and_right false b e = absurd (false≢true e)

pub digit_low : (b : ℕ) → digit b ≡ true → 48 ≤ b
digit_low b e = leb-true 48 b (and_left (leb 48 b) (leb b 57) e)

pub digit_high : (b : ℕ) → digit b ≡ true → b ≤ 57
digit_high b e = leb-true b 57 (and_right (leb 48 b) (leb b 57) e)

module _ (l : List ℕ) (k v : ℕ) where
  pub digits_stop : k < length l → digit (get_or l k 0) ≡ false → digits_from v (drop k l) ≡ upto v (drop k l)
  unfolding digits_from
  digits_stop h e = rw (opened l k h, e)

  -- a digit more, and where there is no room for it
  pub digits_on : {n : ℕ} → k < length l → digit (get_or l k 0) ≡ true → Some n ≡ with_digit v (get_or l k 0) → digits_from v (drop k l) ≡ digits_from n (drop (k + 1) l)
  unfolding digits_from with_digit
  digits_on {n} h e q = go (leb (v * 10 + (get_or l k 0 - 48)) greatest) refl
    where
      go : (c : Bool) → leb (v * 10 + (get_or l k 0 - 48)) greatest ≡ c → digits_from v (drop k l) ≡ digits_from n (drop (k + 1) l)
      go true p = let m : Some n ≡ Some (v * 10 + (get_or l k 0 - 48)) = rw (e, p) at q in rw (opened l k h, e, p) (ap (λ (m : ℕ). digits_from m (drop (k + 1) l)) (grind arith))
      go false p = let m : Some n ≡ None = rw (e, p) at q in grind arith

  pub digits_none : k < length l → digit (get_or l k 0) ≡ true → None ≡ with_digit v (get_or l k 0) → digits_from v (drop k l) ≡ no
  unfolding digits_from with_digit
  digits_none h e q = go (leb (v * 10 + (get_or l k 0 - 48)) greatest) refl
    where
      go : (c : Bool) → leb (v * 10 + (get_or l k 0 - 48)) greatest ≡ c → digits_from v (drop k l) ≡ no
      go true p = let m : ◌≡◌ {A = Option ℕ} None (Some (v * 10 + (get_or l k 0 - 48))) = rw (e, p) at q in grind arith
      go false p = rw (opened l k h, e, p)

-- past the end one place is as another
pub digits_end : (l : List ℕ) (j k v : ℕ) → length l ≤ j → length l ≤ k → upto v (drop j l) ≡ digits_from v (drop k l)
unfolding digits_from
digits_end l j k v g h = rw (ended l j g, ended l k h)

module _ (l : List ℕ) (k : ℕ) where
  pub number_end : length l ≤ k → number (drop k l) ≡ no
  unfolding number
  number_end h = rw (ended l k h)

  pub number-other : k < length l → (get_or l k 0 ≡ 32 → ⊥) → number (drop k l) ≡ no
  unfolding number
  number-other h d = rw (opened l k h, ne_eqb (get_or l k 0) 32 d)

  pub number_none : k < length l → get_or l k 0 ≡ 32 → length l ≤ k + 1 → number (drop k l) ≡ no
  unfolding number some_digits
  number_none h e s = rw (opened l k h, eq-eqb (get_or l k 0) 32 e, ended l (k + 1) s)

  pub number_no_digit : k < length l → get_or l k 0 ≡ 32 → k + 1 < length l → digit (get_or l (k + 1) 0) ≡ false → number (drop k l) ≡ no
  unfolding number some_digits
  number_no_digit h e s d = rw (opened l k h, eq-eqb (get_or l k 0) 32 e, opened l (k + 1) s, d)

  pub number_some : k < length l → get_or l k 0 ≡ 32 → k + 1 < length l → digit (get_or l (k + 1) 0) ≡ true → number (drop k l) ≡ digits_from 0 (drop (k + 1) l)
  unfolding number some_digits
  number_some h e s d = rw (opened l k h, eq-eqb (get_or l k 0) 32 e, opened l (k + 1) s, d)
