-- The verdict, point by point.
use Prim.Native.Nat.{ℕ, ◌+◌, ◌-◌, ◌*◌, ◌/◌, ◌<◌, ◌≤◌}
use mathlib.Core.Path.{◌≡◌, refl}
use mathlib.Core.Logic.{◌≢◌}
use mathlib.Core.Bool.{Bool, true, false, not}
use native.Mathlib.Omega.{arith}
use lib.Dec.{leb, ltb}
use borrow.Author.Tests.{ltb-true, ltb-false, lt-ltb, le-ltb, le-leb, lt-leb, eq-eqb, ne_eqb, not-true, not-false}
use Rattle.journal.specs.Words.{word_size}
use Rattle.journal.specs.Format.{record_size}
use Rattle.judge.specs.Pieces.{calls_stand, spoken}
use Rattle.judge.specs.declared.Verdict.TheVariants.{Accepted, Short, Unequal, LeftOver, Wrong}

-- the bytes of two counts and so many calls and answers
abbrev pub bytes : ℕ → ℕ → ℕ
bytes n m = 2 * word_size + record_size * n + record_size * m

-- ---- the calls and the second count stand

pub too_small : (size n : ℕ) → size < 2 * word_size → false ≡ calls_stand size n
unfolding calls_stand
too_small size n h = rw (lt-ltb size (2 * word_size + record_size * n) (omega arith))

pub by_division : (size n : ℕ) → 2 * word_size ≤ size → leb n ((size - 2 * word_size) / record_size) ≡ calls_stand size n
unfolding calls_stand
by_division size n h = go (ltb size (2 * word_size + record_size * n)) refl
  where
    go : (b : Bool) → ltb size (2 * word_size + record_size * n) ≡ b → leb n ((size - 2 * word_size) / record_size) ≡ not b
    go true e =
        let l : size < 2 * word_size + record_size * n = ltb-true size (2 * word_size + record_size * n) e in
        lt-leb n ((size - 2 * word_size) / record_size) (omega arith)
    go false e =
        let l : 2 * word_size + record_size * n ≤ size = ltb-false size (2 * word_size + record_size * n) e in
        le-leb n ((size - 2 * word_size) / record_size) (omega arith)

pub stand : (size n : ℕ) → calls_stand size n ≡ true → 2 * word_size + record_size * n ≤ size
unfolding calls_stand
stand size n e = ltb-false size (2 * word_size + record_size * n) (not-true _ e)

pub stand_not : (size n : ℕ) → calls_stand size n ≡ false → size < 2 * word_size + record_size * n
unfolding calls_stand
stand_not size n e = ltb-true size (2 * word_size + record_size * n) (not-false _ e)

-- ---- the verdict

module _ (size n m wrong : ℕ) where
  pub short : size < bytes n m → spoken size n m wrong ≡ Short
  unfolding spoken
  short h = rw (lt-ltb size (bytes n m) h)

  pub unequal : bytes n m ≤ size → n ≢ m → spoken size n m wrong ≡ Unequal
  unfolding spoken
  unequal h d = rw (le-ltb size (bytes n m) h, ne_eqb n m d)

  pub left_over_lem : bytes n m < size → n ≡ m → spoken size n m wrong ≡ LeftOver
  unfolding spoken
  left_over_lem h e = rw (le-ltb size (bytes n m) (omega arith), eq-eqb n m e, lt-ltb (bytes n m) size h)

  -- nothing is short, unequal or left over
  pub whole : bytes n m ≡ size → n ≡ m → wrong ≡ 0 → spoken size n m wrong ≡ Accepted
  unfolding spoken
  whole h e w = rw (le-ltb size (bytes n m) (omega arith), eq-eqb n m e, le-ltb (bytes n m) size (omega arith), eq-eqb wrong 0 w)

  pub whole-wrong : bytes n m ≡ size → n ≡ m → wrong ≢ 0 → spoken size n m wrong ≡ Wrong wrong
  unfolding spoken
  whole-wrong h e w = rw (le-ltb size (bytes n m) (omega arith), eq-eqb n m e, le-ltb (bytes n m) size (omega arith), ne_eqb wrong 0 w)
