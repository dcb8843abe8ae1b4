-- What is said at the end is the verdict on the whole file.
use Prim.Native.Nat.{ℕ, ◌+◌, ◌*◌, ◌<◌, ◌≤◌}
use mathlib.Core.Path.{◌≡◌, refl, sym, ap, ◌∙◌}
use mathlib.Core.Logic.{⊎_elim}
use mathlib.Core.Bool.{Bool, true, false, ◌||◌}
use mathlib.Core.List.{List}
use native.Mathlib.Omega.{arith}
use lib.Dec.{ltb}
use lib.ListN.{length}
use borrow.Author.Tests.{ltb-true, ltb-false, le-ltb}
use Rattle.rules.proofs.Tests.{same?}
use Rattle.journal.specs.Words.{word_size}
use Rattle.journal.specs.Format.{record_size, call_count, second_place, answers_place, answer_count}
use Rattle.judge.specs.Verdicts.{calls_short, answers_short, counts_equal, left_over, first_wrong, verdict_on}
use Rattle.judge.specs.Pieces.{Whole, spoken}
use Rattle.judge.proofs.Speaking.{bytes, short, unequal, left_over_lem}

-- ---- the first wrong call matters only where the rest is whole

pub same-said : (size n m v w : ℕ) → (size ≡ bytes n m → n ≡ m → v ≡ w) → spoken size n m v ≡ spoken size n m w
same-said size n m v w same = go (ltb size (bytes n m)) (ltb (bytes n m) size) refl refl
  where
    go : (a b : Bool) → ltb size (bytes n m) ≡ a → ltb (bytes n m) size ≡ b → spoken size n m v ≡ spoken size n m w
    go true b e g =
        let h : size < bytes n m = ltb-true size (bytes n m) e in
        short size n m v h ∙ sym (short size n m w h)
    go false true e g =
        let h : bytes n m < size = ltb-true (bytes n m) size g in
        ⊎_elim
        (λ i. left_over_lem size n m v h i ∙ sym (left_over_lem size n m w h i))
        (λ d. unequal size n m v (omega arith) d ∙ sym (unequal size n m w (omega arith) d))
        (same? n m)
    go false false e g =
        let h : bytes n m ≤ size = ltb-false size (bytes n m) e in
        let k : size ≤ bytes n m = ltb-false (bytes n m) size g in
        ⊎_elim
        (λ i. ap (spoken size n m) (same (omega arith) i))
        (λ d. unequal size n m v h d ∙ sym (unequal size n m w h d))
        (same? n m)

-- ---- the verdict on a file, by its size and its two counts

or_true : (b : Bool) → (b || true) ≡ true
or_true true = refl
or_true false = refl

module _ (file : List ℕ) where
  abbrev size : ℕ
  size = length file

  abbrev n : ℕ
  n = call_count file

  abbrev m : ℕ
  m = answer_count file

  pub place : answers_place file ≡ 2 * word_size + record_size * n
  unfolding answers_place second_place
  place = omega arith

  end : answers_place file + record_size * m ≡ bytes n m
  end = ap (λ (k : ℕ). k + record_size * m) place

  -- a section is short exactly where all that the counts say is more than there is
  is_short : (calls_short file || answers_short file) ≡ ltb size (bytes n m)
  unfolding calls_short answers_short
  is_short = rw (place) (go (ltb size (bytes n m)) refl)
    where
      go : (b : Bool) → ltb size (bytes n m) ≡ b →
          (ltb size word_size || ltb size (word_size + record_size * n) || (ltb size (2 * word_size + record_size * n) || ltb size (bytes n m))) ≡ ltb size (bytes n m)
      go true e =
          rw (e, or_true (ltb size (2 * word_size + record_size * n)))
          (or_true (ltb size word_size || ltb size (word_size + record_size * n)))
      go false e =
          let h : bytes n m ≤ size = ltb-false size (bytes n m) e in
          rw (e, le-ltb size word_size (omega arith), le-ltb size (word_size + record_size * n) (omega arith), le-ltb size (2 * word_size + record_size * n) (omega arith))

  pub verdict-said : verdict_on file ≡ spoken size n m (first_wrong file)
  unfolding verdict_on spoken counts_equal left_over
  verdict-said = rw (is_short, end)

  -- "names the first of these four points that fails": w need be the first wrong call only where the others hold
  pub spoken_is : (w : ℕ) → (Whole file → w ≡ first_wrong file) → spoken size n m w ≡ verdict_on file
  spoken_is w same =
      same-said size n m w (first_wrong file) (λ s e. same (record { size = s; counts = e })) ∙ sym verdict-said
