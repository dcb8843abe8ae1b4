-- The counts, one after another.
use Prim.Native.Nat.{ℕ, ◌+◌, ◌*◌, ◌≤◌, ◌<◌}
use mathlib.Core.Path.{◌≡◌, refl, sym, ap, ◌∙◌}
use mathlib.Core.Bool.{false}
use mathlib.Core.List.{List}
use native.Mathlib.Omega.{arith}
use lib.ListN.{length, drop}
use Rattle.journal.specs.Words.{word_size, word_at, greatest}
use Rattle.journal.specs.Format.{record_size, call_count, second_place, answer_count}
use Rattle.journal.proofs.WordLaws.{word-drop, word_piece}
use Rattle.judge.specs.Pieces.{calls_stand, spoken}
use Rattle.judge.proofs.Speaking.{short, stand_not}
use Rattle.judging.specs.declared.counted.Counts.{Counts}
use Rattle.judging.specs.Counted.{part, Counted}

abbrev pub counts : ℕ → ℕ → ℕ → ℕ → ℕ → Counts
counts size wanted place first second =
    record { size = size; wanted = wanted; place = place; first = first; second = second }

-- a word that is read alone is the word at its place
pub word-part : (file : List ℕ) (at : ℕ) → word_at 0 (part file at word_size) ≡ word_at at file
word-part file at = word_piece 0 word_size (drop at file) (omega arith) ∙ sym (word-drop at file)

-- ---- birth

pub too_short : (file : List ℕ) (size : ℕ) → size ≤ greatest → size < 2 * word_size → size ≡ length file → Counted file (counts size 0 0 0 0)
too_short file size f h e =
    record {
      size = e;
      fits = f;
      most = omega arith;
      stands = λ z. omega arith;
      start = λ z. omega arith;
      next = λ z. omega arith;
      first = λ z. omega arith;
      whole = λ z w. let s : length file ≡ 2 * word_size + record_size * call_count file + record_size * answer_count file = w.size in omega arith;
      said = λ z w. short size 0 0 w (omega arith) ∙ sym (short (length file) (call_count file) (answer_count file) w (omega arith));
    }

pub born : (file : List ℕ) (size : ℕ) → size ≤ greatest → 2 * word_size ≤ size → size ≡ length file → Counted file (counts size 2 0 0 0)
born file size f h e =
    record {
      size = e;
      fits = f;
      most = omega arith;
      stands = λ z. omega arith;
      start = λ z. refl;
      next = λ z. omega arith;
      first = λ z. omega arith;
      whole = λ z w. omega arith;
      said = λ z w. absurd (let no : ⊥ = omega arith in no);
    }

-- ---- the first count

module _ (file : List ℕ) (c : Counts) (h : Counted file c) (n : ℕ) (e : n ≡ call_count file) where
  pub calls-short : calls_stand c.size n ≡ false → Counted file (counts c.size 0 0 n 0)
  calls-short s =
      let l : c.size < 2 * word_size + record_size * n = stand_not c.size n s in
      let z : c.size ≡ length file = h.size in
      record {
        size = h.size;
        fits = h.fits;
        most = omega arith;
        stands = λ z. omega arith;
        start = λ z. omega arith;
        next = λ z. omega arith;
        first = λ z. omega arith;
        whole = λ z w. e;
        said =
            λ z w.
            short c.size n 0 w (omega arith)
            ∙ sym (short (length file) (call_count file) (answer_count file) w (omega arith));
      }

  pub calls_there : 2 * word_size + record_size * n ≤ c.size → Counted file (counts c.size 1 (word_size + record_size * n) n 0)
  unfolding second_place
  calls_there s =
      let z : c.size ≡ length file = h.size in
      record {
        size = h.size;
        fits = h.fits;
        most = omega arith;
        stands = λ z. omega arith;
        start = λ z. omega arith;
        next = λ z. ap (λ (k : ℕ). word_size + record_size * k) e;
        first = λ z. e;
        whole = λ z w. e;
        said = λ z w. absurd (let no : ⊥ = omega arith in no);
      }

-- ---- the second count

pub both : (file : List ℕ) (c : Counts) → Counted file c → c.wanted ≡ 1 → (m : ℕ) → m ≡ answer_count file → Counted file (counts c.size 0 0 c.first m)
both file c h o m e =
    record {
      size = h.size;
      fits = h.fits;
      most = omega arith;
      stands = λ z. omega arith;
      start = λ z. omega arith;
      next = λ z. omega arith;
      first = λ z. omega arith;
      whole = λ z w. h.first o;
      said = λ z w. λ i. spoken (h.size i) (h.first o i) (e i) w;
    }
