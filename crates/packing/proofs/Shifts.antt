-- What the loops know that move words, or clear a bit in them: their beginning, a step, and their end.
use Prim.Native.Nat.{ℕ, ◌+◌, ◌-◌, ◌*◌, ◌%◌, ◌^◌, ◌≤◌, ◌<◌}
use mathlib.Core.Path.{◌≡◌, refl, sym, ap, ◌∙◌, subst}
use mathlib.Core.Logic.{⊎_elim}
use mathlib.Core.Bool.{Bool, true, false}
use mathlib.Core.List.{List}
use native.Mathlib.Omega.{arith}
use native.Mathlib.Nat.{eq-or-lt_of_le, one-mul}
use lib.ListN.{length, get_or, set, length-set}
use lib.Seq.{get_or-set_same, get_or-set_other}
use lib.Pow.{shl_exact}
use lib.Dec.{T, ltb}
use borrow.Author.Tests.{ltb-true, ltb-false}
use Rattle.std.specs.List.{CopiedTo, SameBelow, SameFrom}
use Rattle.names.specs.Sizes.{base}
use Rattle.rules.specs.Words.{bit, without_bit}
use Rattle.rules.specs.Tables.{masks_at}
use Rattle.rules.proofs.Tests.{is_true}
use Rattle.rules.proofs.Bits.{bit_below}
use Rattle.packing.specs.Moved.{MovedBack, MovedUp, Shown}

-- ---- words copied within a row
pub copied_back :
    (old new : List ℕ) (first end n : ℕ) → first ≤ end → length new ≡ length old
    → CopiedTo old new first (first + n) (end - first) × SameBelow old new (first + n) × SameFrom old new (first + n + (end - first))
    → MovedBack old new first end n
copied_back old new first end n h z c =
    record {
      size = z;
      before = λ i a. c.1 i 0 a;
      moved = λ i a b.
          c.0 (i + n) 0 (omega arith) (omega arith) ∙ ap (λ (k : ℕ). get_or old k 0) (let e : first + (i + n - (first + n)) ≡ i = omega arith in e);
      behind = λ i a. c.2 i 0 (omega arith);
    }

pub copied_up :
    (old new : List ℕ) (from to n : ℕ) → from ≤ to → length new ≡ length old
    → CopiedTo old new (from + n) from (to + n - (from + n)) × SameBelow old new from × SameFrom old new (from + (to + n - (from + n)))
    → MovedUp old new from to n
copied_up old new from to n h z c =
    record {
      size = z;
      before = λ i a. c.1 i 0 a;
      moved = λ i a b. c.0 i 0 a (omega arith) ∙ ap (λ (k : ℕ). get_or old k 0) (let e : from + n + (i - from) ≡ i + n = omega arith in e);
      behind = λ i a. c.2 i 0 (omega arith);
    }

-- ---- the first k versions are hidden from slot s no more
pub show_begin : (old : List ℕ) (s : ℕ) → Shown old old s 0
show_begin old s = record { size = refl; before = λ i a. refl; shown = λ i a. absurd (omega arith); behind = λ i a. refl }

pub show_step :
    (old row : List ℕ) (s k : ℕ) → masks_at base + k < length old → Shown old row s k → {w : ℕ} → w ≡ without_bit (get_or row (masks_at base + k) 0) s
    → Shown old (set row (masks_at base + k) w) s (k + 1)
show_step old row s k l b {w} e =
    let z = b.size in
    let at = masks_at base + k in
    record {
      size = length-set row at w ∙ z;
      before = λ i a. get_or-set_other row at i w 0 (λ e. omega arith) ∙ b.before i a;
      shown = λ i a.
          ⊎_elim
          (λ (q : i ≡ k). subst (λ (i : ℕ). get_or (set row at w) (masks_at base + i) 0 ≡ without_bit (get_or old (masks_at base + i) 0) s) (sym q)
          (get_or-set_same row at w 0 (omega arith) ∙ e ∙ ap (λ (v : ℕ). without_bit v s) (b.behind k (omega arith))))
          (λ (d : i < k). get_or-set_other row at (masks_at base + i) w 0 (λ e. omega arith) ∙ b.shown i d)
          (eq-or-lt_of_le (let y : i ≤ k = omega arith in y));
      behind = λ i a. get_or-set_other row at (masks_at base + i) w 0 (λ e. omega arith) ∙ b.behind i (omega arith);
    }

-- the word of one slot, as the code computes it; a word with its bit is not below it, and without the bit is so much less
pub power_is : (s : ℕ) → s < base.slots → 1 * 2 ^ s % 18446744073709551616 ≡ 2 ^ s
power_is s h = shl_exact 1 s 64 (omega arith) (omega arith) ∙ one-mul (2 ^ s)

pub power_le : (w s : ℕ) → T (bit w s) → 2 ^ s ≤ w
power_le w s t = go (ltb w (2 ^ s)) refl
  where
    go : (b : Bool) → ltb w (2 ^ s) ≡ b → 2 ^ s ≤ w
    go true e = absurd (let l = bit_below w s s (ltb-true w (2 ^ s) e) t in omega arith)
    go false e = ltb-false w (2 ^ s) e

pub without_is : (w s : ℕ) → T (bit w s) → without_bit w s ≡ w - 2 ^ s
unfolding without_bit
without_is w s t = rw (is_true (bit w s) t)
