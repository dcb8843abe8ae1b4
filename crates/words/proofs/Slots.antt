-- The word of the slots that pass, as the code builds it slot by slot.
use Prim.Native.Nat.{ℕ, ◌+◌, ◌<◌}
use mathlib.Core.Path.{◌≡◌, sym}
use mathlib.Core.Bool.{Bool, true, false}
use native.Mathlib.Numerals.{add-one}
use native.Mathlib.Nat.{add-zero}
use lib.Bits.{bit_or}
use Rattle.rules.specs.Words.{slots_that}
use Rattle.rules.proofs.Bits.{or_alone}
use Rattle.words.proofs.SlotWords.{one_shifted, shifted}

-- one slot more, or not
pub slots_yes : (n : ℕ) (p : ℕ → Bool) → n < 64 → p n ≡ true → bit_or (slots_that n p) (one_shifted n) ≡ slots_that (n + 1) p
unfolding slots_that
slots_yes n p l e = rw (shifted n l, add-one, e) (or_alone n p)

pub slots_no : (n : ℕ) (p : ℕ → Bool) → p n ≡ false → slots_that n p ≡ slots_that (n + 1) p
unfolding slots_that
slots_no n p e = rw (add-one, e) (sym (add-zero (slots_that n p)))
