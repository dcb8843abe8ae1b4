-- A bit cleared, as the code clears it.
use Prim.Native.Nat.{ℕ, ◌-◌, ◌*◌, ◌/◌, ◌%◌, ◌^◌, ◌≤◌, ◌<◌}
use mathlib.Core.Path.{◌≡◌, refl}
use mathlib.Core.Bool.{Bool, true, false, cond}
use native.Mathlib.Omega.{arith}
use native.Mathlib.Nat.{mul-le-mul_right, div-mul-le_self, le_trans}
use lib.Dec.{eqb}
use lib.Pow.{shl_exact}
use borrow.Author.Tests.{eqb-true, eqb-false}
use Rattle.names.specs.Sizes.{base}
use Rattle.rules.specs.Words.{bit, without_bit}

-- what a digit weighs is at most the word
pub digit-le : (h s : ℕ) → (h / 2 ^ s % 2) * 2 ^ s ≤ h
digit-le h s =
    let e : h / 2 ^ s % 2 ≤ h / 2 ^ s = omega arith in
    le_trans (mul-le-mul_right (2 ^ s) e) (div-mul-le_self h (2 ^ s))

-- a digit shifted to the place of a slot loses nothing
pub digit_shifted : (h s : ℕ) → s < base.slots → ((h / 2 ^ s % 2) * 2 ^ s) % 18446744073709551616 ≡ (h / 2 ^ s % 2) * 2 ^ s
digit_shifted h s l = shl_exact 1 s 64 (let e : h / 2 ^ s % 2 < 2 = omega arith in e) (omega arith)

pub cleared_is : (h s : ℕ) → h - (h / 2 ^ s % 2) * 2 ^ s ≡ without_bit h s
unfolding without_bit bit
cleared_is h s = go (eqb (h / 2 ^ s % 2) 1) refl
  where
    go : (b : Bool) → eqb (h / 2 ^ s % 2) 1 ≡ b → h - (h / 2 ^ s % 2) * 2 ^ s ≡ cond b (h - 2 ^ s) h
    go true e = let d = eqb-true (h / 2 ^ s % 2) 1 e in rw d (omega arith)
    go false e = let d : h / 2 ^ s % 2 ≡ 0 = (let n = eqb-false (h / 2 ^ s % 2) 1 e in omega arith) in rw d (omega arith)
