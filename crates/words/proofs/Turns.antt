-- Loops that test words: two tests that say the same are equal; one turn more of a loop that tests every number, or looks for
-- one; a test that fails; an or that is zero.
use Prim.Native.Nat.{ℕ, ◌<◌}
use mathlib.Core.Path.{◌≡◌, ap, ◌∙◌}
use mathlib.Core.Bool.{Bool, false, ◌&&◌}
use native.Mathlib.Omega.{arith}
use lib.Bits.{bit_or, or_zero_l, or_add_and, and_le_r, and_le_l}
use lib.Dec.{eqb, eqb→eq}
use Rattle.rules.specs.Words.{every_below}
pub use Rattle.rules.proofs.Tests.{iff_eq}
pub use Rattle.rules.proofs.Counts.{every_more, some_more}
use Rattle.rules.proofs.Tests.{and_left, and_right, and_both, is_false, false_is, eq_make}
use Rattle.rules.proofs.Counts.{every_below→}

-- one that fails
pub every_false : (p : ℕ → Bool) (n k : ℕ) → k < n → p k ≡ false → every_below n p ≡ false
every_false p n k h e = is_false (every_below n p) (λ t. false_is e (every_below→ n p t k h))

-- an or is zero where both are
pub or_zero : (a b : ℕ) → eqb (bit_or a b) 0 ≡ (eqb b 0 && eqb a 0)
or_zero a b =
    iff_eq (eqb (bit_or a b) 0) (eqb b 0 && eqb a 0)
    (λ t.
    let z = eqb→eq (bit_or a b) 0 t in
    and_both (eqb b 0) (eqb a 0)
    (eq_make b 0 (omega (arith, or_add_and a b, and_le_r a b, and_le_l a b)))
    (eq_make a 0 (omega (arith, or_add_and a b, and_le_r a b, and_le_l a b))))
    (λ t.
    let x = eqb→eq b 0 (and_left (eqb b 0) (eqb a 0) t) in
    let y = eqb→eq a 0 (and_right (eqb b 0) (eqb a 0) t) in
    eq_make (bit_or a b) 0 (ap (λ (m : ℕ). bit_or m b) y ∙ or_zero_l b ∙ x))
