-- Two words, compared byte by byte.
use Prim.Native.Nat.{ℕ, suc}
use mathlib.Core.Path.{◌≡◌, refl, ap, ap₂, ◌∙◌}
use mathlib.Core.Bool.{Bool, true, false, ◌&&◌, false≢true}
use mathlib.Core.List.{List, [], ◌∷◌}
use lib.Dec.{eqb}
use Rattle.std.specs.Cmp.Lexicographic.{pointwise}
use lib.ListN.{length}
use borrow.Author.Tests.{eq-eqb, eqb-true}
use Rattle.numerals.proofs.Scans.{and_left, and_right}
use Rattle.line_words.specs.Words.{same}
use Rattle.line_words.proofs.Snoc.{and_false}

-- ---- they are the same exactly if they are equal

pub same_refl : (w : List ℕ) → same w w ≡ true
unfolding same
same_refl [] = refl
same_refl (b ∷ bs) = rw (eq-eqb b b refl) (same_refl bs)

pub same_equal : (v w : List ℕ) → same v w ≡ true → v ≡ w
unfolding same
same_equal [] [] e = refl
same_equal [] (c ∷ cs) e = absurd (false≢true e)
same_equal (b ∷ bs) [] e = absurd (false≢true e)
same_equal (b ∷ bs) (c ∷ cs) e =
    ap₂ (λ (x : ℕ) (l : List ℕ). x ∷ l) (eqb-true b c (and_left (eqb b c) (same bs cs) e)) (same_equal bs cs (and_right (eqb b c) (same bs cs) e))

pub same_length : (v w : List ℕ) → (length v ≡ length w → ⊥) → same v w ≡ false
unfolding same
same_length [] [] d = absurd (d refl)
same_length [] (c ∷ cs) d = refl
same_length (b ∷ bs) [] d = refl
same_length (b ∷ bs) (c ∷ cs) d = ap (λ (t : Bool). eqb b c && t) (same_length bs cs (λ e. d (ap suc e))) ∙ and_false (eqb b c)

-- ---- as the library compares them
pub same_pointwise : (v w : List ℕ) → pointwise eqb v w ≡ same v w
unfolding same
same_pointwise [] [] = refl
same_pointwise [] (c ∷ cs) = refl
same_pointwise (b ∷ bs) [] = refl
same_pointwise (b ∷ bs) (c ∷ cs) = ap (λ (t : Bool). eqb b c && t) (same_pointwise bs cs)
