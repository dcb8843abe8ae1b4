-- A line that starts with a word.
use Prim.Native.Nat.{ℕ}
use mathlib.Core.Path.{◌≡◌, refl, sym, ap₂}
use mathlib.Core.Bool.{Bool, true, false, ◌&&◌}
use lib.Dec.{eqb}
use mathlib.Core.List.{List, [], ◌∷◌}
use borrow.Author.Tests.{eq-eqb, ne_eqb, eqb-true, eqb-false}
use Rattle.std.specs.List.{starts_with}
use Rattle.std.proofs.Common.{nat_eq}
use Rattle.script.specs.Words.{starts}

turned : (a b : ℕ) → eqb a b ≡ eqb b a
turned a b = go (eqb b a) refl
  where
    go : (g : Bool) → eqb b a ≡ g → eqb a b ≡ g
    go true e = eq-eqb a b (sym (eqb-true b a e))
    go false e = ne_eqb a b (λ h. eqb-false b a e (sym h))

-- the library's test of a slice's start, the word's byte beside the line's
pub starts_is_prefix : (ws bs : List ℕ) → starts_with nat_eq bs ws ≡ starts ws bs
unfolding starts
starts_is_prefix [] bs = refl
starts_is_prefix (w ∷ ws) [] = refl
starts_is_prefix (w ∷ ws) (b ∷ bs) = ap₂ (λ (x y : Bool). x && y) (turned w b) (starts_is_prefix ws bs)
