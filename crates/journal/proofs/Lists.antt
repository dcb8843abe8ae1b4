-- Pieces of a list, and what is left of it.
use Prim.Native.Nat.{ℕ, zero, suc, ◌-◌}
use mathlib.Core.Path.{◌≡◌, sym, ap, ◌∙◌}
use mathlib.Core.List.{List, [], ◌∷◌}
use native.Mathlib.Nat.{zero-sub, sub-zero, suc-sub-suc}
use native.Mathlib.Omega.{arith}
use lib.ListN.{length, take, drop, length-drop}
use lib.Seq.{take-nil, take_all}

pub drop-take : {A : Type 0} (n k : ℕ) (l : List A) → drop n (take k l) ≡ take (k - n) (drop n l)
drop-take zero k l = ap (λ (m : ℕ). take m l) (sym (sub-zero k))
drop-take (suc n) zero l = ap (λ (m : ℕ). take m (drop (suc n) l)) (sym (zero-sub (suc n)))
drop-take (suc n) (suc k) [] = sym (take-nil (suc k - suc n))
drop-take (suc n) (suc k) (x ∷ l) = drop-take n k l ∙ ap (λ (m : ℕ). take m (drop n l)) (sym (suc-sub-suc k n))

-- from a place to the end
pub take_rest : {A : Type 0} (n : ℕ) (l : List A) → take (length l - n) (drop n l) ≡ drop n l
take_rest n l = take_all (length l - n) (drop n l) (omega (arith, length-drop n l))
