-- Accesses run on an array that is a function: what the proofs compute with. Literal brings the results to lists.
use Prim.Native.Nat.{ℕ}
use mathlib.Core.Bool.{Bool, true, ◌&&◌, cond}
use mathlib.Core.List.{List, [], ◌∷◌}
use lib.Dec.{eqb}
use Rattle.history.specs.Happened.{Access, got, put}

abbrev pub Array : Type 0
Array = ℕ → ℕ

abbrev pub zeros : Array
zeros x = 0

unfoldable pub store : Array → ℕ → ℕ → Array
store a x v y = cond (eqb y x) v (a y)

unfoldable pub agrees : List Access → Array → Bool
agrees [] a = true
agrees (got x v ∷ l) a = let rest = agrees l a in eqb (a x) v && rest
agrees (put x v ∷ l) a = agrees l (store a x v)

unfoldable pub final : List Access → Array → Array
final [] a = a
final (got x v ∷ l) a = final l a
final (put x v ∷ l) a = final l (store a x v)
