-- What is promised of the finest cut, a statement for each sentence of request E10. Each is proved in proofs/Theorems.
use Rattle.std.specs.Prelude.{ℕ, ◌<◌, ◌≡◌, ◌↔◌, List, length, T}
use Rattle.finest.specs.Operations.{Operation, program_of, Fits}
use Rattle.finest.specs.Finest.{finest_cut}
use Rattle.finest.specs.Choppings.{together, Accepted, RespectsRollback, UnionsOf}
use Rattle.finest.specs.Chains.{Class}
use Rattle.finest.specs.Rows.{operations_in, cut, rows_cut}

-- "All operations of a program up to the last one marked as able to roll back stay in one piece"
abbrev pub OursRespects : Type 0
OursRespects = (os : List Operation) → Fits os → RespectsRollback os (finest_cut os)

-- "the result is accepted"
abbrev pub OursAccepted : Type 0
OursAccepted = (os : List Operation) → Fits os → Accepted os (finest_cut os)

-- "in every accepted chopping that respects rollback each piece is a union of ours"
abbrev pub OursFinest : Type 0
OursFinest = (os : List Operation) → Fits os → (c : List ℕ) → RespectsRollback os c → Accepted os c → UnionsOf os (finest_cut os) c

-- no other partition is accepted, respects rollback and has every such chopping's pieces as unions of its own
abbrev pub OnlyOurs : Type 0
OnlyOurs =
    (os : List Operation) → Fits os → (c : List ℕ) → RespectsRollback os c → Accepted os c
    → ((d : List ℕ) → RespectsRollback os d → Accepted os d → UnionsOf os c d)
    → (i j : ℕ) → i < length os → j < length os → together os c i j ≡ together os (finest_cut os) i j

-- the pieces are the classes
abbrev pub PiecesAreClasses : Type 0
PiecesAreClasses =
    (os : List Operation) → Fits os → (i j : ℕ) → i < length os → j < length os
    → T (together os (finest_cut os) i j) ↔ Class os (program_of os i) i j

-- rows that are cut fit, and the names that are said are those of the finest cut: so all of this holds of them
abbrev pub CutFits : Type 0
CutFits = (words l : List ℕ) → rows_cut words ≡ cut l → Fits (operations_in words) × (l ≡ finest_cut (operations_in words))
