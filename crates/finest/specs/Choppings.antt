-- Request E10: any chopping of whole programs, and its pieces as request E9's judge takes them.
use Rattle.std.specs.Prelude.{ℕ, zero, suc, ◌<◌, ◌≡◌, Bool, true, false, ◌&&◌, not, cond, List, [], ◌∷◌, map, get_or, length, T, eqb}
use Rattle.rules.specs.Words.{first_from, some_below}
use Rattle.graph.specs.Sets.{those}
use Rattle.chop.specs.Pieces.{Piece}
use Rattle.chop.specs.Verdicts.{accepted}
use Rattle.chop.specs.Judgement.{judgement}
use Rattle.finest.specs.Operations.{Operation, items, operation, program_of, same_program, one_block}

-- a chopping gives each operation a label, and parts each program into the operations of one label: any partition of it, "not only
-- into runs of neighbours". Operations i and j are of one piece
unfoldable pub together : List Operation → List ℕ → ℕ → ℕ → Bool
together os c i j = same_program os i j && eqb (get_or c i 0) (get_or c j 0)

-- operation i is the first of its piece
unfoldable pub leads : List Operation → List ℕ → ℕ → Bool
leads os c i = eqb (first_from (together os c i) 0 (length os)) i

-- those of i, i + 1, .., i + n - 1 that pass, in order
unfoldable pub passing : (ℕ → Bool) → ℕ → ℕ → List ℕ
passing p i zero = []
passing p i (suc n) = let rest = passing p (suc i) n in cond (p i) (i ∷ rest) rest

unfoldable pub leaders : List Operation → List ℕ → List ℕ
leaders os c = passing (leads os c) 0 (length os)

-- the piece of operation i writes item x, or reads it: some operation of it does
unfoldable pub touched : List Operation → List ℕ → Bool → ℕ → ℕ → Bool
touched os c writing i x =
    some_below (length os)
    (λ j. together os c i j && (eqb (operation os j).item x && cond writing (operation os j).writes (not (operation os j).writes)))

-- the items that it writes, or reads
unfoldable pub touches : List Operation → List ℕ → Bool → ℕ → ℕ
touches os c writing i = those items (touched os c writing i)

unfoldable pub piece_by : List Operation → List ℕ → ℕ → Piece
piece_by os c i = record { transaction = program_of os i; reads = touches os c false i; writes = touches os c true i }

-- the pieces, in the order of their first operations
unfoldable pub pieces_under : List Operation → List ℕ → List Piece
pieces_under os c = map (piece_by os c) (leaders os c)

-- E9's judge accepts it
abbrev pub Accepted : List Operation → List ℕ → Type 0
Accepted os c = judgement (pieces_under os c) ≡ accepted

-- "All operations of a program up to the last one marked as able to roll back stay in one piece"
abbrev pub RespectsRollback : List Operation → List ℕ → Type 0
RespectsRollback os c = (i j : ℕ) → i < length os → j < length os → T (one_block os i j) → T (together os c i j)

-- each piece of the second is a union of pieces of the first
abbrev pub UnionsOf : List Operation → List ℕ → List ℕ → Type 0
UnionsOf os c d = (i j : ℕ) → i < length os → j < length os → T (together os c i j) → T (together os d i j)
