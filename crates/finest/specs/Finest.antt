-- Request E10: the finest cut. Source document 004, section 4: the blocks of one program and the other programs taken whole, with
-- links where they are in conflict; the blocks of the program that are linked, by any way, are one piece.
use Rattle.std.specs.Prelude.{ℕ, Bool, true, ◌&&◌, ◌||◌, not, List, length, eqb}
use Rattle.std.specs.Int.Bits.{bit_and}
use Rattle.rules.specs.Words.{tabulate_from}
use Rattle.graph.specs.Sets.{those, lowest}
use Rattle.graph.specs.Near.{joined}
use Rattle.finest.specs.Operations.{Operation, program_of, same_program, one_block, conflicting}

-- program t in blocks, the others whole: i and j are in conflict, or of one block of t, or of one other program
unfoldable pub linked_for : List Operation → ℕ → ℕ → ℕ → Bool
linked_for os t i j = conflicting os i j || (same_program os i j && (not (eqb (program_of os i) t) || one_block os i j))

-- for each operation all that it is linked with
unfoldable pub links_for : List Operation → ℕ → List ℕ
links_for os t = tabulate_from 0 (length os) (λ i. those (length os) (linked_for os t i))

-- so many operations, all of them
unfoldable pub all : ℕ → ℕ
all n = those n (λ i. true)

-- the piece of operation i: the operations of its program from which a way of links leads to i
unfoldable pub piece_at : List Operation → ℕ → ℕ
piece_at os i =
    bit_and (those (length os) (same_program os i)) (joined (links_for os (program_of os i)) (all (length os)) i)

-- for each operation the place of the least operation of its piece, by which the piece is named
unfoldable pub finest_cut : List Operation → List ℕ
finest_cut os = tabulate_from 0 (length os) (λ i. lowest (piece_at os i))
