-- Request E10: "whole programs of up to 32 operations in all", their blocks, and which operations are in conflict.
use Rattle.std.specs.Prelude.{ℕ, ◌≤◌, ◌<◌, Bool, false, ◌&&◌, ◌||◌, not, List, get_or, length, eqb, leb}
use Rattle.rules.specs.Words.{some_below}

-- an operation: the number of its program, the item that it touches, whether it writes the item (it reads it otherwise), and
-- whether it is marked as able to roll back
pub record Operation : Type 0 where
  pub program : ℕ
  pub item : ℕ
  pub writes : Bool
  pub marked : Bool

-- how many operations may be cut, and how many items there are
abbrev pub most : ℕ
most = 32

abbrev pub items : ℕ
items = 64

abbrev pub no_operation : Operation
no_operation = record { program = 0; item = 0; writes = false; marked = false }

-- operation i, counted from 0; a program's order is that of its own operations
abbrev pub operation : List Operation → ℕ → Operation
operation os i = get_or os i no_operation

abbrev pub program_of : List Operation → ℕ → ℕ
program_of os i = (operation os i).program

abbrev pub same_program : List Operation → ℕ → ℕ → Bool
same_program os i j = eqb (program_of os i) (program_of os j)

-- "All operations of a program up to the last one marked as able to roll back": i, or one behind it in its program, is marked
unfoldable pub may_undo : List Operation → ℕ → Bool
may_undo os i = some_below (length os) (λ j. leb i j && (same_program os i j && (operation os j).marked))

-- .. "stay in one piece": they are one block, and every later operation is a block of its own
unfoldable pub one_block : List Operation → ℕ → ℕ → Bool
one_block os i j = eqb i j || (same_program os i j && (may_undo os i && may_undo os j))

-- operations of different programs are in conflict when they touch one item and at least one writes it
unfoldable pub conflicting : List Operation → ℕ → ℕ → Bool
conflicting os i j =
    not (same_program os i j)
    && (eqb (operation os i).item (operation os j).item && ((operation os i).writes || (operation os j).writes))

-- what is cut: not too many operations, on known items
pub record Fits (os : List Operation) : Type 0 where
  pub few : length os ≤ most
  pub known : (i : ℕ) → i < length os → (operation os i).item < items
