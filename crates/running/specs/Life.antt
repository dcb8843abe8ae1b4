-- The runner's life: it is born, it takes the input piece by piece, and the input ends.
use Rattle.std.specs.Prelude.{ℕ, ◌≡◌, List, [], ◌∷◌, ◌++◌}
use Rattle.names.specs.Sizes.{base}
use Rattle.rules.specs.Tables.{Tables, tables, fresh}
use Rattle.lines.specs.Lines.{Held, short, held_by, left, joined}
use Rattle.script.specs.Inputs.{reads, last}
use Rattle.running.specs.Replies.{after_all, replies_to, replies_of}
use Rattle.running.specs.declared.Runner.{Runner}

-- ---- what it is

-- the bytes of the line that is not ended yet, and the tables
pub record State : Type 0 where
  pub line : Held
  pub tables : Tables

abbrev pub state : Held → Tables → State
state h G = record { line = h; tables = G }

-- what the struct keeps
unfoldable pub state_of : Runner → State
state_of r = state (held_by r.lines) (tables r.txns r.locks r.versions)

-- ---- what it does

-- no byte yet, and fresh tables
unfoldable pub born : State
born = state (short []) (fresh base)

-- a piece of input is taken: the lines that end in it are answered, and the rest is kept
unfoldable pub replies_in : List ℕ → State → List ℕ
replies_in piece s = replies_to (reads s.line piece) s.tables

unfoldable pub after_piece : List ℕ → State → State
after_piece piece s = state (left s.line piece) (after_all (reads s.line piece) s.tables)

-- the input ends: a line that is begun is answered
unfoldable pub replies_at_end : State → List ℕ
replies_at_end s = replies_to (last s.line) s.tables

-- ---- from birth on

-- what it is after some pieces, and what it has put out so far
unfoldable pub after_pieces : List (List ℕ) → State → State
after_pieces [] s = s
after_pieces (piece ∷ pieces) s = after_pieces pieces (after_piece piece s)

unfoldable pub replies_in_all : List (List ℕ) → State → List ℕ
replies_in_all [] s = []
replies_in_all (piece ∷ pieces) s = replies_in piece s ++ replies_in_all pieces (after_piece piece s)

-- what it puts out in a whole life: piece by piece, and at the end
unfoldable pub put_out : List (List ℕ) → List ℕ
put_out pieces = replies_in_all pieces born ++ replies_at_end (after_pieces pieces born)

-- ---- what is promised, whatever pieces the input comes in

-- at any time it is, and has put out, what comes of all bytes so far as one piece
unfoldable pub SoFar : Type 0
SoFar =
    (pieces : List (List ℕ)) → (after_pieces pieces born ≡ after_piece (joined pieces) born) × (replies_in_all pieces born ≡ replies_in (joined pieces) born)

-- in the end it has put out the replies to the lines of the whole input, and nothing else
unfoldable pub Lived : Type 0
Lived = (pieces : List (List ℕ)) → put_out pieces ≡ replies_of (joined pieces)
