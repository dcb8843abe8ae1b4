-- The pieces that stand in rows of three words: how many, and each by its words.
use Prim.Native.Nat.{ℕ, ◌+◌, ◌*◌, ◌/◌, ◌<◌}
use mathlib.Core.Path.{◌≡◌, ap, ◌∙◌}
use mathlib.Core.List.{List}
use native.Mathlib.Nat.{zero-add}
use lib.ListN.{length, get_or}
use Rattle.rules.proofs.Circles.{get_d_tabulate, length_tabulate}
use Rattle.chop.specs.Pieces.{Piece, no_piece, piece, pieces_of}

abbrev pub piece_in : List ℕ → ℕ → Piece
piece_in words i = record {
  transaction = get_or words (i * 3) 0;
  reads = get_or words (i * 3 + 1) 0;
  writes = get_or words (i * 3 + 2) 0;
}

pub length-pieces : (words : List ℕ) → length (pieces_of words) ≡ length words / 3
unfolding pieces_of
length-pieces words = length_tabulate (length words / 3) 0 (piece_in words)

pub piece_at : (words : List ℕ) (i : ℕ) → i < length words / 3 → piece (pieces_of words) i ≡ piece_in words i
unfolding pieces_of
piece_at words i h = get_d_tabulate (length words / 3) 0 (piece_in words) no_piece i h ∙ ap (piece_in words) (zero-add i)

-- for tests of as many as there are rows
pub ruleset in_rows = (length-pieces)
