-- What the pieces that are being put together are after a row more, and after all rows.
use Rattle.std.specs.Prelude.{ℕ, ◌≤◌, ◌<◌, ◌≡◌, List, length, take}
use Rattle.chop_rows.specs.declared.Row.{Row}
use Rattle.chop_rows.specs.declared.Noted.{Noted}
use Rattle.chop_rows.specs.declared.Notes.{Notes}
use Rattle.chop.specs.Pieces.{most}
use Rattle.chop_rows.specs.RowPieces.{row_count, with_row, noted_by}

-- the pieces with one row more, as far as there is room
pub record OneMore (r : Row) (ps : List Noted) (n : Notes) : Type 0 where
  pub count : n.count ≡ length (with_row r ps)
  pub pieces : n.count ≤ most → take n.count n.pieces ≡ with_row r ps
  pub room : length n.pieces ≡ most

-- the pieces of all rows; or there are too many
pub record NotesOf (words : List ℕ) (n : Notes) : Type 0 where
  pub many : most < n.count → most < length (noted_by words (row_count words))
  pub few : n.count ≤ most → take n.count n.pieces ≡ noted_by words (row_count words)
  pub room : length n.pieces ≡ most
