-- Where a reader finds a version: what the search asks of a row and of the table.
use Rattle.std.specs.Prelude.{ℕ, ◌<◌, ◌≡◌, List, length}
use Rattle.names.specs.Sizes.{base}
use Rattle.rules.specs.Words.{row}
use Rattle.rules.specs.Tables.{version_row, version_words, Reader}
use Rattle.rules.specs.Versions.{versions_in, versions_of, place}
use Rattle.choices.specs.SoundRow.{SoundRow}

-- the row r is sound, and it has a version that q may read
pub record ChoosableIn (r : List ℕ) (q : Reader) : Type 0 where
  pub size : length r ≡ version_row base
  pub sound : SoundRow r
  pub found : place q (versions_in base r) < length (versions_in base r)

-- the row of item x of the table v is, and it has such a version
pub record Choosable (v : List ℕ) (x : ℕ) (q : Reader) : Type 0 where
  pub size : length v ≡ version_words base
  pub known : x < base.items
  pub sound : SoundRow (row (version_row base) x v)
  pub found : place q (versions_of base v x) < length (versions_of base v x)
