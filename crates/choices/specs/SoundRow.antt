-- A row of versions as the search and the writer ask it to be.
use Rattle.std.specs.Prelude.{ℕ, ◌≤◌, ◌<◌, List, length, T}
use Rattle.names.specs.Sizes.{base}
use Rattle.rules.specs.Words.{bit}
use Rattle.rules.specs.Versions.{versions_in, stamp_at, hidden_at}
use Rattle.choices.specs.Pairs.{count_in}

-- a row with versions, whose stamps fall, and whatever is newer than a hidden version is hidden too: good rows are such
pub record SoundRow (r : List ℕ) : Type 0 where
  pub least : 1 ≤ count_in r
  pub most : count_in r ≤ base.places
  pub fall : (i j : ℕ) → i < j → j < length (versions_in base r) → stamp_at (versions_in base r) j < stamp_at (versions_in base r) i
  pub nest :
      (i j : ℕ) → i < j → j < length (versions_in base r)
      → (q : ℕ) → T (bit (hidden_at (versions_in base r) j) q) → T (bit (hidden_at (versions_in base r) i) q)
