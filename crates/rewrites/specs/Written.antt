-- The table of versions as its rows are rewritten, and what must hold of it.
use Rattle.std.specs.Prelude.{ℕ, ◌+◌, ◌*◌, ◌≤◌, ◌<◌, ◌≡◌, ◌≢◌, ◌⊎◌, true, cond, List, ◌∷◌, ◌++◌, get_or, length, take, drop, T, eqb}
use Rattle.names.specs.Sizes.{base}
use Rattle.names.specs.Layout.{lock_exclusive_at, lock_working_at}
use Rattle.rules.specs.Words.{row, bit}
use Rattle.rules.specs.Tables.{version_row, version_words, lock_row, lock_words, Reader, up_to, outside}
use Rattle.rules.specs.Versions.{Version, versions_of, stamp_at, hidden_at, place, read_by_some}
use Rattle.rules.specs.Tested.{all_read}
use Rattle.starts.specs.Starts.{Split}
use Rattle.starts.specs.Ordered.{guard, lanes, InOrder}
use Rattle.starts.specs.Beside.{Beside}
use Rattle.packing.specs.Changed.{TidyRow}

-- the words ys in the place of row x of the table
abbrev pub with_row : ℕ → List ℕ → List ℕ → List ℕ
with_row x ys v = take (version_row base * x) v ++ (ys ++ drop (version_row base) (drop (version_row base * x) v))

-- the versions of item x with the working value in front, hidden from those of the word m, where the slot of owner - 1 holds the item
-- exclusively, by the words l of the locks
abbrev pub claimed : List ℕ → ℕ → ℕ → ℕ → ℕ → List Version → List Version
claimed l owner stamp m x vs =
    cond (eqb (get_or l (lock_row * x + lock_exclusive_at) 0) owner)
    (record { stamp = stamp; value = get_or l (lock_row * x + lock_working_at) 0; hidden = m } ∷ vs)
    vs

-- a whole table of tidy rows
pub record TidyTable (v : List ℕ) : Type 0 where
  pub size : length v ≡ version_words base
  pub rows : (x : ℕ) → x < base.items → TidyRow (row (version_row base) x v)

-- ---- one who reads by the start s leaves, and qs are the readers that stay
-- below and next are on either side of s among their starts, versions are hidden from relaxed queries among them alone, and every version
-- behind the newest is read by s or by one of them
pub record Staying (v : List ℕ) (qs : List Reader) (s below next : ℕ) : Type 0 where
  pub starts : List ℕ
  pub relaxed : ℕ
  pub split : Split qs starts relaxed
  pub beside : Beside starts s below next
  pub few : length qs < base.places
  pub known : (x i : ℕ) → x < base.items → T (bit (hidden_at (versions_of base v x) 0) i) → T (bit relaxed i)
  pub read :
      (x k : ℕ) → x < base.items → 0 < k → k < length (versions_of base v x)
      → (place (up_to s) (versions_of base v x) ≡ k) ⊎ T (read_by_some qs (versions_of base v x) k)

-- a table that one can leave who found a version in every row: there are readers that stay
pub record Leavable (v : List ℕ) (s below next : ℕ) : Type 0 where
  pub tidy : TidyTable v
  pub low : (x : ℕ) → x < base.items → stamp_at (versions_of base v x) 0 ≤ guard
  pub found : (x : ℕ) → x < base.items → place (up_to s) (versions_of base v x) < length (versions_of base v x)
  pub readers : List Reader
  pub staying : Staying v readers s below next

-- ---- the relaxed query in slot s leaves, and qs are the readers that stay
-- q are their starts in order, versions are hidden from relaxed queries among them alone, or from it, and every version behind the newest
-- is read by it or by one of them
pub record Showing (v : List ℕ) (qs : List Reader) (s : ℕ) (q : List ℕ) : Type 0 where
  pub starts : List ℕ
  pub relaxed : ℕ
  pub split : Split qs starts relaxed
  pub ordered : InOrder starts q
  pub gone : T (bit relaxed s) → ⊥
  pub few : length qs < base.places
  pub known : (x i : ℕ) → x < base.items → i ≢ s → T (bit (hidden_at (versions_of base v x) 0) i) → T (bit relaxed i)
  pub read :
      (x k : ℕ) → x < base.items → 0 < k → k < length (versions_of base v x)
      → (place (outside s) (versions_of base v x) ≡ k) ⊎ T (read_by_some qs (versions_of base v x) k)

-- a table that it can leave
pub record Revealable (v : List ℕ) (s : ℕ) (q : List ℕ) : Type 0 where
  pub tidy : TidyTable v
  pub low : (x : ℕ) → x < base.items → stamp_at (versions_of base v x) 0 ≤ guard
  pub inside : s < base.slots
  pub found : (x : ℕ) → x < base.items → place (outside s) (versions_of base v x) < length (versions_of base v x)
  pub wide : length q ≡ lanes
  pub readers : List Reader
  pub showing : Showing v readers s q

-- ---- new versions come under that stamp, hidden from the relaxed queries of the word m, and qs are those who read
-- below is one more than the greatest of their starts that is below the stamp, and the rows are trimmed for them
pub record Reading (v : List ℕ) (qs : List Reader) (stamp m below : ℕ) : Type 0 where
  pub starts : List ℕ
  pub relaxed : ℕ
  pub split : Split qs starts relaxed
  pub next : ℕ
  pub beside : Beside starts stamp below next
  pub few : length qs < base.places
  pub known : (i : ℕ) → T (bit m i) → T (bit relaxed i)
  pub read : (x : ℕ) → x < base.items → T (all_read qs (versions_of base v x) 0 (versions_of base v x))

-- tables on which the update in slot s can commit at that stamp, in the sets m, by the words l of the locks: the stamp is above the other
-- stamps of the items that it holds exclusively, and it is in the sets in which their creators are
pub record Committable (v l : List ℕ) (s stamp m below : ℕ) : Type 0 where
  pub tidy : TidyTable v
  pub locks : length l ≡ lock_words base
  pub inside : s < base.slots
  pub newer : (x : ℕ) → x < base.items → eqb (get_or l (lock_row * x + lock_exclusive_at) 0) (s + 1) ≡ true → stamp_at (versions_of base v x) 0 < stamp
  pub joined :
      (x : ℕ) → x < base.items → eqb (get_or l (lock_row * x + lock_exclusive_at) 0) (s + 1) ≡ true
      → (i : ℕ) → T (bit (hidden_at (versions_of base v x) 0) i) → T (bit m i)
  pub readers : List Reader
  pub reading : Reading v readers stamp m below
