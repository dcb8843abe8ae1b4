-- What the stamps of those past their writing are tested for, slot by slot and item by item.
use Rattle.std.specs.Prelude.{ℕ, ◌≤◌, ◌<◌, ◌≡◌, Bool, ◌&&◌, not, List, get_or, length, eqb}
use Rattle.names.specs.Sizes.{base}
use Rattle.rules.specs.Words.{implies, every_below, row}
use Rattle.rules.specs.Tables.{Tables, txn_words, lock_words, version_words, version_row, txn, live_settled}
use Rattle.rules.specs.Tested.{stamps_apart, stamp_above}
use Rattle.shapes.specs.Shape.{settled_in}

-- the rows are of the exact size, and the word u holds the slots of those past their writing
pub record Stamped (t : List ℕ) (u : ℕ) : Type 0 where
  pub txns_exact : length t ≡ txn_words base
  pub seen : u ≡ settled_in base t

-- nobody past its writing in a slot below i has the stamp q; slot i has that of no such slot below, if it is one
unfoldable pub apart_from : List ℕ → ℕ → ℕ → Bool
apart_from t i q = every_below i (λ r. not (live_settled (txn t r) && eqb (txn t r).start q))

unfoldable pub apart_at : List ℕ → ℕ → Bool
apart_at t s = every_below s (λ r. stamps_apart t r s)

unfoldable pub all_apart : List ℕ → Bool
all_apart t = every_below base.slots (apart_at t)

-- the locks and the versions beside them: each item has a version
pub record Versioned (l v : List ℕ) : Type 0 where
  pub locks_exact : length l ≡ lock_words base
  pub versions_exact : length v ≡ version_words base
  pub some : (x : ℕ) → x < base.items → 1 ≤ get_or (row (version_row base) x v) 0 0

-- whoever is past its writing and holds item x exclusively has a stamp above its versions
unfoldable pub above_at : Tables → ℕ → Bool
above_at G x = every_below base.slots (λ s. implies (live_settled (txn G.txns s)) (stamp_above base G s x))

unfoldable pub all_above : Tables → Bool
all_above G = every_below base.items (above_at G)
