-- The words of a row, moved.
use Rattle.std.specs.Prelude.{ℕ, ◌+◌, ◌≤◌, ◌<◌, ◌≡◌, List, get_or, length}
use Rattle.names.specs.Sizes.{base}
use Rattle.rules.specs.Words.{without_bit}
use Rattle.rules.specs.Tables.{masks_at}

-- each word of first .. end stands n words further back; the others are as they were
pub record MovedBack (old new : List ℕ) (first end n : ℕ) : Type 0 where
  pub size : length new ≡ length old
  pub before : (i : ℕ) → i < first + n → get_or new i 0 ≡ get_or old i 0
  pub moved : (i : ℕ) → first ≤ i → i < end → get_or new (i + n) 0 ≡ get_or old i 0
  pub behind : (i : ℕ) → end + n ≤ i → get_or new i 0 ≡ get_or old i 0

-- each word of from .. to is the one n words behind it
pub record MovedUp (old new : List ℕ) (from to n : ℕ) : Type 0 where
  pub size : length new ≡ length old
  pub before : (i : ℕ) → i < from → get_or new i 0 ≡ get_or old i 0
  pub moved : (i : ℕ) → from ≤ i → i < to → get_or new i 0 ≡ get_or old (i + n) 0
  pub behind : (i : ℕ) → to ≤ i → get_or new i 0 ≡ get_or old i 0

-- the first n versions are hidden from slot s no more
pub record Shown (old new : List ℕ) (s n : ℕ) : Type 0 where
  pub size : length new ≡ length old
  pub before : (i : ℕ) → i < masks_at base → get_or new i 0 ≡ get_or old i 0
  pub shown : (i : ℕ) → i < n → get_or new (masks_at base + i) 0 ≡ without_bit (get_or old (masks_at base + i) 0) s
  pub behind : (i : ℕ) → n ≤ i → get_or new (masks_at base + i) 0 ≡ get_or old (masks_at base + i) 0
