-- What each part asks of the tables that it is done on, and what a grant writes.
use Rattle.std.specs.Prelude.{ℕ, ◌≤◌, ◌<◌, ◌≡◌, List, length, get_or}
use Rattle.names.specs.Sizes.{base}
use Rattle.rules.specs.Words.{row}
use Rattle.rules.specs.Tables.{txn_words, lock_words, version_row, version_words, Lock, set_lock}
use Rattle.rules.specs.Step.{cleared}

-- slot s may be granted the item x
pub record Lockable (t l : List ℕ) (s x : ℕ) : Type 0 where
  pub txns_exact : length t ≡ txn_words base
  pub locks_exact : length l ≡ lock_words base
  pub inside : s < base.slots
  pub known : x < base.items

-- item x has a newest version
pub record HasNewest (v : List ℕ) (x : ℕ) : Type 0 where
  pub versions_exact : length v ≡ version_words base
  pub known : x < base.items
  pub some : 1 ≤ get_or (row (version_row base) x v) 0 0

-- slot s awaits nothing, and the item x has the lock h
pub record GrantedTo (s x : ℕ) (h : Lock) (t l t' l' : List ℕ) : Type 0 where
  pub txns : t' ≡ cleared base t s
  pub locks : l' ≡ set_lock l x h
