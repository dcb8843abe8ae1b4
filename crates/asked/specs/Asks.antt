-- A request on good tables.
use Rattle.std.specs.Prelude.{ℕ, ◌≤◌, ◌<◌, ◌≢◌, List}
use Rattle.names.specs.Sizes.{base}
use Rattle.rules.specs.Tables.{tables, no_lock, exclusive_lock}
use Rattle.rules.specs.Good.{Good}

-- slot s asks for a lock of kind k on item x
pub record Asks (t l : List ℕ) (s k x : ℕ) : Type 0 where
  pub versions : List ℕ
  pub good : Good base (tables t l versions)
  pub inside : s < base.slots
  pub known : x < base.items
  pub some : k ≢ no_lock
  pub listed : k ≤ exclusive_lock
