-- What each part asks of the tables that it is done on, and what is left where a reader leaves.
use Rattle.std.specs.Prelude.{ℕ, ◌≡◌, List}
use Rattle.names.specs.Sizes.{base}
use Rattle.rules.specs.Tables.{tables, txn, set_txn, no_txn, readers}
use Rattle.rules.specs.Versions.{rewritten, revealed}
use Rattle.rules.specs.Good.{Good}
use Rattle.rules.specs.Step.{forgotten}
use Rattle.starts.specs.Starts.{starts}
use Rattle.starts.specs.Beside.{Beside}

-- transactions and versions of good tables: every row of versions is trimmed for those who read
pub record Trimmed (t v : List ℕ) : Type 0 where
  pub locks : List ℕ
  pub good : Good base (tables t locks v)

-- who reads by a start left slot s: its row is gone, and the versions are gone that none but it read; below and next are on either
-- side of its start among those that stay
pub record Gone (t v : List ℕ) (s : ℕ) (t' v' : List ℕ) (start below next : ℕ) : Type 0 where
  pub was : start ≡ (txn t s).start
  pub txns : t' ≡ set_txn t s no_txn
  pub versions : v' ≡ rewritten base (readers base (set_txn t s no_txn)) (λ x vs. vs) v
  pub beside : Beside (starts base (set_txn t s no_txn)) start below next

-- a query left slot s: its row is gone, and its set, nothing is hidden from it, and the versions are gone that none but it read
pub record QueryGone (t v : List ℕ) (s : ℕ) (t' v' : List ℕ) : Type 0 where
  pub txns : t' ≡ set_txn (forgotten base s t) s no_txn
  pub versions : v' ≡ rewritten base (readers base (set_txn (forgotten base s t) s no_txn)) (λ x vs. revealed s vs) v
