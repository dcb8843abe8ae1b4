-- What the ranks are known to be when one more stands in a line; whether there is a line.
use Rattle.std.specs.Prelude.{ℕ, ◌≤◌, ◌<◌, Bool, List}
use Rattle.names.specs.declared.Sizes.{Sizes}
use Rattle.names.specs.Sizes.{base}
use Rattle.rules.specs.Words.{some_below}
use Rattle.rules.specs.Tables.{txn}
use Rattle.rules.specs.Waits.{awaits_on}

-- no rank is above the number of slots
pub record RanksSmall (t : List ℕ) : Type 0 where
  pub at : (s : ℕ) → s < base.slots → (txn t s).rank ≤ base.slots

-- somebody waits on item x
unfoldable pub somebody_on : Sizes → List ℕ → ℕ → Bool
somebody_on S t x = some_below S.slots (λ b. awaits_on x (txn t b))
