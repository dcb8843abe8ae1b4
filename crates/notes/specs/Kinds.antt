-- Somebody of a kind.
use Rattle.std.specs.Prelude.{ℕ, Bool, ◌&&◌, List, eqb}
use Rattle.names.specs.declared.Sizes.{Sizes}
use Rattle.rules.specs.Words.{some_below}
use Rattle.rules.specs.Tables.{txn, live}

-- somebody lives who is of the kind k
unfoldable pub some_as : Sizes → List ℕ → ℕ → Bool
some_as S t k = some_below S.slots (λ s. live (txn t s) && eqb (txn t s).kind k)
