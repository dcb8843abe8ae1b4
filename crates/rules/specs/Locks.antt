-- Document 01, "Call kind, held lock and wanted lock decide together": the table of six cells.
use Rattle.std.specs.Prelude.{ℕ, Bool, ◌&&◌, ◌||◌, not, cond, List, eqb}
use Rattle.names.specs.declared.Sizes.{Sizes}
-- what is decided: the cell's word
pub use Rattle.names.specs.declared.deeds.Cell.{Cell}
pub use Rattle.names.specs.declared.deeds.Cell.TheVariants.{OwnValue, ReplaceValue, NewestValue, ExchangeLock, TakeShared, TakeExclusive, Conflict}
use Rattle.rules.specs.Words.{some_below}
use Rattle.rules.specs.Tables.{shared_lock, exclusive_lock, txn, Lock, lock, holds_shared, holds_exclusive}
use Rattle.rules.specs.Waits.{ahead, rank_for}

-- what an update asks for, and the lock that it wants for it
pub data Asked : Type 0 where
  to_read to_write : Asked

abbrev pub wanted : Asked → ℕ
wanted to_read = shared_lock
wanted to_write = exclusive_lock

-- what the caller holds of the item
pub data Held : Type 0 where
  exclusively sharing nothing : Held

unfoldable pub held_by : Lock → ℕ → Held
held_by h s = cond (holds_exclusive h s) exclusively (cond (holds_shared h s) sharing nothing)

-- | caller holds | read | write |; shared and exclusive say whether another holds such a lock, earlier whether an earlier waiter's
-- wanted lock conflicts. Request E4: "A call that needs no further lock is granted as before."
unfoldable pub decide : Asked → Held → Bool → Bool → Bool → Cell
decide to_read exclusively shared exclusive earlier = OwnValue
decide to_write exclusively shared exclusive earlier = ReplaceValue
decide to_read sharing shared exclusive earlier = NewestValue
decide to_write sharing shared exclusive earlier = cond (shared || earlier) Conflict ExchangeLock
decide to_read nothing shared exclusive earlier = cond (exclusive || earlier) Conflict TakeShared
decide to_write nothing shared exclusive earlier = cond (shared || (exclusive || earlier)) Conflict TakeExclusive

-- "another holds shared", "another holds exclusive"
unfoldable pub another_shares : Sizes → Lock → ℕ → Bool
another_shares S h s = some_below S.slots (λ b. not (eqb s b) && holds_shared h b)

unfoldable pub another_excludes : Sizes → Lock → ℕ → Bool
another_excludes S h s = some_below S.slots (λ b. not (eqb s b) && holds_exclusive h b)

-- "an earlier waiter whose wanted lock conflicts"
unfoldable pub another_ahead : Sizes → List ℕ → List ℕ → ℕ → ℕ → ℕ → Bool
another_ahead S t l k x s = some_below S.slots (λ b. not (eqb s b) && ahead x k (rank_for S t l s x) (txn t b))

-- the cell for slot s and the item x
unfoldable pub decision : Sizes → Asked → List ℕ → List ℕ → ℕ → ℕ → Cell
decision S a t l x s =
    let h = lock l x in
    decide a (held_by h s) (another_shares S h s) (another_excludes S h s) (another_ahead S t l (wanted a) x s)
