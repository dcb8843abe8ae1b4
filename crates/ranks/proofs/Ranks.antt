-- How long lines are, and how great ranks.
use Prim.Native.Nat.{ℕ, ◌≤◌, ◌<◌}
use mathlib.Core.Path.{◌≡◌}
use mathlib.Core.Logic.{◌≢◌, ◌⊎◌, inl, inr}
use mathlib.Core.Bool.{◌&&◌}
use mathlib.Core.List.{List}
use native.Mathlib.Omega.{arith}
use Rattle.names.specs.Sizes.{base}
use Rattle.rules.specs.Tables.{Tables, txn, no_lock, lock, holds_shared}
use Rattle.rules.specs.Good.{Good}
use Rattle.rules.specs.Waits.{awaits_on, waiters_on, exchangers_on}
use Rattle.rules.proofs.Tests.{same?}
use Rattle.rules.proofs.Counts.{count-le}
use Rattle.rules.proofs.EqualRanks.{→awaits}
use Rattle.ranks.specs.Lines.{RanksSmall}

-- no line is longer than there are slots
pub exchangers_most : (t l : List ℕ) (x : ℕ) → exchangers_on base t l x ≤ base.slots
unfolding exchangers_on
exchangers_most t l x = count-le base.slots (λ b. awaits_on x (txn t b) && holds_shared (lock l x) b)

pub waiters_most : (t : List ℕ) (x : ℕ) → waiters_on base t x ≤ base.slots
unfolding waiters_on
waiters_most t x = count-le base.slots (λ b. awaits_on x (txn t b))

-- good tables have no rank above
pub ranks-small : (G : Tables) → Good base G → RanksSmall G.txns
ranks-small G g = record { at = λ s i. go s i (same? (txn G.txns s).awaited_lock no_lock) }
  where
    go :
        (s : ℕ) → s < base.slots → ((txn G.txns s).awaited_lock ≡ no_lock) ⊎ ((txn G.txns s).awaited_lock ≢ no_lock)
        → (txn G.txns s).rank ≤ base.slots
    go s i (inl z) = let e = (g.txn_good s i).rank_unused z in omega arith
    go s i (inr d) =
        let e = g.ranks_good.most s i (→awaits (txn G.txns s) d) in
        omega (arith, waiters_most G.txns (txn G.txns s).awaited_item)
