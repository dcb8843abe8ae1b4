-- The ranks of the rows passed are as they are moved, the others are as they were.
use Prim.Native.Nat.{ℕ, ◌≤◌}
use mathlib.Core.Path.{◌≡◌}
use mathlib.Core.Bool.{true, false}
use Rattle.rules.specs.Tables.{Txn, txn, reranked}
use Rattle.rules.specs.Waits.{awaits_on}
use Rattle.ranks.proofs.move_line.Given as goal

abbrev pub invariant-loop-slot : goal.invariant-loop-slot
invariant-loop-slot g l =
    ((s : ℕ) → l.slot ≤ s → txn l.txns s ≡ txn l.initial.txns s)
    × ((f : Txn → ℕ)
    → ((r : Txn) (to : ℕ) → awaits_on l.item.0 r ≡ true → goal.F-post g l.moved r.rank to → to ≡ f r)
    → ((r : Txn) → awaits_on l.item.0 r ≡ false → r.rank ≡ f r)
    → l.txns ≡ reranked l.slot f l.initial.txns)
