-- The sets of the rows passed are rewritten, the others are as they were.
use Prim.Native.Nat.{ℕ}
use mathlib.Core.Path.{◌≡◌}
use Rattle.names.specs.Layout.{txn_later_for_at}
use Rattle.rules.specs.Words.{without_bit}
use Rattle.rules.specs.Tables.{Txn, reworded}
use Rattle.notes.proofs.forget.Given as goal

-- the sets without that of slot q
abbrev pub left : ℕ → Txn → ℕ
left q r = without_bit r.later_for q

abbrev pub invariant-loop-slot : goal.invariant-loop-slot
invariant-loop-slot l = l.txns ≡ reworded txn_later_for_at l.slot (left l.query.0) l.initial.txns
