use Prim.Native.Nat.{ℕ, ◌+◌}
use mathlib.Core.Path.{ap, ◌∙◌}
use mathlib.Core.List.{List}
use native.Mathlib.Omega.{arith}
use lib.ListN.{set}
use Rattle.names.specs.Layout.{txn_later_for_at}
use Rattle.rules.specs.Tables.{txn_at, txn}
use Rattle.rows.proofs.Rewords.{reworded-more}
use Rattle.notes.proofs.forget.Invariants.{left}
use Rattle.notes.proofs.forget.Goals as goal

pub loop-slot-preserved : goal.loop-slot-preserved
loop-slot-preserved c =
    let s = c.loop-slot.slot in
    let f = left c.args.query.0 in
    c.forget_row.ensures
    ∙ ap (λ (u : List ℕ). set u (txn_at s + txn_later_for_at) (f (txn u s))) c.loop-slot.invariant
    ∙ reworded-more txn_later_for_at (omega arith) s f c.args.txns.now
