-- The words behind the version move up, and those behind its mask; one version less is counted, and the last place is cleared.
use native.Mathlib.Omega.{arith}
use Rattle.packing.proofs.Shifts.{copied_up}
use Rattle.packing.proofs.Words.{gap_closed}
use Rattle.packing.proofs.close_gap.Goals as goal

pub returns : goal.returns
returns c =
    let a = c.args in
    let p = c.requires in
    gap_closed a.row.now p.0 a.k p.1 _ _ (copied_up _ _ _ _ 2 (omega arith) c.copy_within.ensures.len c.copy_within.ensures.by_index)
    (copied_up _ _ _ _ 1 (omega arith) c.copy_within-2.ensures.len c.copy_within-2.ensures.by_index)
