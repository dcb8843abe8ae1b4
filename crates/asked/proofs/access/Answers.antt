-- Who holds a lock are slots.
use Rattle.cells.proofs.Others.{lock_slots}
use Rattle.asked.proofs.access.Goals as goal

pub decision-requires : goal.decision-requires
decision-requires c =
    let a = c.args in
    let p = c.requires in
    (p.1, p.2, lock_slots a.txns.now a.locks.now a.versions.now p.0 a.item.0 p.2)
