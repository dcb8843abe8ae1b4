-- One slot's words.
use Rattle.rows.specs.Founds.{lock_of}
use Rattle.sets.proofs.Testing.{slot-joined}
use Rattle.sets.proofs.slot_joined.Goals as goal

pub returns : goal.returns
returns c =
    let a = c.args in
    slot-joined a.txns.now (lock_of a.row) a.all a.hidden a.slot.0 c.later_for-later.ensures
