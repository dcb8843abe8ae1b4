-- It leaves as whoever reads by a start, and its locks go.
use Rattle.rules.proofs.RowKinds.{settled-starts}
use Rattle.endings.proofs.settles.aborts_settled.Goals as goal

pub leaves-requires : goal.leaves-requires
leaves-requires c = let p = c.requires in (record { locks = c.args.locks.now; good = p.0 }, p.1, settled-starts _ p.2)
