-- The exclusive holder is another slot.
use Rattle.rows.specs.Founds.{lock_of}
use Rattle.cells.proofs.Others.{excludes_is}
use Rattle.cells.proofs.another_excludes.Goals as goal

pub returns : goal.returns
returns c = excludes_is (lock_of c.args.row) c.args.slot.0 c.requires.0
