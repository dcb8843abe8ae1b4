-- Four stores.
use Prim.Native.Nat.{◌*◌}
use native.Mathlib.Omega.{arith}
use lib.ListN.{length-set}
use Rattle.fining.proofs.Rows.{four_written}
use Rattle.fining.proofs.operations.put_row.Goals as goal

pub bounds-rows-from-2 : goal.bounds-rows-from-2
bounds-rows-from-2 c = simp length-set (omega arith)

pub bounds-rows-from-3 : goal.bounds-rows-from-3
bounds-rows-from-3 c = simp length-set (omega arith)

pub bounds-rows-from-4 : goal.bounds-rows-from-4
bounds-rows-from-4 c = simp length-set (omega arith)

pub returns : goal.returns
returns c = four_written c.args.rows.now (c.args.at * 4) c.args.program c.args.item c.args.writes c.args.marked c.requires.0
