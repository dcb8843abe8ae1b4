-- Three stores.
use Prim.Native.Nat.{◌*◌}
use native.Mathlib.Omega.{arith}
use lib.ListN.{length-set}
use Rattle.told_lines.proofs.Texts.{three_written}
use Rattle.cutting.proofs.pieces.put_row.Goals as goal

pub bounds-rows-from-2 : goal.bounds-rows-from-2
bounds-rows-from-2 c = simp length-set (omega arith)

pub bounds-rows-from-3 : goal.bounds-rows-from-3
bounds-rows-from-3 c = simp length-set (omega arith)

pub returns : goal.returns
returns c = three_written c.args.rows.now (c.args.at * 3) c.args.transaction c.args.reads c.args.writes c.requires.0
