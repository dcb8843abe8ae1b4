-- `graph::including` meets its contract.
use native.Mathlib.Omega.{arith}
use Rattle.words.proofs.SlotWords.{shifted}
use Rattle.graph.proofs.including.Goals as goal

pub returns-then-yes : goal.returns-then-yes
returns-then-yes c = rw (c.if-yes.true, shifted c.args.at (omega arith))

pub returns : goal.returns
returns c = rw c.if-yes.false
