use native.Mathlib.Omega.{arith}
use Rattle.handed.proofs.records_of.Goals as goal

pub loop-judging-init : goal.loop-judging-init
loop-judging-init c = c.new-judging.ensures c.args.file.now c.requires.1

pub next_of-judging-requires : goal.next_of-judging-requires
next_of-judging-requires c = (omega (arith, c.loop-judging-test.true, c.asks.ensures), c.loop-judging.invariant)

pub loop-judging-smaller : goal.loop-judging-smaller
loop-judging-smaller c = c.next_of-judging.ensures.0

pub loop-judging-preserved : goal.loop-judging-preserved
loop-judging-preserved c = c.next_of-judging.ensures.1

pub returns : goal.returns
returns c = (omega (arith, c.loop-judging-test.false, c.asks.ensures), c.loop-judging.invariant)
