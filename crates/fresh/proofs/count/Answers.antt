use native.Mathlib.Omega.{arith}
use Rattle.fresh.proofs.Filling.{none_counted, one_counted, all_counted}
use Rattle.fresh.proofs.count.Goals as goal

pub loop-x-init : goal.loop-x-init
loop-x-init c = none_counted _ c.told-versions

pub bounds-versions-x : goal.bounds-versions-x
bounds-versions-x c = let e = c.loop-x.invariant.size in omega arith

pub loop-x-preserved : goal.loop-x-preserved
loop-x-preserved c = one_counted _ _ _ c.loop-x-test.true c.loop-x.invariant

pub returns : goal.returns
returns c = all_counted _ _ _ c.told-versions (omega arith) c.loop-x.invariant
