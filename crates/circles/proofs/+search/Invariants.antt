-- `circles::search` meets its contract. The measure is the number of slots that were not visited.
use Prim.Native.Nat.{◌-◌}
use lib.Count.{ones}
use Rattle.names.specs.Sizes.{base}
use Rattle.circles.proofs.+search.Given as goal

abbrev pub decreases-search : goal.decreases-search
decreases-search l = base.slots - ones l.done
