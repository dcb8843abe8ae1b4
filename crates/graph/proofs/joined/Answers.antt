-- `graph::joined` meets its contract.
use Rattle.graph.specs.Near.{joined}
use Rattle.graph.proofs.joined.Goals as goal

pub returns : goal.returns
unfolding joined
returns c = c.near.ensures
