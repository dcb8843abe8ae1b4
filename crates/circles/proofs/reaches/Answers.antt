-- `circles::reaches` meets its contract.
use Rattle.circles.proofs.Visiting.{opening}
use Rattle.circles.proofs.reaches.Goals as goal

pub search-requires : goal.search-requires
search-requires c = (c.requires.0, opening c.args.waits.now c.args.from c.args.goal.0 c.requires.1)

pub returns : goal.returns
returns c = c.search.ensures
