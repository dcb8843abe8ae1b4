use mathlib.Core.Path.{◌∙◌}
use Rattle.graph.proofs.Sets.{slots_those}
use Rattle.graph.proofs.those_below.Goals as goal

pub returns : goal.returns
returns g c = λ p h. c.those_below.ensures p (λ i b l e. h i b l e) ∙ slots_those c.args.n p
