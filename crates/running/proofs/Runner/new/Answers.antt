-- A new runner keeps no byte, and fresh tables.
use borrow.Author.Rules.{rules}
use mathlib.Core.Path.{ap₂, ◌∙◌}
use Rattle.running.specs.Life.{state, state_of, born}
use Rattle.fresh.proofs.Exact.{made_fresh}
use Rattle.running.proofs.Runner.new.Goals as goal

pub returns : goal.returns
unfolding state_of born
returns c =
    ap₂ state c.new-lines.ensures (c.fresh.ensures.versions_after ∙ made_fresh _ _ _ (search rules) (search rules) (search rules))
