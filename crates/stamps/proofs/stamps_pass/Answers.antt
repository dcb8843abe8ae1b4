-- The two tests together are the rules' test.
use mathlib.Core.Path.{sym, ap, ◌∙◌}
use mathlib.Core.Bool.{Bool, ◌&&◌}
use Rattle.rules.specs.Tables.{tables}
use Rattle.stamps.specs.Stamped.{all_above}
use Rattle.stamps.proofs.Stamps.{stamps-same}
use Rattle.stamps.proofs.stamps_pass.Goals as goal

pub returns-then-not-all_apart : goal.returns-then-not-all_apart
returns-then-not-all_apart c =
    let a = c.args in
    let G = tables a.txns.now a.locks.now a.versions.now in
    sym (ap (λ (b : Bool). b && all_above G) (sym c.all_apart.ensures ∙ c.if-not-all_apart.true)) ∙ stamps-same G

pub returns : goal.returns
returns c =
    let a = c.args in
    let G = tables a.txns.now a.locks.now a.versions.now in
    c.all_above.ensures ∙ sym (ap (λ (b : Bool). b && all_above G) (sym c.all_apart.ensures ∙ c.if-not-all_apart.false)) ∙ stamps-same G
