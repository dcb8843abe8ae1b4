-- The tables are filled with the words, and the call is made on them.
use mathlib.Core.Path.{◌∙◌}
use Rattle.names.specs.Sizes.{base}
use Rattle.rules.specs.Step.{step}
use Rattle.cases.specs.Cases.{call_of}
use Rattle.cases.proofs.Cased.{filled}
use Rattle.cases.proofs.made.Goals as goal

pub returns : goal.returns
unfolding call_of
returns c =
    let a = c.args in
    let f = filled a.numbers.now a.txns.now a.locks.now a.versions.now c.requires c.copy_from_slice.ensures.after c.copy_from_slice-2.ensures.after c.copy_from_slice-3.ensures.after in
    c.call.ensures ∙ (λ i. step base (c.call_in-call.ensures i) (f i))
