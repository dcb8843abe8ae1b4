-- A call is only counted, is no call, or is made.
use mathlib.Core.Path.{sym, ap, ◌∙◌}
use Rattle.names.specs.Sizes.{base}
use Rattle.rules.specs.Tables.{tables}
use Rattle.rules.specs.Answers.{Call}
use Rattle.rules.specs.Step.{step}
use Rattle.call_words.proofs.Inverse.{known, unknown}
use Rattle.judge.specs.Verdicts.{same_answer}
use Rattle.judge.proofs.Steps.{skips, refuses, replays}
use Rattle.judge.proofs.pieces.one.Goals as goal

pub returns-then-wrong-ne0 : goal.returns-then-wrong-ne0
returns-then-wrong-ne0 c =
    let a = c.args in
    skips a.fields a.answer a.judge a.txns.now a.locks.now a.versions.now _ c.one_more-seen.ensures c.if-wrong-ne0.true

pub returns-in_default : goal.returns-in_default
returns-in_default c =
    let a = c.args in
    let none = unknown a.fields (sym c.call_of.ensures ∙ c.in_default.is) in
    refuses a.fields a.answer a.judge a.txns.now a.locks.now a.versions.now _ c.one_more-seen.ensures c.if-wrong-ne0.false none

pub returns : goal.returns
unfolding same_answer
returns c =
    let a = c.args in
    let call = (known _ _ (sym c.call_of.ensures ∙ c.in-Some.is)) in
    let made = c.call-given.ensures ∙ ap (λ (m : Call). step base m (tables a.txns.now a.locks.now a.versions.now)) (sym call.1) in
    replays a.fields a.answer a.judge a.txns.now a.locks.now a.versions.now c.one_more-seen.result c.one_more-seen.ensures c.if-wrong-ne0.false call.0 c.call-given.result c.eq.result c.unless.result _ _ _ made c.eq.ensures c.unless.ensures
