-- The call is made, and its answer put.
use mathlib.Core.Path.{ap, ◌∙◌}
use Rattle.names.specs.Sizes.{base}
use Rattle.rules.specs.Tables.{Tables, tables}
use Rattle.rules.specs.Answers.{Call, Outcome}
use Rattle.rules.specs.Step.{step}
use Rattle.call_words.specs.Calls.{call_in}
use Rattle.journal.specs.Format.{answer_bytes}
use Rattle.texts.specs.Written.{buffer, put}
use Rattle.recording.proofs.answers.answer_call.Goals as goal

pub returns : goal.returns
returns c =
    let a = c.args in
    let G : Tables = tables a.txns.now a.locks.now a.versions.now in
    let said = c.call_in-call.ensures ∙ ap call_in c.call.ensures in
    let made = c.call-answer.ensures ∙ ap (λ (d : Call). step base d G) said in
    record { result_after = c.put_answer.ensures ∙ ap (λ (o : Outcome). put (answer_bytes o.answer) (buffer a.out.now a.at)) made; versions_after = ap (λ (o : Outcome). o.after) made }
