-- The two counts, the replay, and what is said of them.
use borrow.Author.Rules.{rules}
use mathlib.Core.Path.{sym, ◌∙◌}
use Rattle.judge.proofs.Speaking.{stand}
use Rattle.judge.proofs.Judged.{says-short, says}
use Rattle.judge.proofs.whole.verdict_on.Goals as goal

pub returns-then-not-calls_stand : goal.returns-then-not-calls_stand
returns-then-not-calls_stand c =
    let n = c.word-n in
    let a = c.args in
    says-short a.file.now n.result n.ensures (sym c.calls_stand.ensures ∙ c.if-not-calls_stand.true)

pub overflow_mul-count : goal.overflow_mul-count
overflow_mul-count c = search (rules, (stand _ c.word-n.result (sym c.calls_stand.ensures ∙ c.if-not-calls_stand.false)))

pub overflow_add-count : goal.overflow_add-count
overflow_add-count c = search (rules, (stand _ c.word-n.result (sym c.calls_stand.ensures ∙ c.if-not-calls_stand.false)))

pub first_wrong-wrong-requires : goal.first_wrong-wrong-requires
first_wrong-wrong-requires c = (stand _ c.word-n.result (sym c.calls_stand.ensures ∙ c.if-not-calls_stand.false))

pub returns : goal.returns
returns c =
    let n = c.word-n in
    let a = c.args in
    let h = (stand _ c.word-n.result (sym c.calls_stand.ensures ∙ c.if-not-calls_stand.false)) in
    c.spoken.ensures ∙ says a.file.now n.result n.ensures c.word-m.result c.first_wrong-wrong.result c.word-m.ensures (search (rules, h)) c.first_wrong-wrong.ensures
