-- A line that is begun is answered at the front of the output.
use borrow.Author.Rules.{rules}
use mathlib.Core.Path.{◌≡◌, sym, ◌∙◌}
use native.Mathlib.Omega.{arith}
use lib.ListN.{length}
use Rattle.number_lines.specs.Lines.{held_by}
use Rattle.cases.specs.Cases.{most_numbers}
use Rattle.answering.specs.Life.{state_of}
use Rattle.number_lines.proofs.Printed.{wrote_within}
use Rattle.answering.proofs.Keeping.{last_answered, none_answered}
use Rattle.answering.proofs.Answerer.end.Goals as goal

pub returns-then-not-any : goal.returns-then-not-any
unfolding state_of
returns-then-not-any c =
    let a = c.args in
    let s = a.self in
    let size : length s.words ≡ most_numbers = search rules in
    let t = sym (c.any.ensures s.words (omega arith)) ∙ c.if-not-any.true in
    record { upper_bound = omega arith; out_after = none_answered (held_by s.words s.scan) a.out.now t }

pub returns : goal.returns
unfolding state_of
returns c =
    let s = c.args.self in
    let size : length s.words ≡ most_numbers = search rules in
    let t = sym (c.any.ensures s.words (omega arith)) ∙ c.if-not-any.false in
    let w = c.answer_line.ensures in
    record { upper_bound = wrote_within w (omega arith) (omega arith); out_after = last_answered (held_by s.words s.scan) t w }
