-- The code, the other numbers of the answer with the lengths, and then the tables.
use native.Mathlib.Omega.{arith}
use mathlib.Core.List.{[], ◌∷◌}
use lib.ListN.{length}
use Rattle.numerals.proofs.Decimals.{length-decimal, length-spaced}
use Rattle.texts.proofs.Written.{wrote_more}
use Rattle.case_lines.specs.Answers.{outcome_line}
use Rattle.case_lines.proofs.outcomes.print_outcome.Goals as goal

pub decimal-a-requires : goal.decimal-a-requires
decimal-a-requires c =
    omega (arith, c.requires, length-decimal c.args.answer.code)

pub print_words-b-requires : goal.print_words-b-requires
print_words-b-requires c =
    omega (arith, c.requires, length-decimal c.args.answer.code, c.decimal-a.ensures.index, c.decimal-a.auto.out)

pub print_tables-requires : goal.print_tables-requires
print_tables-requires c =
    let a = c.args in
    omega (arith, c.requires, length-decimal a.answer.code, length-spaced (a.answer.value ∷ a.answer.number ∷ a.answer.looked ∷ length a.txns.now ∷ length a.locks.now ∷ length a.versions.now ∷ []), c.decimal-a.ensures.index, c.decimal-a.auto.out, c.print_words-b.ensures.index, c.print_words-b.auto.out)

pub returns : goal.returns
unfolding outcome_line
returns c =
    let a = c.args in
    wrote_more (omega (arith, c.requires, length-decimal a.answer.code)) c.decimal-a.ensures
    (wrote_more (omega (arith, c.requires, length-decimal a.answer.code, length-spaced (a.answer.value ∷ a.answer.number ∷ a.answer.looked ∷ length a.txns.now ∷ length a.locks.now ∷ length a.versions.now ∷ []), c.decimal-a.ensures.index, c.decimal-a.auto.out)) c.print_words-b.ensures c.print_tables.ensures)
