-- The words of the three tables and the line's end, one after the other.
use native.Mathlib.Omega.{arith}
use Rattle.numerals.proofs.Decimals.{length-spaced}
use Rattle.texts.proofs.Written.{wrote_more}
use Rattle.case_lines.specs.Answers.{tables_line}
use Rattle.case_lines.proofs.outcomes.print_tables.Goals as goal

pub print_words-c-requires : goal.print_words-c-requires
print_words-c-requires c = omega (arith, c.requires)

pub print_words-d-requires : goal.print_words-d-requires
print_words-d-requires c =
    omega (arith, c.requires, length-spaced c.args.txns.now, c.print_words-c.ensures.index, c.print_words-c.auto.out)

pub print_words-e-requires : goal.print_words-e-requires
print_words-e-requires c =
    omega (arith, c.requires, length-spaced c.args.txns.now, length-spaced c.args.locks.now, c.print_words-c.ensures.index, c.print_words-c.auto.out, c.print_words-d.ensures.index, c.print_words-d.auto.out)

pub put-requires : goal.put-requires
put-requires c =
    omega (arith, c.requires, length-spaced c.args.txns.now, length-spaced c.args.locks.now, length-spaced c.args.versions.now, c.print_words-c.ensures.index, c.print_words-c.auto.out, c.print_words-d.ensures.index, c.print_words-d.auto.out, c.print_words-e.ensures.index, c.print_words-e.auto.out)

pub returns : goal.returns
unfolding tables_line
returns c =
    let t = length-spaced c.args.txns.now in
    let l = length-spaced c.args.locks.now in
    let v = length-spaced c.args.versions.now in
    wrote_more (omega (arith, c.requires, t)) c.print_words-c.ensures
    (wrote_more (omega (arith, c.requires, t, l, c.print_words-c.ensures.index, c.print_words-c.auto.out)) c.print_words-d.ensures
    (wrote_more (omega (arith, c.requires, t, l, v, c.print_words-c.ensures.index, c.print_words-c.auto.out, c.print_words-d.ensures.index, c.print_words-d.auto.out)) c.print_words-e.ensures c.put.ensures))
