-- The words, the number, and the end of the line.
use native.Mathlib.Omega.{arith}
use Rattle.numerals.proofs.Decimals.{length-decimal}
use Rattle.texts.proofs.Written.{wrote_more}
use Rattle.told_lines.specs.Lines.{bad_text}
use Rattle.told_lines.proofs.tally.say_bad.Goals as goal

pub decimal-end-requires : goal.decimal-end-requires
decimal-end-requires c =
    omega
    (arith, length-decimal c.args.line, c.requires, c.put_text-from.ensures.index, c.put_text-from.auto.out)

pub put-requires : goal.put-requires
put-requires c =
    omega
    (arith, length-decimal c.args.line, c.requires, c.put_text-from.ensures.index, c.put_text-from.auto.out, c.decimal-end.ensures.index, c.decimal-end.auto.out)

pub returns : goal.returns
unfolding bad_text
returns c =
    let n = length-decimal c.args.line in
    let p = c.requires in
    let one = c.put_text-from.ensures in
    let k = c.put_text-from.auto.out in
    wrote_more (omega (arith, p)) one (wrote_more (omega (arith, n, p, one.index, k)) c.decimal-end.ensures c.put.ensures)
