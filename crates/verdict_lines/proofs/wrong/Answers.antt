-- Point 4, the call's number and the line's end.
use native.Mathlib.Omega.{arith}
use Rattle.numerals.proofs.Decimals.{length-decimal}
use Rattle.texts.proofs.Written.{wrote_more}
use Rattle.verdict_lines.proofs.wrong.Goals as goal

pub decimal-end-requires : goal.decimal-end-requires
decimal-end-requires c =
    omega
    (arith, length-decimal c.args.call, c.requires, c.put-space.ensures.index, c.put-space.auto.out, c.put-number.ensures.index, c.put-number.auto.out)

pub put-requires : goal.put-requires
put-requires c =
    omega
    (arith, length-decimal c.args.call, c.requires, c.put-space.ensures.index, c.put-space.auto.out, c.put-number.ensures.index, c.put-number.auto.out, c.decimal-end.ensures.index, c.decimal-end.auto.out)

pub returns : goal.returns
returns c =
    let n = length-decimal c.args.call in
    let p = c.requires in
    let one = c.put-space.ensures in
    let k = c.put-space.auto.out in
    let two = c.put-number.ensures in
    let m = c.put-number.auto.out in
    wrote_more (omega (arith, p)) one
    (wrote_more (omega (arith, p, one.index, k)) two
    (wrote_more (omega (arith, n, p, one.index, k, two.index, m)) c.decimal-end.ensures c.put.ensures))
