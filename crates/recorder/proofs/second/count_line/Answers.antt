-- The number, and the byte behind it.
use native.Mathlib.Omega.{arith}
use Rattle.numerals.specs.Print.{followed}
use Rattle.numerals.proofs.Decimals.{length-decimal}
use Rattle.texts.proofs.Written.{wrote_more}
use Rattle.recorder.proofs.second.count_line.Goals as goal

pub decimal-end-requires : goal.decimal-end-requires
decimal-end-requires c = omega (arith, length-decimal c.args.count, c.requires)

pub put-requires : goal.put-requires
put-requires c = omega (arith, length-decimal c.args.count, c.requires, c.decimal-end.ensures.index, c.decimal-end.auto.out)

pub returns : goal.returns
unfolding followed
returns c =
    let d = c.decimal-end.ensures in
    let p = c.put.ensures in
    let n = length-decimal c.args.count in
    record { upper_bound = omega (arith, d.index, p.index, n, c.requires); wrote = wrote_more (omega (arith, n, c.requires)) d p }
