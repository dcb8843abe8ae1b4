-- One digit, or the tenth and then the last digit.
use Prim.Native.Nat.{◌≤◌}
use native.Mathlib.Omega.{arith}
use Rattle.numerals.specs.Numbers.{greatest}
use Rattle.numerals.proofs.Decimals.{decimal-low, decimal_high, length-low, length_high}
use Rattle.texts.proofs.Written.{wrote_more}
use Rattle.numerals.proofs.answers.+decimal.Goals as goal

pub put-requires : goal.put-requires
put-requires t c = omega (arith, length-low c.args.n c.if-n-lt10.true, c.requires)

pub returns-then-n-lt10 : goal.returns-then-n-lt10
returns-then-n-lt10 t c = rw (decimal-low c.args.n c.if-n-lt10.true, ← c.glyph.ensures) c.put.ensures

pub decimal-last-requires : goal.decimal-last-requires
decimal-last-requires t c =
    let g : c.args.n ≤ greatest = omega arith in
    (omega arith, omega (arith, length_high c.args.n c.if-n-lt10.false g, c.requires))

pub put-requires-2 : goal.put-requires-2
put-requires-2 t c =
    let g : c.args.n ≤ greatest = omega arith in
    omega (arith, length_high c.args.n c.if-n-lt10.false g, c.requires, c.decimal-last.ensures.index, c.decimal-last.auto.out)

pub returns : goal.returns
returns t c =
    let g : c.args.n ≤ greatest = omega arith in
    let l = length_high c.args.n c.if-n-lt10.false g in
    rw (decimal_high c.args.n c.if-n-lt10.false g, ← c.glyph-2.ensures) (wrote_more (omega (arith, l, c.requires)) c.decimal-last.ensures c.put-2.ensures)
