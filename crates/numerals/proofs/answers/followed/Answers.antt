-- `followed` writes the number and the byte.
use native.Mathlib.Omega.{arith}
use Rattle.numerals.specs.Print.{followed}
use Rattle.numerals.proofs.Decimals.{length-followed}
use Rattle.texts.proofs.Written.{wrote_more}
use Rattle.numerals.proofs.answers.followed.Goals as goal

pub decimal-end-requires : goal.decimal-end-requires
decimal-end-requires c =
    let a = c.args in
    omega (arith, length-followed a.n a.byte, c.requires)

pub put-requires : goal.put-requires
put-requires c =
    let a = c.args in
    omega (arith, length-followed a.n a.byte, c.requires, c.decimal-end.ensures.index, c.decimal-end.auto.out)

pub returns : goal.returns
unfolding followed
returns c =
    let a = c.args in
    wrote_more (omega (arith, length-followed a.n a.byte, c.requires)) c.decimal-end.ensures c.put.ensures
