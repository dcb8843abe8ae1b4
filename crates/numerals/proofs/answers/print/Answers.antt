-- `print` writes the four numbers, one after the other.
use native.Mathlib.Omega.{arith}
use Rattle.numerals.specs.Print.{answer_line}
use Rattle.numerals.proofs.Decimals.{followed-short}
use Rattle.texts.proofs.Written.{wrote_more}
use Rattle.numerals.proofs.answers.print.Goals as goal

pub followed-value-requires : goal.followed-value-requires
followed-value-requires c =
    let a = c.args.answer in
    omega (arith, c.requires, followed-short a.code 32)

pub followed-number-requires : goal.followed-number-requires
followed-number-requires c =
    let a = c.args.answer in
    omega (arith, c.requires, followed-short a.code 32, followed-short a.value 32, c.followed-value.ensures.index, c.followed-value.auto.out)

pub followed-looked-requires : goal.followed-looked-requires
followed-looked-requires c =
    let a = c.args.answer in
    omega (arith, c.requires, followed-short a.code 32, followed-short a.value 32, followed-short a.number 32, c.followed-value.ensures.index, c.followed-value.auto.out, c.followed-number.ensures.index, c.followed-number.auto.out)

pub followed-requires : goal.followed-requires
followed-requires c =
    let a = c.args.answer in
    omega (arith, c.requires, followed-short a.code 32, followed-short a.value 32, followed-short a.number 32, followed-short a.looked 10, c.followed-value.ensures.index, c.followed-value.auto.out, c.followed-number.ensures.index, c.followed-number.auto.out, c.followed-looked.ensures.index, c.followed-looked.auto.out)

pub returns : goal.returns
unfolding answer_line
returns c =
    let a = c.args.answer in
    let one = c.followed-value.ensures in
    let two = c.followed-number.ensures in
    let three = c.followed-looked.ensures in
    let k = c.followed-value.auto.out in
    let m = c.followed-number.auto.out in
    wrote_more (omega (arith, c.requires, followed-short a.code 32)) one
    (wrote_more (omega (arith, c.requires, followed-short a.code 32, followed-short a.value 32, one.index, k)) two
    (wrote_more (omega (arith, c.requires, followed-short a.code 32, followed-short a.value 32, followed-short a.number 32, one.index, k, two.index, m)) three
    c.followed.ensures))
