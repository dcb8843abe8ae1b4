-- A space and at most two digits, or nothing.
use mathlib.Core.Path.{sym}
use native.Mathlib.Omega.{arith}
use Rattle.texts.proofs.Written.{wrote_nothing, wrote_more}
use Rattle.number_lines.proofs.Printed.{spaced_one}
use Rattle.cut_lines.proofs.Printing.{two_digits}
use Rattle.cut_lines.proofs.prints.put_number.Goals as goal

pub returns-then-not-yes : goal.returns-then-not-yes
returns-then-not-yes c = record { wrote = rw c.if-not-yes.true (wrote_nothing c.args.out.now c.args.at); upper_bound = omega arith }

pub decimal-requires : goal.decimal-requires
decimal-requires c = omega (arith, two_digits c.args.number c.requires.0, c.requires.1, c.put-from.ensures.index)

pub returns : goal.returns
returns c =
    let a = c.args in
    let d = two_digits a.number c.requires.0 in
    let one = c.put-from.ensures in
    record {
      wrote = rw (c.if-not-yes.false, sym (spaced_one a.number)) (wrote_more (omega (arith, c.requires.1)) one c.decimal.ensures);
      upper_bound = omega (arith, d, one.index, c.decimal.ensures.index);
    }
