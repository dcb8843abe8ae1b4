-- A space, the word and the items.
use Prim.Native.Nat.{◌^◌, ◌<◌}
use mathlib.Core.Path.{sym}
use native.Mathlib.Omega.{arith}
use Rattle.texts.proofs.Written.{wrote_nothing, wrote_more}
use Rattle.cut_lines.proofs.Printing.{part_none, part_some}
use Rattle.cut_lines.proofs.prints.put_part.Goals as goal

pub returns-then-set-eq0 : goal.returns-then-set-eq0
returns-then-set-eq0 c =
    let a = c.args in
    record { wrote = rw (sym (part_none a.word.now a.set c.if-set-eq0.true)) (wrote_nothing a.out.now a.at); upper_bound = omega arith }

pub put-from-requires : goal.put-from-requires
put-from-requires c = omega (arith, c.requires)

pub put_text-end-requires : goal.put_text-end-requires
put_text-end-requires c = omega (arith, c.requires, c.put-from.ensures.index)

pub put_set-requires : goal.put_set-requires
put_set-requires c = (omega arith, omega arith, omega (arith, c.requires, c.put-from.ensures.index, c.put_text-end.ensures.index))

pub returns : goal.returns
returns c =
    let a = c.args in
    let p = c.requires in
    let one = c.put-from.ensures in
    let two = c.put_text-end.ensures in
    let three = c.put_set.ensures in
    let l : a.set < 2 ^ 64 = omega (arith, c.ranges.set) in
    record {
      wrote = rw (sym (part_some a.word.now a.set l c.if-set-eq0.false)) (wrote_more (omega (arith, p)) one (wrote_more (omega (arith, p, one.index)) two three.wrote));
      upper_bound = omega (arith, one.index, two.index, three.upper_bound);
    }
