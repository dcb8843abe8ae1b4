use mathlib.Core.Path.{refl, sym}
use native.Mathlib.Omega.{arith}
use Rattle.texts.proofs.Written.{wrote_nothing, wrote_more}
use Rattle.finest.specs.Rows.{operations_in}
use Rattle.cut_lines.specs.Given.{name_in}
use Rattle.cut_lines.proofs.Printing.{lines_next, lines_none, lines_all}
use Rattle.cut_lines.proofs.prints.print_cut.Goals as goal

pub loop-i-init : goal.loop-i-init
loop-i-init c =
    let a = c.args in
    (refl, rw (lines_none (name_in a.names.now) (operations_in a.words.now) a.cut.now) (wrote_nothing a.out.now 0), omega arith)

pub put_first-end-requires : goal.put_first-end-requires
put_first-end-requires c =
    let l = c.loop-i in
    let p = c.requires in
    let t = c.loop-i-test.true in
    (p.0, t, omega (arith, l.invariant.0, l.invariant.2, t, p.0.few, p.1))

pub loop-i-preserved : goal.loop-i-preserved
loop-i-preserved c =
    let a = c.args in
    let l = c.loop-i in
    let t = c.loop-i-test.true in
    let p = c.requires in
    let n = c.put_first-end.ensures in
    (omega (arith, l.invariant.0), rw (sym (lines_next (name_in a.names.now) (operations_in a.words.now) a.cut.now l.i)) (wrote_more (omega (arith, l.invariant.1.index, l.invariant.2, t, p.0.few, p.1)) l.invariant.1 n.wrote), omega (arith, n.upper_bound, l.invariant.2))

pub shape_of-out : goal.shape_of-out
shape_of-out c = c.loop-i.invariant.0

pub returns : goal.returns
returns c =
    let a = c.args in
    let l = c.loop-i in
    let p = c.requires in
    record {
      wrote = rw (lines_all (name_in a.names.now) a.words.now a.cut.now {n = l.i} (omega (arith, c.loop-i-test.false))) at l.invariant.1;
      upper_bound = omega (arith, l.invariant.2, p.0.few);
    }
