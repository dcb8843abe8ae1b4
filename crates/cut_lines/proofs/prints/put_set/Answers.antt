use mathlib.Core.Path.{◌≡◌, refl, sym}
use native.Mathlib.Omega.{arith}
use Rattle.rules.specs.Words.{bit}
use Rattle.texts.proofs.Written.{wrote_nothing, wrote_more}
use Rattle.cut_lines.proofs.Printing.{set_next, set_none}
use Rattle.cut_lines.proofs.prints.put_set.Goals as goal

pub loop-x-init : goal.loop-x-init
loop-x-init c =
    let a = c.args in
    (refl, rw (set_none (bit a.set) a.more) (wrote_nothing a.out.now a.at), omega arith)

pub put_number-end-requires : goal.put_number-end-requires
put_number-end-requires c =
    let l = c.loop-x in
    let p = c.requires in
    (omega (arith, c.loop-x-test.true, p.0, p.1), omega (arith, c.loop-x-test.true, p.2, l.invariant.0, l.invariant.2))

pub loop-x-preserved : goal.loop-x-preserved
unfolding bit
loop-x-preserved c =
    let a = c.args in
    let l = c.loop-x in
    let t = c.loop-x-test.true in
    let p = c.requires in
    let n = c.put_number-end.ensures in
    (omega (arith, l.invariant.0), rw (sym (set_next (bit a.set) a.more l.x)) (wrote_more (omega (arith, l.invariant.1.index, l.invariant.2, p.2, t)) l.invariant.1 n.wrote), omega (arith, n.upper_bound, l.invariant.2))

pub shape_of-out : goal.shape_of-out
shape_of-out c = c.loop-x.invariant.0

pub returns : goal.returns
returns c =
    let a = c.args in
    let l = c.loop-x in
    let e : l.x ≡ a.count = omega (arith, c.loop-x-test.false) in
    record { wrote = rw (sym e) l.invariant.1; upper_bound = rw (sym e) l.invariant.2 }
