use mathlib.Core.Path.{refl, sym}
use native.Mathlib.Omega.{arith}
use lib.Seq.{length-take-le}
use Rattle.texts.proofs.Written.{wrote_nothing, text_next, wrote_more}
use Rattle.told_lines.proofs.Names.{unpadded_zero, unpadded-next, unpadded_end}
use Rattle.told_lines.proofs.naming.put_name.Goals as goal

pub loop-byte-init : goal.loop-byte-init
loop-byte-init c = (refl, wrote_nothing c.args.out.now c.args.at, refl)

pub shape_of-out-then-byte-eq0 : goal.shape_of-out-then-byte-eq0
shape_of-out-then-byte-eq0 c = c.loop-byte.invariant.0

pub returns-then-byte-eq0 : goal.returns-then-byte-eq0
returns-then-byte-eq0 c =
    let l = c.loop-byte in
    let n = c.args.name.now in
    let e = unpadded_zero n l.byte-index c.loop-byte-test.true c.if-byte-eq0.true l.invariant.2 in
    record { wrote = rw e at l.invariant.1; upper_bound = omega (arith, l.invariant.1.index, length-take-le l.byte-index n (omega arith)) }

pub put-end-requires : goal.put-end-requires
put-end-requires c =
    let l = c.loop-byte in
    let n = c.args.name.now in
    omega (arith, c.requires, c.loop-byte-test.true, l.invariant.0, l.invariant.1.index, length-take-le l.byte-index n (omega arith))

pub loop-byte-preserved : goal.loop-byte-preserved
loop-byte-preserved c =
    let l = c.loop-byte in
    let n = c.args.name.now in
    let t = c.loop-byte-test.true in
    (omega arith, rw (sym (text_next n l.byte-index t)) (wrote_more (omega (arith, c.requires, length-take-le l.byte-index n (omega arith))) l.invariant.1 c.put-end.ensures), unpadded-next n l.byte-index t c.if-byte-eq0.false l.invariant.2)

pub shape_of-out : goal.shape_of-out
shape_of-out c = c.loop-byte.invariant.0

pub returns : goal.returns
returns c =
    let l = c.loop-byte in
    let n = c.args.name.now in
    let e = unpadded_end n l.byte-index (omega arith) l.invariant.2 in
    record { wrote = rw e at l.invariant.1; upper_bound = omega (arith, l.invariant.1.index, length-take-le l.byte-index n (omega arith)) }
