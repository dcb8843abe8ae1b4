use mathlib.Core.Path.{◌≡◌, refl, sym}
use native.Mathlib.Omega.{arith}
use lib.ListN.{take}
use lib.Seq.{take_all, length-take-le}
use Rattle.texts.proofs.Written.{wrote_nothing, text_next, wrote_more}
use Rattle.texts.proofs.put_text.Goals as goal

pub loop-byte-init : goal.loop-byte-init
loop-byte-init c = (refl, wrote_nothing c.args.out.now c.args.at)

pub put-end-requires : goal.put-end-requires
put-end-requires c =
    let l = c.loop-byte in
    omega (arith, c.requires, c.loop-byte-test.true, l.invariant.0, l.invariant.1.index, length-take-le l.byte-index c.args.text.now (omega arith))

pub loop-byte-preserved : goal.loop-byte-preserved
loop-byte-preserved c =
    let l = c.loop-byte in
    let a = c.args in
    let t = c.loop-byte-test.true in
    (omega arith, rw (sym (text_next a.text.now l.byte-index t)) (wrote_more (omega (arith, c.requires, length-take-le l.byte-index a.text.now (omega arith))) l.invariant.1 c.put-end.ensures))

pub returns : goal.returns
returns c =
    let l = c.loop-byte in
    let a = c.args in
    let t : take l.byte-index a.text.now ≡ a.text.now = take_all l.byte-index a.text.now c.loop-byte-test.false in
    rw t at l.invariant.1
