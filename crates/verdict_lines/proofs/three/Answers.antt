-- Three bytes, one after the other.
use native.Mathlib.Omega.{arith}
use Rattle.texts.proofs.Written.{wrote_more}
use Rattle.verdict_lines.proofs.three.Goals as goal

pub returns : goal.returns
returns c =
    let one = c.put-second.ensures in
    let two = c.put-third.ensures in
    let k = c.put-second.auto.out in
    let p = c.requires in
    wrote_more (omega (arith, p)) one (wrote_more (omega (arith, p, one.index, k)) two c.put.ensures)
