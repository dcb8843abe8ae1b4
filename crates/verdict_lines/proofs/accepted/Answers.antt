-- The word in three parts.
use native.Mathlib.Omega.{arith}
use Rattle.texts.proofs.Written.{wrote_more}
use Rattle.verdict_lines.proofs.accepted.Goals as goal

pub returns : goal.returns
returns c =
    let one = c.three-second.ensures in
    let two = c.three-third.ensures in
    let k = c.three-second.auto.out in
    let p = c.requires in
    wrote_more (omega (arith, p)) one (wrote_more (omega (arith, p, one.index, k)) two c.three.ensures)
