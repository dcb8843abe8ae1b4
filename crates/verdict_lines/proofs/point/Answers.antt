-- A digit and the line's end.
use native.Mathlib.Omega.{arith}
use Rattle.texts.proofs.Written.{wrote_more}
use Rattle.verdict_lines.proofs.point.Goals as goal

pub returns : goal.returns
returns c =
    let one = c.put-end.ensures in
    wrote_more (omega (arith, c.requires)) one c.put.ensures
