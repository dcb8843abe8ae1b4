-- `read_as` reads the bytes that are kept.
use borrow.Author.Rules.{rules}
use mathlib.Core.Path.{◌≡◌}
use lib.ListN.{length, length-take}
use native.Mathlib.Omega.{arith}
use Rattle.script.proofs.Held.{parsed-short, parsed-long}
use Rattle.script.proofs.calls.read_as.Goals as goal

pub slice_bounds-bytes-end : goal.slice_bounds-bytes-end
slice_bounds-bytes-end c =
    let size : length c.args.line.bytes ≡ 80 = search rules in
    omega (arith, c.if-count-le-LONGEST.true)

pub slice_bounds-parse-end : goal.slice_bounds-parse-end
slice_bounds-parse-end c =
    let size : length c.args.line.bytes ≡ 80 = search rules in
    omega (arith, c.if-count-le-LONGEST.true, length-take c.args.line.count c.args.line.bytes)

pub returns-then-count-le-LONGEST : goal.returns-then-count-le-LONGEST
returns-then-count-le-LONGEST c = parsed-short c.args.line c.parse.result c.if-count-le-LONGEST.true c.parse.ensures

pub returns-else-count-le-LONGEST : goal.returns-else-count-le-LONGEST
returns-else-count-le-LONGEST c = parsed-long c.args.line c.if-count-le-LONGEST.false
