-- The tables are as long as the case says.
use native.Mathlib.Omega.{arith}
use mathlib.Core.Path.{sym}
use lib.Seq.{length-take-le}
use Rattle.cases.proofs.Cased.{case_is, fits_case}
use Rattle.case_lines.proofs.answers.case_line.Goals as goal

pub bounds-numbers-4 : goal.bounds-numbers-4
bounds-numbers-4 c =
    let k = (case_is c.args.numbers.now c.requires.0) in
    omega (arith, k.head)

pub bounds-numbers-5 : goal.bounds-numbers-5
bounds-numbers-5 c =
    let k = (case_is c.args.numbers.now c.requires.0) in
    omega (arith, k.head)

pub bounds-numbers-6 : goal.bounds-numbers-6
bounds-numbers-6 c =
    let k = (case_is c.args.numbers.now c.requires.0) in
    omega (arith, k.head)

pub slice_bounds-txns-end : goal.slice_bounds-txns-end
slice_bounds-txns-end c =
    let k = (case_is c.args.numbers.now c.requires.0) in
    (omega (arith, k.txns, c.txns_room-txns.ensures))

pub slice_bounds-made_line-end : goal.slice_bounds-made_line-end
slice_bounds-made_line-end c =
    let k = (case_is c.args.numbers.now c.requires.0) in
    sym (length-take-le _ _ (omega (arith, k.txns, c.txns_room-txns.ensures)))

pub slice_bounds-locks-end : goal.slice_bounds-locks-end
slice_bounds-locks-end c =
    let k = (case_is c.args.numbers.now c.requires.0) in
    (omega (arith, k.locks, c.locks_room-locks.ensures))

pub slice_bounds-made_line-end-2 : goal.slice_bounds-made_line-end-2
slice_bounds-made_line-end-2 c =
    let k = (case_is c.args.numbers.now c.requires.0) in
    sym (length-take-le _ _ (omega (arith, k.locks, c.locks_room-locks.ensures)))

pub slice_bounds-versions-end : goal.slice_bounds-versions-end
slice_bounds-versions-end c =
    let k = (case_is c.args.numbers.now c.requires.0) in
    (omega (arith, k.versions, c.versions_room-versions.ensures))

pub slice_bounds-made_line-end-3 : goal.slice_bounds-made_line-end-3
slice_bounds-made_line-end-3 c =
    let k = (case_is c.args.numbers.now c.requires.0) in
    sym (length-take-le _ _ (omega (arith, k.versions, c.versions_room-versions.ensures)))

pub made_line-requires : goal.made_line-requires
made_line-requires c =
    let k = (case_is c.args.numbers.now c.requires.0) in
    fits_case c.args.numbers.now c.args.at _ k (length-take-le _ _ (omega (arith, k.txns, c.txns_room-txns.ensures))) (length-take-le _ _ (omega (arith, k.locks, c.locks_room-locks.ensures))) (length-take-le _ _ (omega (arith, k.versions, c.versions_room-versions.ensures))) c.requires.1
