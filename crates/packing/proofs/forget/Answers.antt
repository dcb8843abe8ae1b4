-- The row stays where its newest was read, or another reads the version; else that version is taken out.
use mathlib.Core.Path.{sym, ap, ◌∙◌}
use native.Mathlib.Omega.{arith}
use Prim.Native.Nat.{ℕ, ◌≤◌, ◌<◌}
use mathlib.Core.Path.{◌≡◌}
use lib.ListN.{length}
use Rattle.rules.specs.Tables.{version_row, up_to}
use Rattle.rules.specs.Versions.{versions_in, place}
use Rattle.choices.specs.Pairs.{stamp_in}
use Rattle.packing.specs.Changed.{TidyRow}
use mathlib.Core.List.{List}
use Rattle.names.specs.Sizes.{base}
use Rattle.rules.specs.Versions.{row_of}
use Rattle.choices.specs.Pairs.{count_in}
use Rattle.packing.proofs.Words.{row_same}
use Rattle.packing.proofs.Test.{newest-stays, inside, behind, all_stay, one_goes}
use Rattle.packing.proofs.forget.Goals as goal

-- where the version is found
placed :
    (r : List ℕ) (t : TidyRow r) (start below next : ℕ) (found : place (up_to start) (versions_in base r) < length (versions_in base r)) → start < stamp_in r 0
    → (k : ℕ) → k ≡ place (up_to start) (versions_in base r)
    → (0 < k) × (k < count_in r) × (count_in r ≤ base.places) × (length r ≡ version_row base)
placed r t start below next found newer k e = (behind r t start below next found newer k e, inside r t start below next found newer k e, t.sound.most, t.size)

pub returns-then-row-start : goal.returns-then-row-start
returns-then-row-start c =
    let a = c.args in
    let p = c.requires in
    row_same a.row.now p.0 ∙ ap (row_of base) (sym (newest-stays a.row.now p.0 a.start a.beside.below a.beside.next c.if-row-start.true))

pub overflow_mul-at : goal.overflow_mul-at
overflow_mul-at c = omega (arith, placed c.args.row.now c.requires.0 c.args.start c.args.beside.below c.args.beside.next c.requires.1 c.if-row-start.false c.place_in-k.result c.place_in-k.ensures)

pub overflow_add-at : goal.overflow_add-at
overflow_add-at c = omega (arith, placed c.args.row.now c.requires.0 c.args.start c.args.beside.below c.args.beside.next c.requires.1 c.if-row-start.false c.place_in-k.result c.place_in-k.ensures)

pub overflow_add-mask : goal.overflow_add-mask
overflow_add-mask c = omega (arith, placed c.args.row.now c.requires.0 c.args.start c.args.beside.below c.args.beside.next c.requires.1 c.if-row-start.false c.place_in-k.result c.place_in-k.ensures)

pub offset_bounds-row-at : goal.offset_bounds-row-at
offset_bounds-row-at c = omega (arith, placed c.args.row.now c.requires.0 c.args.start c.args.beside.below c.args.beside.next c.requires.1 c.if-row-start.false c.place_in-k.result c.place_in-k.ensures)

pub bounds-row-at : goal.bounds-row-at
bounds-row-at c = omega (arith, placed c.args.row.now c.requires.0 c.args.start c.args.beside.below c.args.beside.next c.requires.1 c.if-row-start.false c.place_in-k.result c.place_in-k.ensures)

pub overflow_sub-at : goal.overflow_sub-at
overflow_sub-at c = omega (arith, placed c.args.row.now c.requires.0 c.args.start c.args.beside.below c.args.beside.next c.requires.1 c.if-row-start.false c.place_in-k.result c.place_in-k.ensures)

pub offset_bounds-row-at-2 : goal.offset_bounds-row-at-2
offset_bounds-row-at-2 c = omega (arith, placed c.args.row.now c.requires.0 c.args.start c.args.beside.below c.args.beside.next c.requires.1 c.if-row-start.false c.place_in-k.result c.place_in-k.ensures)

pub bounds-row-at-2 : goal.bounds-row-at-2
bounds-row-at-2 c = omega (arith, placed c.args.row.now c.requires.0 c.args.start c.args.beside.below c.args.beside.next c.requires.1 c.if-row-start.false c.place_in-k.result c.place_in-k.ensures)

pub offset_bounds-row-mask : goal.offset_bounds-row-mask
offset_bounds-row-mask c = omega (arith, placed c.args.row.now c.requires.0 c.args.start c.args.beside.below c.args.beside.next c.requires.1 c.if-row-start.false c.place_in-k.result c.place_in-k.ensures)

pub bounds-row-mask : goal.bounds-row-mask
bounds-row-mask c = omega (arith, placed c.args.row.now c.requires.0 c.args.start c.args.beside.below c.args.beside.next c.requires.1 c.if-row-start.false c.place_in-k.result c.place_in-k.ensures)

pub offset_bounds-row-mask-2 : goal.offset_bounds-row-mask-2
offset_bounds-row-mask-2 c = omega (arith, placed c.args.row.now c.requires.0 c.args.start c.args.beside.below c.args.beside.next c.requires.1 c.if-row-start.false c.place_in-k.result c.place_in-k.ensures)

pub bounds-row-mask-2 : goal.bounds-row-mask-2
bounds-row-mask-2 c = omega (arith, placed c.args.row.now c.requires.0 c.args.start c.args.beside.below c.args.beside.next c.requires.1 c.if-row-start.false c.place_in-k.result c.place_in-k.ensures)

pub returns-then-row-at : goal.returns-then-row-at
returns-then-row-at c =
    let a = c.args in
    let p = c.requires in
    row_same a.row.now p.0
    ∙ ap (row_of base) (sym (all_stay a.row.now p.0 a.start a.beside.below a.beside.next p.1 c.if-row-start.false c.place_in-k.result c.place_in-k.ensures c.if-row-at.true))

pub close_gap-requires : goal.close_gap-requires
close_gap-requires c = let z = placed c.args.row.now c.requires.0 c.args.start c.args.beside.below c.args.beside.next c.requires.1 c.if-row-start.false c.place_in-k.result c.place_in-k.ensures in (c.requires.0, z.1)

pub returns : goal.returns
returns c =
    let a = c.args in
    let p = c.requires in
    c.close_gap.ensures
    ∙ ap (row_of base) (sym (one_goes a.row.now p.0 a.start a.beside.below a.beside.next p.1 c.if-row-start.false c.place_in-k.result c.place_in-k.ensures c.if-row-at.false))
