-- The row stays where the newest was read; else what is newer is shown, and the version that was read stays or is taken out.
use mathlib.Core.Path.{◌≡◌, sym, ap, ◌∙◌}
use native.Mathlib.Omega.{arith}
use Prim.Native.Nat.{ℕ, ◌+◌, ◌-◌, ◌<◌}
use mathlib.Core.Bool.{Bool, ◌||◌, not}
use mathlib.Core.List.{List}
use mathlib.Core.Logic.{◌≢◌}
use Rattle.packing.specs.Changed.{TidyRow}
use lib.ListN.{length, get_or}
use lib.Dec.{eqb}
use Rattle.names.specs.Sizes.{base}
use Rattle.rules.specs.Tables.{masks_at, version_row, outside}
use Rattle.rules.specs.Versions.{row_of, versions_in, place}
use Rattle.packing.proofs.Words.{row_same}
use Rattle.packing.proofs.Reveals.{read-inside, masks_set, none_hidden, shown-tidy, shown-inside, shown_all, shown-less}
use Rattle.packing.proofs.reveal.Goals as goal

-- where what is newer is shown: the place of the version that was read, and the row now
placed :
    (r : List ℕ) (t : TidyRow r) (s : ℕ) (found : place (outside s) (versions_in base r) < length (versions_in base r)) (k : ℕ)
    → k ≡ place (outside s) (versions_in base r) → k ≢ 0
    → (0 < k) × (k < base.places) × (length r ≡ version_row base)
placed r t s found k e n =
    let i = read-inside r t s found k e in
    ((omega arith), (let m = t.sound.most in omega arith), t.size)

-- whether relaxed queries tell the two versions apart
abbrev differ : List ℕ → ℕ → Bool
differ w k = not (eqb (get_or w (masks_at base + k - 1) 0) (get_or w (masks_at base + k) 0))

pub returns-then-k-eq0 : goal.returns-then-k-eq0
returns-then-k-eq0 c =
    let a = c.args in
    let p = c.requires in
    row_same a.row.now p.0
    ∙ ap (row_of base) (sym (none_hidden a.row.now p.0 a.slot p.2 c.place_outside-k.result c.place_outside-k.ensures c.if-k-eq0.true a.starts.now))

pub show-requires : goal.show-requires
show-requires c =
    let a = c.args in
    let p = c.requires in
    let k = c.place_outside-k.result in
    let i = read-inside a.row.now p.0 a.slot p.2 k c.place_outside-k.ensures in
    (p.0.size, (let m = p.0.sound.most in omega arith), p.1, masks_set a.row.now p.0 a.slot p.2 k c.place_outside-k.ensures)

pub overflow_mul-at : goal.overflow_mul-at
overflow_mul-at c = omega (arith, placed c.args.row.now c.requires.0 c.args.slot c.requires.2 c.place_outside-k.result c.place_outside-k.ensures c.if-k-eq0.false, c.show.ensures.size)

pub overflow_add-at : goal.overflow_add-at
overflow_add-at c = omega (arith, placed c.args.row.now c.requires.0 c.args.slot c.requires.2 c.place_outside-k.result c.place_outside-k.ensures c.if-k-eq0.false, c.show.ensures.size)

pub overflow_add-mask : goal.overflow_add-mask
overflow_add-mask c = omega (arith, placed c.args.row.now c.requires.0 c.args.slot c.requires.2 c.place_outside-k.result c.place_outside-k.ensures c.if-k-eq0.false, c.show.ensures.size)

pub offset_bounds-row-at : goal.offset_bounds-row-at
offset_bounds-row-at c = omega (arith, placed c.args.row.now c.requires.0 c.args.slot c.requires.2 c.place_outside-k.result c.place_outside-k.ensures c.if-k-eq0.false, c.show.ensures.size)

pub bounds-row-at : goal.bounds-row-at
bounds-row-at c = omega (arith, placed c.args.row.now c.requires.0 c.args.slot c.requires.2 c.place_outside-k.result c.place_outside-k.ensures c.if-k-eq0.false, c.show.ensures.size)

pub offset_bounds-row-at-2 : goal.offset_bounds-row-at-2
offset_bounds-row-at-2 c = omega (arith, placed c.args.row.now c.requires.0 c.args.slot c.requires.2 c.place_outside-k.result c.place_outside-k.ensures c.if-k-eq0.false, c.show.ensures.size)

pub bounds-row-at-2 : goal.bounds-row-at-2
bounds-row-at-2 c = omega (arith, placed c.args.row.now c.requires.0 c.args.slot c.requires.2 c.place_outside-k.result c.place_outside-k.ensures c.if-k-eq0.false, c.show.ensures.size)

pub offset_bounds-row-mask : goal.offset_bounds-row-mask
offset_bounds-row-mask c = omega (arith, placed c.args.row.now c.requires.0 c.args.slot c.requires.2 c.place_outside-k.result c.place_outside-k.ensures c.if-k-eq0.false, c.show.ensures.size)

pub bounds-row-mask : goal.bounds-row-mask
bounds-row-mask c = omega (arith, placed c.args.row.now c.requires.0 c.args.slot c.requires.2 c.place_outside-k.result c.place_outside-k.ensures c.if-k-eq0.false, c.show.ensures.size)

pub offset_bounds-row-mask-2 : goal.offset_bounds-row-mask-2
offset_bounds-row-mask-2 c = omega (arith, placed c.args.row.now c.requires.0 c.args.slot c.requires.2 c.place_outside-k.result c.place_outside-k.ensures c.if-k-eq0.false, c.show.ensures.size)

pub bounds-row-mask-2 : goal.bounds-row-mask-2
bounds-row-mask-2 c = omega (arith, placed c.args.row.now c.requires.0 c.args.slot c.requires.2 c.place_outside-k.result c.place_outside-k.ensures c.if-k-eq0.false, c.show.ensures.size)

pub returns-then-some_between-row : goal.returns-then-some_between-row
returns-then-some_between-row c =
    let a = c.args in
    let p = c.requires in
    let k = c.place_outside-k in
    let z = placed c.args.row.now c.requires.0 c.args.slot c.requires.2 c.place_outside-k.result c.place_outside-k.ensures c.if-k-eq0.false in
    shown_all a.row.now p.0 a.slot p.2 k.result k.ensures c.show.new.row c.show.ensures z.0 a.starts.now
    (ap (λ (b : Bool). b || differ c.show.new.row k.result) (sym c.some_between.ensures) ∙ c.if-some_between-row.true)

pub close_gap-requires : goal.close_gap-requires
close_gap-requires c =
    let a = c.args in
    let p = c.requires in
    let k = c.place_outside-k in (
      shown-tidy a.row.now p.0 a.slot p.2 k.result k.ensures c.show.new.row c.show.ensures,
      shown-inside a.row.now p.0 a.slot p.2 k.result k.ensures c.show.new.row c.show.ensures,
    )

pub returns : goal.returns
returns c =
    let a = c.args in
    let p = c.requires in
    let k = c.place_outside-k in
    let z = placed c.args.row.now c.requires.0 c.args.slot c.requires.2 c.place_outside-k.result c.place_outside-k.ensures c.if-k-eq0.false in
    c.close_gap.ensures
    ∙ shown-less a.row.now p.0 a.slot p.2 k.result k.ensures c.show.new.row c.show.ensures z.0 a.starts.now
    (ap (λ (b : Bool). b || differ c.show.new.row k.result) (sym c.some_between.ensures) ∙ c.if-some_between-row.false)
