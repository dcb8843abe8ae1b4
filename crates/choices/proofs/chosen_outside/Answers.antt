-- The version at the place that the search found.
use mathlib.Core.Path.{◌∙◌, ap}
use Prim.Native.Nat.{suc}
use Rattle.rules.specs.Tables.{outside}
use Rattle.choices.proofs.Halved.{in_row, lent_choosable, chosen-place, chosen-value}
use Rattle.choices.proofs.chosen_outside.Goals as goal

pub place_outside-requires : goal.place_outside-requires
place_outside-requires c = (lent_choosable c.args.versions.now c.args.item.0 (outside c.args.slot.0) _ c.row_at-row.ensures c.requires.0, c.requires.1)

pub choice_at-requires : goal.choice_at-requires
choice_at-requires c =
    let q = outside c.args.slot.0 in
    in_row c.row_at-row.result.now q (lent_choosable c.args.versions.now c.args.item.0 q _ c.row_at-row.ensures c.requires.0) _ c.place_outside.ensures

pub returns-clause-value : goal.returns-clause-value
returns-clause-value c =
    c.choice_at.ensures.value ∙ chosen-value c.args.versions.now c.args.item.0 (outside c.args.slot.0) _ c.row_at-row.ensures _ c.place_outside.ensures

pub returns-clause-looked : goal.returns-clause-looked
returns-clause-looked c =
    c.choice_at.ensures.looked ∙ ap suc (chosen-place c.args.versions.now c.args.item.0 (outside c.args.slot.0) _ c.row_at-row.ensures _ c.place_outside.ensures)
