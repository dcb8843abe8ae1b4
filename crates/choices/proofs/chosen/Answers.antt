-- The version at the place that the search found.
use mathlib.Core.Path.{◌∙◌, ap}
use Prim.Native.Nat.{suc}
use Rattle.rules.specs.Tables.{up_to}
use Rattle.choices.proofs.Halved.{in_row, lent_choosable, chosen-place, chosen-value}
use Rattle.choices.proofs.chosen.Goals as goal

pub place_in-requires : goal.place_in-requires
place_in-requires c = lent_choosable c.args.versions.now c.args.item.0 (up_to c.args.start.0) _ c.row_at-row.ensures c.requires

pub choice_at-requires : goal.choice_at-requires
choice_at-requires c =
    let q = up_to c.args.start.0 in
    in_row c.row_at-row.result.now q (lent_choosable c.args.versions.now c.args.item.0 q _ c.row_at-row.ensures c.requires) _ c.place_in.ensures

pub returns-clause-value : goal.returns-clause-value
returns-clause-value c =
    c.choice_at.ensures.value ∙ chosen-value c.args.versions.now c.args.item.0 (up_to c.args.start.0) _ c.row_at-row.ensures _ c.place_in.ensures

pub returns-clause-looked : goal.returns-clause-looked
returns-clause-looked c =
    c.choice_at.ensures.looked ∙ ap suc (chosen-place c.args.versions.now c.args.item.0 (up_to c.args.start.0) _ c.row_at-row.ensures _ c.place_in.ensures)
