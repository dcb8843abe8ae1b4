use mathlib.Core.Path.{sym, subst}
use Prim.Native.Nat.{ℕ, ◌<◌}
use mathlib.Core.List.{List}
use lib.ListN.{length}
use Rattle.names.specs.Sizes.{base}
use Rattle.rules.specs.Tables.{outside}
use Rattle.rules.specs.Versions.{versions_in, row_of, place}
use Rattle.packing.specs.Changed.{TidyRow, shown_to}
use Rattle.choices.proofs.Lent.{lent}
use Rattle.rewrites.proofs.Table.{lent_back}
use Rattle.rewrites.proofs.Shown.{none_shown, next-tidy, next-found, one_shown, all_shown}
use Rattle.rewrites.proofs.reveal_all.Goals as goal

pub loop-i-init : goal.loop-i-init
loop-i-init c = none_shown _ _ _

pub reveal-requires : goal.reveal-requires
reveal-requires c =
    let a = c.args in
    let p = c.requires in
    let l = c.loop-i in
    let h = c.loop-i-test.true in
    subst (λ (r : List ℕ). TidyRow r × (a.slot.0 < base.slots) × (place (outside a.slot.0) (versions_in base r) < length (versions_in base r))) (sym (lent l.i l.versions)) (
      next-tidy a.versions.now a.slot.0 a.starts.now p l.versions l.i l.invariant h,
      p.inside,
      next-found a.versions.now a.slot.0 a.starts.now p l.versions l.i l.invariant h,
    )

pub loop-i-preserved : goal.loop-i-preserved
loop-i-preserved c =
    let a = c.args in
    let l = c.loop-i in
    one_shown a.versions.now a.slot.0 a.starts.now c.requires l.versions l.i l.invariant c.loop-i-test.true
    (lent_back l.i l.versions (λ r. row_of base (shown_to a.slot.0 a.starts.now (versions_in base r))) c.reveal.ensures)

pub returns : goal.returns
returns c =
    let a = c.args in
    let l = c.loop-i in
    all_shown a.versions.now a.slot.0 a.starts.now c.requires l.versions l.i l.invariant c.loop-i.auto.i-end c.loop-i-test.false
