use mathlib.Core.Path.{sym, subst}
use Prim.Native.Nat.{ℕ, ◌<◌}
use mathlib.Core.List.{List}
use lib.ListN.{length}
use Rattle.names.specs.Sizes.{base}
use Rattle.rules.specs.Tables.{up_to}
use Rattle.rules.specs.Versions.{versions_in, row_of, place}
use Rattle.packing.specs.Changed.{TidyRow, left_by}
use Rattle.choices.proofs.Lent.{lent}
use Rattle.rewrites.proofs.Table.{lent_back}
use Rattle.rewrites.proofs.Forgotten.{none_forgotten, next-tidy, next-found, one_forgotten, all_forgotten, none_goes}
use Rattle.rewrites.proofs.forget_all.Goals as goal

pub returns-then-next-start : goal.returns-then-next-start
returns-then-next-start c =
    let a = c.args in
    none_goes a.versions.now a.start.0 a.beside.below a.beside.next c.requires c.if-next-start.true

pub loop-i-init : goal.loop-i-init
loop-i-init c = none_forgotten _ _ _ _

pub forget-requires : goal.forget-requires
forget-requires c =
    let a = c.args in
    let l = c.loop-i in
    let h = c.loop-i-test.true in
    subst (λ (r : List ℕ). TidyRow r × (place (up_to a.start.0) (versions_in base r) < length (versions_in base r))) (sym (lent l.i l.versions)) (
      next-tidy a.versions.now a.start.0 a.beside.below a.beside.next c.requires l.versions l.i l.invariant h,
      next-found a.versions.now a.start.0 a.beside.below a.beside.next c.requires l.versions l.i l.invariant h,
    )

pub loop-i-preserved : goal.loop-i-preserved
loop-i-preserved c =
    let a = c.args in
    let p = c.requires in
    let l = c.loop-i in
    one_forgotten a.versions.now a.start.0 a.beside.below a.beside.next p l.versions l.i l.invariant c.loop-i-test.true (lent_back l.i l.versions (λ r. row_of base (left_by a.start.0 a.beside.below a.beside.next (versions_in base r))) c.forget.ensures)

pub returns : goal.returns
returns c =
    let a = c.args in
    let l = c.loop-i in
    all_forgotten a.versions.now a.start.0 a.beside.below a.beside.next c.requires l.versions l.i l.invariant c.loop-i.auto.i-end c.loop-i-test.false
