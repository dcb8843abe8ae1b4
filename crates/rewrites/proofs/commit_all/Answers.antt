use mathlib.Core.Path.{sym, ap, ◌∙◌, subst}
use mathlib.Core.Bool.{Bool, cond}
use Prim.Native.Nat.{ℕ, ◌+◌, ◌*◌}
use mathlib.Core.List.{List}
use lib.ListN.{get_or}
use borrow.Author.Tests.{eq-eqb, ne_eqb}
use Rattle.names.specs.Sizes.{base}
use Rattle.names.specs.Layout.{lock_working_at}
use Rattle.rules.specs.Words.{row}
use Rattle.rules.specs.Tables.{version_row, lock_row}
use Rattle.rules.specs.Versions.{Version, versions_in, row_of}
use Rattle.packing.specs.Changed.{Frontable, fronted}
use Rattle.choices.proofs.Lent.{lent}
use Rattle.rewrites.specs.Written.{with_row}
use Rattle.rewrites.proofs.Table.{lent_back}
use Rattle.rewrites.proofs.Committed.{none_committed, next_frontable, one_committed, all_committed}
use Rattle.rewrites.proofs.commit_all.Goals as goal
use Rattle.rewrites.proofs.commit_all.Goals.{then-locks-i, else-locks-i}

-- the working value of item x
abbrev working : List ℕ → ℕ → ℕ
working l x = get_or l (lock_row * x + lock_working_at) 0

pub loop-i-init : goal.loop-i-init
loop-i-init c =
    let a = c.args in
    none_committed a.versions.now a.locks.now (a.slot.0 + 1) a.stamp.0 a.hidden a.below

pub put_front-requires : goal.put_front-requires
put_front-requires c =
    let a = c.args in
    let l = c.loop-i in
    subst (λ (r : List ℕ). Frontable r a.below a.stamp.0 (working a.locks.now l.i) a.hidden) (sym (lent l.i l.versions))
    (next_frontable a.versions.now a.locks.now a.slot.0 a.stamp.0 a.hidden a.below c.requires l.versions l.i l.invariant c.loop-i-test.true (eq-eqb _ _ c.if-locks-i.true) _)

pub loop-i-preserved : goal.loop-i-preserved
loop-i-preserved c =
    let a = c.args in
    let l = c.loop-i in
    let one = one_committed a.versions.now a.locks.now a.slot.0 a.stamp.0 a.hidden a.below c.requires l.versions l.i l.invariant c.loop-i-test.true in
    let new : Version = record { stamp = a.stamp.0; value = working a.locks.now l.i; hidden = a.hidden } in
    let words : List ℕ → List ℕ = λ r. row_of base (fronted a.below new (versions_in base r)) in
    let put = with_row l.i (words (row (version_row base) l.i l.versions)) l.versions in
    elim c.if-locks-i.branch [
      | then-locks-i w ↦ one (w.versions-is ∙ lent_back l.i l.versions words w.put_front.ensures ∙ ap (λ (b : Bool). cond b put l.versions) (sym (eq-eqb _ _ w.if-locks-i.true)))
      | else-locks-i w ↦ one (w.versions-is ∙ ap (λ (b : Bool). cond b put l.versions) (sym (ne_eqb _ _ w.if-locks-i.false)))
    ]

pub returns : goal.returns
returns c =
    let a = c.args in
    let l = c.loop-i in
    all_committed a.versions.now a.locks.now a.slot.0 a.stamp.0 a.hidden a.below c.requires l.versions l.i l.invariant c.loop-i.auto.i-end c.loop-i-test.false
