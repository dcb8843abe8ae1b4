use mathlib.Core.Path.{◌≡◌, refl, sym, ap, ◌∙◌, subst}
use mathlib.Core.List.{List}
use native.Mathlib.Omega.{arith}
use Prim.Native.Nat.{ℕ, ◌+◌}
use mathlib.Core.Bool.{Bool, true, false, ◌&&◌, not, false≢true}
use lib.Dec.{eqb}
use borrow.Author.Tests.{eqb-true}
use Rattle.rows.specs.Founds.{lock_of}
use Rattle.rows.specs.declared.locks.LockRow.{LockRow}
use Rattle.own_locks.proofs.Releases.{Released, one_released, one_kept}
use Rattle.own_locks.proofs.change.Goals as goal
use Rattle.own_locks.proofs.change.Goals.{then-ne, else-ne}

-- rows that are not told apart are the same
rows_same : (a b : LockRow) → not (eqb a.shared b.shared && (eqb a.exclusive b.exclusive && eqb a.working b.working)) ≡ false → lock_of a ≡ lock_of b
rows_same a b e = go (eqb a.shared b.shared) (eqb a.exclusive b.exclusive) (eqb a.working b.working) refl refl refl e
  where
    go :
        (p q r : Bool) → eqb a.shared b.shared ≡ p → eqb a.exclusive b.exclusive ≡ q → eqb a.working b.working ≡ r → not (p && (q && r)) ≡ false
        → lock_of a ≡ lock_of b
    go true true true x y z n = rw (eqb-true a.shared b.shared x, eqb-true a.exclusive b.exclusive y, eqb-true a.working b.working z) refl
    go true true false x y z n = absurd (false≢true (sym n))
    go true false r x y z n = absurd (false≢true (sym n))
    go false q r x y z n = absurd (false≢true (sym n))

pub loop-x-preserved : goal.loop-x-preserved
loop-x-preserved g c =
    let before = c.args.locks.now in
    let l = c.loop-x.locks in
    let x = c.loop-x.x in
    elim c.if-ne.branch [
      | then-ne w ↦ λ f h.
          subst (λ (m : List ℕ). Released f before m (x + 1)) (sym (w.locks-is ∙ w.set_lock.ensures))
          (one_released f before l x _ (omega arith) (c.loop-x.invariant f h) (h _ _ c.changed-made.ensures ∙ ap f c.lock_at-row.ensures))
      | else-ne w ↦ λ f h.
          let same = rows_same _ _ (sym c.ne.ensures ∙ w.if-ne.false) in
          let kept = sym c.lock_at-row.ensures ∙ sym same ∙ h _ _ c.changed-made.ensures ∙ ap f c.lock_at-row.ensures in
          subst (λ (m : List ℕ). Released f before m (x + 1)) (sym w.locks-is) (one_kept f before l x (omega arith) (c.loop-x.invariant f h) kept)
    ]
