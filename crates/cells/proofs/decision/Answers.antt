-- The holding and the tests on the others, looked up in the table; the line is asked only where a further lock is needed.
use Prim.Native.Nat.{ℕ}
use mathlib.Core.Path.{◌≡◌, refl, sym, ap, ◌∙◌, subst}
use mathlib.Core.Bool.{Bool}
use mathlib.Core.List.{List}
use Rattle.names.specs.Sizes.{base}
use Rattle.rules.specs.Tables.{Lock, lock}
use Rattle.rules.specs.Locks.{Asked, Held, held_by, decide, decision, wanted, another_shares, another_excludes, another_ahead}
use Rattle.rows.specs.Founds.{lock_of}
use Rattle.cells.specs.Cells.{asked_of, held_of, SlotsOnly}
use Rattle.cells.proofs.Others.{no_line}
use Rattle.cells.proofs.decision.Goals as goal
use Rattle.cells.proofs.decision.Goals.{then-needs_lock, else-needs_lock}

-- what was found is the decision
found :
    (asked : Asked) (t l : List ℕ) (x s : ℕ) (row : Lock) (held : Held) (shares excludes earlier : Bool) → row ≡ lock l x → held ≡ held_by row s
    → shares ≡ another_shares base row s → excludes ≡ another_excludes base row s
    → earlier ≡ another_ahead base t l (wanted asked) x s
    → decide asked held shares excludes earlier ≡ decision base asked t l x s
unfolding decision
found asked t l x s row held shares excludes earlier r h p q e =
    let h' = h ∙ ap (λ (o : Lock). held_by o s) r in
    let p' = p ∙ ap (λ (o : Lock). another_shares base o s) r in
    let q' = q ∙ ap (λ (o : Lock). another_excludes base o s) r in
    λ i. decide asked (h' i) (p' i) (q' i) (e i)

pub another_shares-shares-requires : goal.another_shares-shares-requires
another_shares-shares-requires c = (subst SlotsOnly (sym c.lock_at-row.ensures) c.requires.2, c.requires.0)

pub another_excludes-excludes-requires : goal.another_excludes-excludes-requires
another_excludes-excludes-requires c = (subst SlotsOnly (sym c.lock_at-row.ensures) c.requires.2, c.requires.0)

pub returns : goal.returns
returns c =
    let a = c.args in
    let asked = asked_of a.asked in
    let held = held_of c.of-held.result in
    let shares = c.another_shares-shares.result in
    let excludes = c.another_excludes-excludes.result in
    let earlier = another_ahead base a.txns.now a.locks.now (wanted asked) a.item.0 a.slot.0 in
    let table : decide asked held shares excludes c.if-needs_lock.earlier ≡ decide asked held shares excludes earlier =
    elim c.if-needs_lock.branch [
      | then-needs_lock w ↦ ap (decide asked held shares excludes)
          (w.earlier-is ∙ w.another_ahead-earlier.ensures ∙ ap (λ (k : ℕ). another_ahead base a.txns.now a.locks.now k a.item.0 a.slot.0) w.lock.ensures)
      | else-needs_lock w ↦ ap (decide asked held shares excludes) (w.earlier-is ∙ w.if-needs_lock.false) ∙ no_line asked held shares excludes earlier (sym c.needs_lock.ensures ∙ w.if-needs_lock.false)
    ] in
    c.look_up.ensures
    ∙ table
    ∙ found asked a.txns.now a.locks.now a.item.0 a.slot.0 (lock_of c.lock_at-row.result) held shares excludes earlier c.lock_at-row.ensures c.of-held.ensures c.another_shares-shares.ensures c.another_excludes-excludes.ensures refl
