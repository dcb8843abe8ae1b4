use Prim.Native.Nat.{ℕ, ◌<◌, ◌+◌}
use mathlib.Core.Path.{◌≡◌, ap, ◌∙◌, subst}
use mathlib.Core.List.{List}
use mathlib.Core.Logic.{◌≢◌}
use native.Mathlib.Omega.{arith}
use lib.ListN.{get_or}
use Rattle.names.specs.Sizes.{base}
use Rattle.names.specs.Layout.{txn_item_at, txn_lock_at}
use Rattle.rules.specs.Tables.{txn_at, txn, Lock, lock, no_lock}
use Rattle.waiting.specs.Waiting.{awaiter_ok, Readable}
use Rattle.waiting.proofs.Linking.{Linking, linking_begin, linking_still, linking_waits, linking_end, linking_right, awaiter_same}
use Rattle.waiting.proofs.waits.Goals as goal
use Rattle.waiting.proofs.waits.Goals.{then-wanted-ne-NO_LOCK, else-wanted-ne-NO_LOCK}

-- the awaited item is one
known :
    {t l : List ℕ} → Readable t l → (s : ℕ) → s < base.slots → get_or t (txn_at s + txn_lock_at) 0 ≢ no_lock
    → get_or t (txn_at s + txn_item_at) 0 < base.items
unfolding txn
known r s b e = r.item_known s b e

pub loop-slot-init : goal.loop-slot-init
loop-slot-init c = linking_begin _ _

pub lock_at-row-requires : goal.lock_at-row-requires
lock_at-row-requires c = known c.requires c.loop-slot.slot c.loop-slot-test.true c.if-wanted-ne-NO_LOCK.true

pub blockers-requires : goal.blockers-requires
blockers-requires c = (c.requires, known c.requires c.loop-slot.slot c.loop-slot-test.true c.if-wanted-ne-NO_LOCK.true, c.loop-slot-test.true)

pub loop-slot-preserved : goal.loop-slot-preserved
unfolding txn
loop-slot-preserved c = let t = c.args.txns.now in
    let l = c.args.locks.now in
    let g = c.loop-slot in
    let s = g.slot in
    let k = c.loop-slot-test.true in
    let r = txn t s in
    elim c.if-wanted-ne-NO_LOCK.branch [
      | then-wanted-ne-NO_LOCK w ↦
          linking_waits t l g.links g.ok s k g.invariant w.if-wanted-ne-NO_LOCK.true
          (w.awaiter_ok-ok.ensures ∙ ap (λ (h : Lock). awaiter_ok h.shared h.exclusive r.awaited_lock s) w.lock_at-row.ensures
          ∙ awaiter_same s r (lock l r.awaited_item) w.if-wanted-ne-NO_LOCK.true (c.requires.lock_listed s k))
          w.blockers.ensures w.links-is w.ok-is
      | else-wanted-ne-NO_LOCK w ↦ linking_still t l g.links g.ok s k g.invariant w.if-wanted-ne-NO_LOCK.false w.links-is w.ok-is
    ]

pub returns : goal.returns
returns c = let t = c.args.txns.now in
    let l = c.args.locks.now in
    let g = c.loop-slot in
    let e : g.slot ≡ base.slots = omega arith in
    let h : Linking t l g.links g.ok base.slots = subst (λ (n : ℕ). Linking t l g.links g.ok n) e g.invariant in
    (linking_right t l g.links g.ok h, linking_end t l g.links g.ok c.requires h)
