use Prim.Native.Nat.{ℕ, ◌+◌, ◌*◌, ◌-◌, ◌≤◌}
use mathlib.Core.Path.{◌≡◌, refl, subst}
use native.Mathlib.Omega.{arith}
use lib.ListN.{get_or}
use Rattle.names.specs.Sizes.{base}
use Rattle.names.specs.Layout.{lock_exclusive_at}
use Rattle.rules.specs.Tables.{lock_row, lock}
use Rattle.holdings.proofs.Counting.{Counting, counting_begin, counting_none, counting_one, counting_right, counting_end, few}
use Rattle.holdings.proofs.locks_ok.Goals as goal
use Rattle.holdings.proofs.locks_ok.Goals.{then-exclusive-ne0+then-exclusive-le-SLOTS, then-exclusive-ne0+else-exclusive-le-SLOTS, else-exclusive-ne0}

pub loop-item-init : goal.loop-item-init
loop-item-init c = counting_begin _ _ _

pub overflow_add-held : goal.overflow_add-held
overflow_add-held c =
    let l = c.args.locks.now in
    let g = c.loop-item in
    let a = get_or l (lock_row * g.item + lock_exclusive_at) 0 - 1 in
    let n : get_or g.counts a 0 ≤ base.items = few _ _ l g.counts g.most g.ok g.item c.loop-item-test.true g.invariant a (omega arith) in
    omega arith

pub loop-item-preserved : goal.loop-item-preserved
unfolding lock
loop-item-preserved c =
    let a = c.args in
    let l = a.locks.now in
    let g = c.loop-item in
    let k = c.loop-item-test.true in
    let tested = c.lock_ok-ok.ensures in
    elim c.if-exclusive-ne0.branch [
      | then-exclusive-ne0+then-exclusive-le-SLOTS w ↦ counting_one a.updates a.holders l g.counts g.most g.ok g.item k g.invariant tested w.if-exclusive-ne0.true w.if-exclusive-le-SLOTS.true w.counts-is w.most-is refl
      | then-exclusive-ne0+else-exclusive-le-SLOTS w ↦ counting_none a.updates a.holders l g.counts g.most g.ok g.item k g.invariant tested (λ s j z. let b = w.if-exclusive-le-SLOTS.false in omega arith) w.counts-is w.most-is refl
      | else-exclusive-ne0 w ↦ counting_none a.updates a.holders l g.counts g.most g.ok g.item k g.invariant tested (λ s j z. let b = w.if-exclusive-ne0.false in omega arith) w.counts-is w.most-is refl
    ]

pub returns-then-ok-clause-counted : goal.returns-then-ok-clause-counted
returns-then-ok-clause-counted c =
    let a = c.args in
    let g = c.loop-item in
    let e : g.item ≡ base.items = omega arith in
    let h : Counting a.updates a.holders a.locks.now g.counts g.most g.ok base.items = subst (λ (n : ℕ). Counting a.updates a.holders a.locks.now g.counts g.most g.ok n) e g.invariant in
    (counting_right _ _ _ _ _ _ h c.if-ok.true, counting_end _ _ _ _ _ _ h)

pub returns-else-ok-clause-refused : goal.returns-else-ok-clause-refused
returns-else-ok-clause-refused c =
    let a = c.args in
    let g = c.loop-item in
    let e : g.item ≡ base.items = omega arith in
    counting_right _ _ _ _ _ _ (subst (λ (n : ℕ). Counting a.updates a.holders a.locks.now g.counts g.most g.ok n) e g.invariant) c.if-ok.false
