-- One item: who holds it exclusively, if anybody past its writing does.
use Prim.Native.Nat.{ℕ, suc, ◌+◌, ◌-◌, ◌*◌, ◌<◌}
use mathlib.Core.Path.{◌≡◌, sym, ap, ◌∙◌}
use native.Mathlib.Omega.{arith}
use mathlib.Core.Bool.{true, false}
use lib.ListN.{get_or}
use lib.Dec.{ltb}
use Rattle.names.specs.Sizes.{base}
use Rattle.names.specs.Layout.{lock_row, lock_exclusive_at}
use Rattle.rules.specs.Tables.{tables, txn, live_settled, lock}
use Rattle.rules.proofs.Tests.{true_is, false_is}
use Rattle.stamps.proofs.Stamps.{settled-bit, newest-stamp, above_none, above_one}
use Rattle.stamps.proofs.above_at.Goals as goal

pub returns-then-exclusive-eq0 : goal.returns-then-exclusive-eq0
unfolding lock txn
returns-then-exclusive-eq0 c =
    let a = c.args in
    above_none (tables a.txns.now a.locks.now a.versions.now) a.item (λ s i k h. let q : get_or a.locks.now (lock_row * a.item + lock_exclusive_at) 0 ≡ suc s = h in let z : get_or a.locks.now (lock_row * a.item + lock_exclusive_at) 0 ≡ 0 = c.if-exclusive-eq0.true in omega arith)

pub returns-then-exclusive-gt-SLOTS : goal.returns-then-exclusive-gt-SLOTS
unfolding lock txn
returns-then-exclusive-gt-SLOTS c =
    let a = c.args in
    above_none (tables a.txns.now a.locks.now a.versions.now) a.item (λ s i k h. let q : get_or a.locks.now (lock_row * a.item + lock_exclusive_at) 0 ≡ suc s = h in let z : base.slots < get_or a.locks.now (lock_row * a.item + lock_exclusive_at) 0 = c.if-exclusive-gt-SLOTS.true in omega arith)

pub returns-then-not-is_settled : goal.returns-then-not-is_settled
unfolding lock txn
returns-then-not-is_settled c =
    let a = c.args in
    let pre = c.requires in
    let slot = get_or a.locks.now (lock_row * a.item + lock_exclusive_at) 0 - 1 in
    let off : live_settled (txn a.txns.now slot) ≡ false = sym (settled-bit a.txns.now a.settled slot pre.0 (omega arith)) ∙ sym c.is_settled.ensures ∙ c.if-not-is_settled.true in
    above_none (tables a.txns.now a.locks.now a.versions.now) a.item
    (λ s i k h. let q : get_or a.locks.now (lock_row * a.item + lock_exclusive_at) 0 ≡ suc s = h in false_is (ap (λ (m : ℕ). live_settled (txn a.txns.now m)) (let z : s ≡ slot = omega arith in z) ∙ off) k)

pub returns : goal.returns
unfolding lock txn
returns c =
    let a = c.args in
    let pre = c.requires in
    let slot = get_or a.locks.now (lock_row * a.item + lock_exclusive_at) 0 - 1 in
    let on : live_settled (txn a.txns.now slot) ≡ true = sym (settled-bit a.txns.now a.settled slot pre.0 (omega arith)) ∙ sym c.is_settled.ensures ∙ c.if-not-is_settled.false in
    ap (λ (m : ℕ). ltb m (txn a.txns.now slot).start) (newest-stamp a.versions.now a.item (pre.1.some a.item pre.2))
    ∙ above_one (tables a.txns.now a.locks.now a.versions.now) a.item slot (omega arith) (true_is on) (omega arith)
