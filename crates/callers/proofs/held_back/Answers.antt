-- Nobody holds the item, the slot itself, one who still writes, or one past its writing.
use Prim.Native.Nat.{ℕ, ◌-◌, ◌<◌}
use mathlib.Core.Path.{◌≡◌, sym, ap, ap₂, ◌∙◌}
use native.Mathlib.Omega.{arith}
use lib.Dec.{leb}
use Rattle.names.specs.Sizes.{base}
use Rattle.rules.specs.Tables.{Lock, txn, a_settled}
use Rattle.rules.proofs.EqualRows.{settled-live, live-settled, number-live}
use Rattle.callers.proofs.Backs.{back_none, back_one}
use Rattle.callers.proofs.held_back.Goals as goal

pub returns-then-holder-eq0 : goal.returns-then-holder-eq0
returns-then-holder-eq0 c =
    let a = c.args in
    let e = ap (λ (h : Lock). h.exclusive) c.lock_at-row.ensures in
    let z = c.if-holder-eq0.true in
    back_none a.txns.now a.locks.now a.item.0 a.slot.0 (λ b i d q k. omega arith)

pub returns-then-holder-gt-SLOTS : goal.returns-then-holder-gt-SLOTS
returns-then-holder-gt-SLOTS c =
    let a = c.args in
    let e = ap (λ (h : Lock). h.exclusive) c.lock_at-row.ensures in
    let z = c.if-holder-gt-SLOTS.true in
    back_none a.txns.now a.locks.now a.item.0 a.slot.0 (λ b i d q k. omega arith)

pub returns-then-holder-slot : goal.returns-then-holder-slot
returns-then-holder-slot c =
    let a = c.args in
    let e = ap (λ (h : Lock). h.exclusive) c.lock_at-row.ensures in
    let z = c.if-holder-slot.true in
    back_none a.txns.now a.locks.now a.item.0 a.slot.0 (λ b i d q k. d (omega arith))

pub returns-then-kind-ne-SETTLED_KIND : goal.returns-then-kind-ne-SETTLED_KIND
returns-then-kind-ne-SETTLED_KIND c =
    let a = c.args in
    let h = c.lock_at-row.result.exclusive in
    let e = ap (λ (h : Lock). h.exclusive) c.lock_at-row.ensures in
    back_none a.txns.now a.locks.now a.item.0 a.slot.0
    (λ b i d q k. c.if-kind-ne-SETTLED_KIND.true (c.kind.ensures ∙ ap (λ (m : ℕ). (txn a.txns.now m).kind) (let z : h - 1 ≡ b = omega arith in z) ∙ (settled-live (txn a.txns.now b) k).1))

pub returns : goal.returns
returns c =
    let a = c.args in
    let p = c.requires in
    let h = c.lock_at-row.result.exclusive in
    let e = ap (λ (h : Lock). h.exclusive) c.lock_at-row.ensures in
    let z = c.if-holder-eq0.false in
    let y = c.if-holder-gt-SLOTS.false in
    let b : h - 1 < base.slots = omega arith in
    let past : (txn a.txns.now (h - 1)).kind ≡ a_settled = sym c.kind.ensures ∙ c.if-kind-ne-SETTLED_KIND.false in
    ap₂ leb c.start.ensures c.start-2.ensures
    ∙ back_one a.txns.now a.locks.now a.item.0 a.slot.0 (h - 1) b
    (λ q. c.if-holder-slot.false (omega arith))
    (omega arith)
    (live-settled (txn a.txns.now (h - 1)) (number-live (txn a.txns.now (h - 1)) (λ q. let u = p.0.unkind (h - 1) b q in omega arith)) past)
