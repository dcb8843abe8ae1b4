-- Holders in conflict and earlier waiters, without the slot itself.
use Prim.Native.Nat.{ℕ, ◌^◌, ◌<◌, ◌≤◌}
use mathlib.Core.Path.{sym, ap, subst}
use Rattle.names.specs.Sizes.{base}
use Rattle.rules.specs.Tables.{Lock}
use Rattle.waiting.specs.Waiting.{Holders}
use Rattle.waiting.proofs.Blocking.{blockers_of}
use Rattle.waiting.proofs.Linking.{shared-small, exclusive-small}
use Rattle.waiting.proofs.blockers.Goals as goal

pub holders-held-requires : goal.holders-held-requires
holders-held-requires c = let a = c.args in
    let p = c.requires in (
      subst (λ (n : ℕ). n < 2 ^ base.slots) (sym (ap (λ (h : Lock). h.shared) c.lock_at-row.ensures)) (shared-small a.txns.now a.locks.now p.0 a.item.0 p.1),
      subst (λ (n : ℕ). n ≤ base.slots) (sym (ap (λ (h : Lock). h.exclusive) c.lock_at-row.ensures)) (exclusive-small a.txns.now a.locks.now p.0 a.item.0 p.1),
    )

pub returns : goal.returns
returns c = let a = c.args in
    let h = c.lock_at-row in
    let v = c.holders-held in
    blockers_of a.txns.now a.locks.now a.wanted a.item.0 a.rank a.slot.0 v.result c.ahead-first.result c.requires.2
    (subst (λ (o : Lock). Holders o a.wanted v.result) h.ensures (v.ensures h.result.working))
    c.ahead-first.ensures
