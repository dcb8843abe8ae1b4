-- What the words say of a slot that waits; of one that does not, nothing is asked.
use mathlib.Core.Path.{sym, ◌∙◌}
use mathlib.Core.Logic.{◌≢◌}
use native.Mathlib.Omega.{arith}
use Rattle.rules.specs.Tables.{txn, no_lock}
use Rattle.ranked.proofs.Placing.{rank_within, placed_still, placed-read}
use Rattle.ranked.proofs.placed.Goals as goal

pub returns-then-wanted-eq-NO_LOCK : goal.returns-then-wanted-eq-NO_LOCK
returns-then-wanted-eq-NO_LOCK c =
    let a = c.args in
    placed_still a.txns.now a.locks.now a.marks.now a.slot.0 (sym c.awaited_lock-wanted.ensures ∙ c.if-wanted-eq-NO_LOCK.true)

pub follows-requires : goal.follows-requires
follows-requires c = rank_within c.requires.1 c.requires.2 c.awaited_lock-wanted.ensures c.if-wanted-eq-NO_LOCK.false c.rank-rank.ensures

pub overflow_sub-result : goal.overflow_sub-result
overflow_sub-result c = (rank_within c.requires.1 c.requires.2 c.awaited_lock-wanted.ensures c.if-wanted-eq-NO_LOCK.false c.rank-rank.ensures).0

pub overflow_add-result : goal.overflow_add-result
overflow_add-result c =
    let r = rank_within c.requires.1 c.requires.2 c.awaited_lock-wanted.ensures c.if-wanted-eq-NO_LOCK.false c.rank-rank.ensures in
    omega (arith, r.0, r.1)

pub overflow_shr-result : goal.overflow_shr-result
overflow_shr-result c =
    let r = rank_within c.requires.1 c.requires.2 c.awaited_lock-wanted.ensures c.if-wanted-eq-NO_LOCK.false c.rank-rank.ensures in
    omega (arith, r.0, r.1)

pub returns : goal.returns
returns c =
    let waits : (txn c.args.txns.now c.args.slot.0).awaited_lock ≢ no_lock = λ e. c.if-wanted-eq-NO_LOCK.false (c.awaited_lock-wanted.ensures ∙ e) in let a = c.args in
    placed-read a.txns.now a.locks.now a.marks.now a.slot.0
    waits c.awaited_item-item.ensures c.rank-rank.ensures c.lock_at-row.ensures c.shares-shares.ensures
    c.follows.ensures
