-- A slot that waits is marked, or its rank is one that cannot stand.
use Prim.Native.Nat.{suc, ◌-◌, ◌<◌}
use mathlib.Core.Path.{◌≡◌, refl, sym, ap, ◌∙◌}
use mathlib.Core.Logic.{◌≢◌}
use native.Mathlib.Omega.{arith}
use Rattle.names.specs.Sizes.{base}
use Rattle.rules.specs.Tables.{txn, no_lock, Lock}
use Rattle.rules.proofs.Tests.{true_is, false_is}
use Rattle.ranked.proofs.Marking.{item_below, marked_still, rank_0, rank_high, rank-taken, marked_more}
use Rattle.ranked.proofs.mark.Goals as goal

pub returns-then-wanted-eq-NO_LOCK : goal.returns-then-wanted-eq-NO_LOCK
returns-then-wanted-eq-NO_LOCK c =
    let p = c.requires in
    record { yes = λ e. marked_still p.2 p.1 (sym c.awaited_lock-wanted.ensures ∙ c.if-wanted-eq-NO_LOCK.true); no = λ e g. false_is e tt }

pub returns-then-rank-eq0 : goal.returns-then-rank-eq0
returns-then-rank-eq0 c =
    let waits : (txn c.args.txns.now c.args.slot.0).awaited_lock ≢ no_lock = λ e. c.if-wanted-eq-NO_LOCK.false (c.awaited_lock-wanted.ensures ∙ e) in let p = c.requires in
    record { yes = λ e. absurd (true_is e); no = λ e. rank_0 p.2 p.1 c.awaited_item-item.ensures c.rank-rank.ensures waits (omega arith) }

pub returns-then-rank-gt-SLOTS : goal.returns-then-rank-gt-SLOTS
returns-then-rank-gt-SLOTS c =
    let waits : (txn c.args.txns.now c.args.slot.0).awaited_lock ≢ no_lock = λ e. c.if-wanted-eq-NO_LOCK.false (c.awaited_lock-wanted.ensures ∙ e) in let p = c.requires in
    record { yes = λ e. absurd (true_is e); no = λ e. rank_high p.2 p.1 c.awaited_item-item.ensures c.rank-rank.ensures waits (omega arith) }

pub returns-then-word-place-eq1 : goal.returns-then-word-place-eq1
returns-then-word-place-eq1 c =
    let waits : (txn c.args.txns.now c.args.slot.0).awaited_lock ≢ no_lock = λ e. c.if-wanted-eq-NO_LOCK.false (c.awaited_lock-wanted.ensures ∙ e) in let known : c.awaited_item-item.result < base.items = item_below c.requires.0 c.requires.2 c.awaited_lock-wanted.ensures c.if-wanted-eq-NO_LOCK.false c.awaited_item-item.ensures in let p = c.requires in
    let d : suc (c.rank-rank.result - 1) ≡ c.rank-rank.result = omega arith in
    record { yes = λ e. absurd (true_is e); no = λ e. rank-taken p.2 p.1 c.awaited_item-item.ensures c.rank-rank.ensures waits known (omega arith) d (omega arith) }

pub returns : goal.returns
returns c =
    let waits : (txn c.args.txns.now c.args.slot.0).awaited_lock ≢ no_lock = λ e. c.if-wanted-eq-NO_LOCK.false (c.awaited_lock-wanted.ensures ∙ e) in let known : c.awaited_item-item.result < base.items = item_below c.requires.0 c.requires.2 c.awaited_lock-wanted.ensures c.if-wanted-eq-NO_LOCK.false c.awaited_item-item.ensures in let p = c.requires in
    let d : suc (c.rank-rank.result - 1) ≡ c.rank-rank.result = omega arith in
    record {
      yes = λ e.
          marked_more p.2 p.1 c.awaited_item-item.ensures c.rank-rank.ensures waits known (omega arith)
          d (λ z. omega arith) (ap (λ (h : Lock). h.shared) c.lock_at-row.ensures) refl;
      no = λ e g. false_is e tt;
    }
