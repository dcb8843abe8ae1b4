-- Request E2: when code 11 comes.
use Prim.Native.Nat.{ℕ, ◌<◌}
use mathlib.Core.Path.{◌≡◌, refl, ap}
use mathlib.Core.Logic.{◌↔◌}
use mathlib.Core.Bool.{Bool, true, false, cond}
use native.Mathlib.Omega.{arith}
use lib.Dec.{T}
use Rattle.names.specs.declared.Sizes.{Sizes}
use Rattle.rules.specs.Tables.{Tables, txn, live_update, lock, holds_exclusive, exclusives_of, exclusive_lock}
use Rattle.rules.specs.Waits.{noted, circle_at}
use Rattle.rules.specs.Good.{Good}
use Rattle.rules.specs.Locks.{to_write, Cell, decision}
use Rattle.rules.specs.Locks.{OwnValue, ReplaceValue, NewestValue, ExchangeLock, TakeShared, TakeExclusive, Conflict}
use Rattle.rules.specs.Answers.{Outcome, Write, code, Deadlock, QuotaSpent, Refused, Waits, as_slot, as_item}
use Rattle.rules.specs.Step.{step, access, cell_deed, conflicted, done, awaits_other, writes_further}
use Rattle.rules.proofs.Callers.{Caller}
use Rattle.rules.proofs.Quotas.{has_room, further→}
use Rattle.rules.proofs.Calls.{update-writes, update_spent}

-- the update n in slot s, which awaits nothing or this very write, writes the item x
module _
    (S : Sizes) (G : Tables) (g : Good S G) (n s x v : ℕ) (C : Caller S G n s) (up : T (live_update (txn G.txns s))) (known : x < S.items)
    (free : awaits_other G.txns s exclusive_lock x ≡ false)
  where
    -- the conflict is asked later, and answers 0, 1 or 2
    access_below : (done S (access S to_write s x v G) G).answer.code < code QuotaSpent
    unfolding access cell_deed conflicted done
    access_below = go (decision S to_write G.txns G.locks x s)
      where
        waits : (b : Bool) → (done S (cond b (Refused Deadlock) (Waits (as_slot s) exclusive_lock (as_item x))) G).answer.code < code QuotaSpent
        waits true = omega arith
        waits false = omega arith

        go : (d : Cell) → (done S (cell_deed S s exclusive_lock x v G d) G).answer.code < code QuotaSpent
        go OwnValue = omega arith
        go ReplaceValue = omega arith
        go NewestValue = omega arith
        go ExchangeLock = omega arith
        go TakeShared = omega arith
        go TakeExclusive = omega arith
        go Conflict = waits (circle_at S (noted S G.txns G.locks s exclusive_lock x) G.locks s)

    -- exactly where it holds as many items exclusively as it may, and not the one that it writes
    pub spent_exactly :
        ((step S (Write n x v) G).answer.code ≡ code QuotaSpent)
        ↔ ((exclusives_of S G.locks s ≡ S.quota) × (T (holds_exclusive (lock G.locks x) s) → ⊥))
    unfolding access
    spent_exactly = go (writes_further S G.locks s x) refl
      where
        go :
            (b : Bool) → writes_further S G.locks s x ≡ b
            → ((step S (Write n x v) G).answer.code ≡ code QuotaSpent)
            ↔ ((exclusives_of S G.locks s ≡ S.quota) × (T (holds_exclusive (lock G.locks x) s) → ⊥))
        go true e = (
          λ q. further→ S G.locks s x e,
          λ h. ap (λ (o : Outcome). o.answer.code) (update_spent S G g n s C up x v known free e),
        )
        go false e = (
          λ q. absurd (let a = access_below in let b : (step S (Write n x v) G).answer.code ≡ (done S (access S to_write s x v G) G).answer.code = ap (λ (o : Outcome). o.answer.code) (update-writes S G g n s C up x v known free e) in omega arith),
          λ h. absurd (has_room S G.locks s x e h.1 h.0),
        )
