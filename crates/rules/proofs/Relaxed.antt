-- Request E11: a relaxed query "never gets 1 or 6".
use Prim.Native.Nat.{ℕ}
use mathlib.Core.Path.{subst}
use mathlib.Core.Logic.{◌≢◌, ◌⊎◌, inl, inr}
use native.Mathlib.Omega.{arith}
use lib.Dec.{T}
use Rattle.names.specs.declared.Sizes.{Sizes}
use Rattle.rules.specs.Tables.{txn, no_lock, live_update, by_start}
use Rattle.rules.specs.Good.{Good}
use Rattle.rules.specs.Answers.{code, Wait, StillWaiting}
use Rattle.rules.specs.Step.{step}
use Rattle.rules.specs.Conditions.{When, order}
use Rattle.rules.specs.Promises.{code_of, RelaxedNeverWaits}
use Rattle.rules.proofs.RowKinds.{relaxed-live, relaxed-reads, update_no_reader, start_not_relaxed}
use Rattle.rules.proofs.Refused.{NotedDown, HeldSilently, wait_is, answered_good}
use Rattle.rules.proofs.Answered.{answered, answered_when}
use Rattle.rules.proofs.Waiting.{one_caller}

-- who waits is an update that still writes, or reads by a start; and who reads awaits nothing
pub relaxed_never_waits : (S : Sizes) → RelaxedNeverWaits S
unfolding When
relaxed_never_waits S c G s C relaxed = (never, idle)
  where
    never : code_of S c G ≢ code Wait
    never e = go (wait_is S c G e)
      where
        g : Good S G
        g = answered_good S c G (λ z. omega arith)

        go : NotedDown S c G (step S c G) ⊎ HeldSilently S c G (step S c G) → ⊥
        go (inl w) =
            let u = subst (λ (r : ℕ). T (live_update (txn G.txns r))) (one_caller S G g c w.0 s w.3 C) w.7 in
            update_no_reader (txn G.txns s) u (relaxed-reads (txn G.txns s) relaxed)
        go (inr h) =
            let b = subst (λ (r : ℕ). T (by_start (txn G.txns r))) (one_caller S G g c h.0.0 s h.0.1 C) h.0.2 in
            start_not_relaxed (txn G.txns s) b (relaxed-live (txn G.txns s) relaxed).1

    idle : code_of S c G ≢ code StillWaiting
    idle e =
        let g : Good S G = answered_good S c G (λ z. omega arith) in
        let w = answered_when S c G StillWaiting (order c) (code_of S c G) (answered S c G) e in
        let d = subst (λ (r : ℕ). (txn G.txns r).awaited_lock ≢ no_lock) (one_caller S G g c w.0 s w.1 C) w.2 in
        d ((g.txn_good s C.inside).reader_idle (relaxed-reads (txn G.txns s) relaxed))
