-- The invariant is kept by every turn (`turn_step`): one step for each happening.
use Prim.Native.Nat.{ℕ, ◌+◌, ◌*◌, ◌≤◌, ◌<◌}
use mathlib.Core.Path.{◌≡◌, sym, subst, fun_ext}
use mathlib.Core.Logic.{◌⊎◌, inl, inr}
use mathlib.Core.List.{List, [], ◌++◌, append-nil}
use Rattle.rules.specs.Tables.{an_update, a_query, a_settled, a_relaxed}
use Rattle.rules.specs.Answers.{Call}
use lib.Dec.{T}
use Rattle.history.specs.Happened.{Access, got, put, Happening}
use Rattle.history.specs.Serial.{Entry, insert, insert_all, access_of, place_of}
use Rattle.history.proofs.Replay.{added}
use Rattle.history.proofs.Invariant.{View, Fair, Inv, reader, settled}
use Rattle.history.proofs.Turns.{Same, by_lock, by_own, by_start, by_set, Turn, quiet, update_begins, query_begins, relaxed_begins, reads, writes, commits, commits_empty, settles, commits_settled, ends}
use Rattle.history.proofs.Steps.{quiet_step, left_step, begin_unplaced_step, settle_step}
use Rattle.history.proofs.Placed.{begin_query_step, commit-step, empty_commit_step}
use Rattle.history.proofs.Between.{settled-commit-step}
use Rattle.history.proofs.Grown.{lock-read-step, own_read-step, start-read-step, query-read-step, relaxed-read-step, write_step}

module _ (items : ℕ) (es : List Entry) (log : ℕ → List Access) (W W' : View) (F : Fair items W) (J : Inv items es log W) where
  abbrev Next : Happening → Type 0
  Next h = Inv items (insert_all (place_of W.clock h) es) (λ m. log m ++ access_of m h) W'

  -- nothing is logged
  unlogged : {es' : List Entry} → Inv items es' log W' → Inv items es' (λ m. log m ++ []) W'
  unlogged {es'} j = subst (λ (k : ℕ → List Access). Inv items es' k W') (sym (fun_ext (λ m. append-nil (log m)))) j

  logged : (n m : ℕ) (a : Access) → m ≡ n → Inv items es (added log m a) W' → Inv items es (added log n a) W'
  logged n m a e j = subst (λ (k : ℕ). Inv items es (added log k a) W') e j

  -- at the place p
  placed : (p : ℕ) {m n : ℕ} → m ≡ n → Inv items (insert (record { place = p; number = m }) es) log W' → Inv items (insert (record { place = p; number = n }) es) log W'
  placed p e j = subst (λ (k : ℕ). Inv items (insert (record { place = p; number = k }) es) log W') e j

  -- a read by a start
  by_start_lem :
      (s x v : ℕ) → reader W s → x < items → Same items W W' → ((r : ℕ) → settled W r → W.start r ≤ W.start s → T (W.writes r x) → ⊥)
      → v ≡ W.snapshot s x → Inv items es (added log (W.number s) (got x v)) W'
  by_start_lem s x v q b A held is = go (F.listed s q.0)
    where
      go : (W.kind s ≡ an_update) ⊎ ((W.kind s ≡ a_query) ⊎ ((W.kind s ≡ a_settled) ⊎ (W.kind s ≡ a_relaxed))) → Inv items es (added log (W.number s) (got x v)) W'
      go (inl k) = absurd (q.1 k)
      go (inr (inl k)) = query-read-step items es log W W' F J s q.0 x v b A held is k
      go (inr (inr (inr k))) = absurd (q.2 k)
      go (inr (inr (inl k))) = start-read-step items es log W W' F J s q.0 x v b A held is k

  pub turn_step : {c : Call} {h : Happening} → Turn items W W' c h → Next h
  unfolding place_of access_of added insert_all
  turn_step (quiet A) = unlogged (quiet_step items es log W W' F J A)
  turn_step (update_begins s B k free) = unlogged (begin_unplaced_step items es log W W' F J s B (inl k) free)
  turn_step (query_begins s B q z sees) =
      unlogged (placed (2 * W.clock + 1) B.number (begin_query_step items es log W W' F J s B q z sees))
  turn_step (relaxed_begins s B q free) = unlogged (begin_unplaced_step items es log W W' F J s B (inr q.1) free)
  turn_step (reads n s x v e b A (by_lock u h is)) =
      logged n (W.number s) (got x v) e (lock-read-step items es log W W' F J s u.0 x v b A u.1 h is)
  turn_step (reads n s x v e b A (by_own u w is)) =
      logged n (W.number s) (got x v) e (own_read-step items es log W W' F J s u.0 x v b A u.1 w is)
  turn_step (reads n s x v e b A (by_start q held is)) = logged n (W.number s) (got x v) e (by_start_lem s x v q b A held is)
  turn_step (reads n s x v e b A (by_set q is)) = logged n (W.number s) (got x v) e (relaxed-read-step items es log W W' F J s q.0 x v b A q.1)
  turn_step (writes n s x v e b P) = logged n (W.number s) (put x v) e (write_step items es log W W' F J s P.alive x v b P)
  turn_step (commits n s e a k L sees cur c) =
      unlogged (placed (2 * (W.clock + 1)) e (commit-step items es log W W' F J s k L sees cur c))
  turn_step (commits_empty n s e a k none L sees cur c) =
      unlogged (placed (2 * W.clock + 1) e (empty_commit_step items es log W W' F J s k none L sees cur c))
  turn_step (settles n s e B) = unlogged (settle_step items es log W W' F J s B)
  turn_step (commits_settled n s e a k L snap cur c) =
      unlogged (placed (2 * W.start s) e (settled-commit-step items es log W W' F J s k L snap cur c))
  turn_step (ends n s e a L sees same c) = unlogged (left_step items es log W W' F J s L sees same c)
