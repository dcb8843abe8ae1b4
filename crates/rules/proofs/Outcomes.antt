-- What each granted call answers and leaves: a begin, a grant, a commit and an abort change exactly the words that the document
-- names.
use Prim.Native.Nat.{ℕ, ◌≤◌, ◌<◌}
use mathlib.Core.Path.{◌≡◌, sym, subst}
use mathlib.Core.Logic.{◌≢◌, ◌⊎◌, inl, inr}
use mathlib.Core.Bool.{false}
use mathlib.Core.List.{List}
use native.Mathlib.Omega.{arith}
use lib.Dec.{T}
use Rattle.names.specs.declared.Sizes.{Sizes}
use Rattle.rules.specs.Tables.{Tables, txn, live_query, live_settled, live_relaxed, a_relaxed, shared_lock, exclusive_lock}
use Rattle.rules.specs.Tables.{lock, holds, holds_shared, holds_exclusive}
use Rattle.rules.specs.Versions.{newest}
use Rattle.rules.specs.Good.{Good}
use Rattle.rules.specs.Tested.{good}
use Rattle.rules.specs.Answers.{Call, Read, Write, Commit, Abort, Outcome, says, granted, refuses, BadTables, Deed}
use Rattle.rules.specs.Step.{step, act, judged, done, version_read, held_back, read_noted, counted}
use Rattle.rules.specs.Step.{with_txns, locked_anew, replaced, shared_too, taken, ended}
use Rattle.rules.specs.Changed.{looked_at, chosen, Granted, update_begins, query_begins, relaxed_begins, own_read, shared_read, shared_taken, settled_own_read, query_reads, relaxed_reads, settled_reads, value_replaced, settled_replaced}
use Rattle.rules.specs.Changed.{shared_exchanged, exclusive_taken, update_commits, empty_commits, settled_commits, query_commits, relaxed_commits, update_aborts, settled_aborts, update_settles, query_aborts, relaxed_aborts}
use Rattle.rules.specs.Promises.{GrantedChanges}
use Rattle.rules.proofs.Tests.{or_left, or_right, true_is}
use Rattle.rules.proofs.RowKinds.{query-live, settled-live, relaxed-live, query_cases}
use Rattle.rules.proofs.Equal.{good→Good}
use Rattle.rules.proofs.Steps.{cond_case}
use Rattle.rules.proofs.Callers.{Caller, reader_cases}
use Rattle.rules.proofs.ReadNoted.{noted_none}
use Rattle.rules.proofs.ReadWords.{relaxed-counted-words}
use Rattle.rules.proofs.Counting.{query-counted, settled-uncounted}
use Rattle.rules.proofs.Changes.{set_lock-changes, begun-changes, anew_changes, aborted-changes}
use Rattle.rules.proofs.Changes.{own_unchanged, replace_unchanged, past-unchanged, past-replaced, settled-changes}
use Rattle.rules.proofs.ChangedVersions.{committed-changes, ended-changes, relaxed-ended-changes, settled-commit-changes, settled-abort-changes}
use Rattle.rules.proofs.Judged.{way}
use Rattle.rules.proofs.Ways.{refusal-code, Updater, Way, refused, waited, began_update, began_query, began_relaxed, read_own, read_newest, read_shared, read_settled, read_version}
use Rattle.rules.proofs.Ways.{wrote_own, wrote_settled, wrote_taken, committed_update, committed_empty, committed_settled, committed_query, aborted_update, aborted_settled, aborted_query, settled_update, kept_waiting}

-- what is shown of an outcome o of the call c
abbrev Shown : Sizes → Tables → Call → Outcome → Type 0
Shown S G c o = o.answer.code ≡ granted → Granted S G c o

module _ (S : Sizes) (enough : S.slots ≤ S.places) (G : Tables) (g : Good S G) where
  -- a strict query is no relaxed one
  strict : (s : ℕ) → T (live_query (txn G.txns s)) → T (live_relaxed (txn G.txns s)) → ⊥
  strict s q r = let a = (query-live (txn G.txns s) q).1 in let b = (relaxed-live (txn G.txns s) r).1 in omega arith

  -- an exclusive lock is taken: from a shared one, or from none
  takes :
      (n s x v : ℕ) → Updater S G n s exclusive_lock x → T (holds_shared (lock G.locks x) s) ⊎ (T (holds (lock G.locks x) s) → ⊥)
      → Granted S G (Write n x v) (says granted 0 0 0 (locked_anew S s exclusive_lock x (taken (lock G.locks x) s v) G))
  takes n s x v U (inl h) = shared_exchanged n x v s U h (anew_changes S G g s U.caller.inside exclusive_lock x U.known (taken (lock G.locks x) s v))
  takes n s x v U (inr h) = exclusive_taken n x v s U h (anew_changes S G g s U.caller.inside exclusive_lock x U.known (taken (lock G.locks x) s v))

  -- who is not relaxed has nothing noted
  un_noted : (s x : ℕ) → (txn G.txns s).kind ≢ a_relaxed → read_noted G.txns G.locks s x ≡ G.txns
  un_noted s x d = noted_none G.txns G.locks s x d

  -- a read of a version: a query's is counted, that of one past its writing changes nothing, a relaxed query's is noted too
  reads :
      (n s x : ℕ) → Caller S G n s → x < S.items → (T (holds_exclusive (lock G.locks x) s) → ⊥) → held_back S G.txns G.locks x s ≡ false
      → T (live_query (txn G.txns s)) ⊎ (T (live_settled (txn G.txns s)) ⊎ T (live_relaxed (txn G.txns s)))
      → Granted S G (Read n x) (version_read S s x G)
  unfolding version_read
  reads n s x C i o b (inl u) =
      subst
      (λ (w : List ℕ). Granted S G (Read n x) (says granted (chosen S G s x).value 0 (looked_at S G s x) (with_txns G (counted w s (looked_at S G s x)))))
      (sym (un_noted s x (λ e. let k = (query-live (txn G.txns s) u).1 in absurd (omega arith))))
      (query_reads n x s C u i b (query-counted S G g s C.inside C.alive (looked_at S G s x) u))
  reads n s x C i o b (inr (inl p)) =
      subst
      (λ (w : List ℕ). Granted S G (Read n x) (says granted (chosen S G s x).value 0 (looked_at S G s x) (with_txns G (counted w s (looked_at S G s x)))))
      (sym (un_noted s x (λ e. let k = (settled-live (txn G.txns s) p).1 in absurd (omega arith))))
      (subst (λ (H : Tables). Granted S G (Read n x) (says granted (chosen S G s x).value 0 (looked_at S G s x) H))
      (sym (settled-uncounted S G g s C.inside C.alive (looked_at S G s x) p))
      (settled_reads n x s C p i o b))
  reads n s x C i o b (inr (inr r)) = relaxed_reads n x s C r i (relaxed-counted-words S G g s C.inside r x i (looked_at S G s x))

  -- a query's end
  ends-commit :
      (n s : ℕ) → Caller S G n s → T (live_query (txn G.txns s)) ⊎ T (live_relaxed (txn G.txns s))
      → Granted S G (Commit n) (says granted (txn G.txns s).weight_sum 0 (txn G.txns s).read_count (ended S s G))
  ends-commit n s C (inl q) = query_commits n s C q (ended-changes S G g enough s C.inside (strict s q))
  ends-commit n s C (inr q) = relaxed_commits n s C q (relaxed-ended-changes S G g enough s C.inside)

  ends-abort :
      (n s : ℕ) → Caller S G n s → T (live_query (txn G.txns s)) ⊎ T (live_relaxed (txn G.txns s))
      → Granted S G (Abort n) (says granted (txn G.txns s).weight_sum 0 (txn G.txns s).read_count (ended S s G))
  ends-abort n s C (inl q) = query_aborts n s C q (ended-changes S G g enough s C.inside (strict s q))
  ends-abort n s C (inr q) = relaxed_aborts n s C q (relaxed-ended-changes S G g enough s C.inside)

  way-shown : (c : Call) (d : Deed) → Way S G c d → Shown S G c (done S d G)
  unfolding done version_read
  way-shown c d (refused r m) z = absurd (refusal-code r z)
  way-shown c d (waited s k x w) z = absurd (omega arith)
  way-shown c d (began_update s f n) z = update_begins s f (begun-changes S G g s f.inside _ _)
  way-shown c d (began_query s f n) z = query_begins s f (begun-changes S G g s f.inside _ _)
  way-shown c d (began_relaxed s f n a) z = relaxed_begins s f (begun-changes S G g s f.inside _ _)
  way-shown c d (read_own n s x U h) z =
      subst (λ (H : Tables). Granted S G (Read n x) (says granted (lock G.locks x).working 0 0 H))
      (sym (own_unchanged S G g s U.caller.inside x U.known (unfold holds in (or_right (holds_shared (lock G.locks x) s) _ h)) U.free))
      (own_read n x s U h)
  way-shown c d (read_newest n s x U h) z =
      subst (λ (H : Tables). Granted S G (Read n x) (says granted (newest S G.versions x) 0 1 H))
      (sym (own_unchanged S G g s U.caller.inside x U.known (unfold holds in (or_left (holds_shared (lock G.locks x) s) _ h)) U.free))
      (shared_read n x s U h)
  way-shown c d (read_shared n s x U h f) z =
      shared_taken n x s U h (anew_changes S G g s U.caller.inside shared_lock x U.known (shared_too (lock G.locks x) s))
  way-shown c d (kept_waiting s C q) z = absurd (omega arith)
  way-shown c d (read_settled n s x C p i h) z =
      subst (λ (H : Tables). Granted S G (Read n x) (says granted (lock G.locks x).working 0 0 H)) (sym (past-unchanged S G g s C.inside p))
      (settled_own_read n x s C p i h)
  way-shown c d (read_version n s x C q i o b) z = reads n s x C i o b (reader_cases S G g s C.inside q)
  way-shown c d (wrote_own n s x v U h) z =
      subst (λ (H : Tables). Granted S G (Write n x v) (says granted 0 0 0 H))
      (sym (replace_unchanged S G g s U.caller.inside x U.known v h U.free))
      (value_replaced n x v s U h (set_lock-changes S G.locks g.locks_exact x U.known (replaced (lock G.locks x) v)))
  way-shown c d (wrote_settled n s x v C p i h) z =
      subst (λ (H : Tables). Granted S G (Write n x v) (says granted 0 0 0 H)) (sym (past-replaced S G g s C.inside p x v))
      (settled_replaced n x v s C p i h (set_lock-changes S G.locks g.locks_exact x i (replaced (lock G.locks x) v)))
  way-shown c d (wrote_taken n s x v U h alone room) z = takes n s x v U h
  way-shown c d (committed_update n s C u i m w) z = update_commits n s C u w (committed-changes S G g enough s C.inside u)
  way-shown c d (committed_empty n s C u i e) z = empty_commits n s C u e (aborted-changes S G g s C.inside)
  way-shown c d (committed_settled n s C p) z = settled_commits n s C p (settled-commit-changes S G g enough s C.inside p)
  way-shown c d (committed_query n s C q) z = ends-commit n s C (query_cases (txn G.txns s) q)
  way-shown c d (aborted_update n s C u) z = update_aborts n s C u (aborted-changes S G g s C.inside)
  way-shown c d (aborted_settled n s C p) z = settled_aborts n s C p (settled-abort-changes S G g enough s C.inside)
  way-shown c d (aborted_query n s C q) z = ends-abort n s C (query_cases (txn G.txns s) q)
  way-shown c d (settled_update n s C u i m a) z = update_settles n s C u (settled-changes S G g s C.inside)

-- a granted call was made on good tables
pub granted-good : (S : Sizes) (c : Call) (G : Tables) → (step S c G).answer.code ≡ granted → Good S G
unfolding step
granted-good S c G =
    cond_case (λ o. o.answer.code ≡ granted → Good S G) (good S G) (act S c G) (refuses BadTables G)
    (λ e z. good→Good S G (true_is e)) (λ e z. absurd (omega arith))

-- "0 granted": each call that is answered 0 is one of these, with these four numbers and these words
pub granted-changes : (S : Sizes) → S.slots ≤ S.places → GrantedChanges S
unfolding step act
granted-changes S enough c G =
    cond_case (Shown S G c) (good S G) (act S c G) (refuses BadTables G)
    (λ e. way-shown S enough G (good→Good S G (true_is e)) c (judged S c G) (way S G (good→Good S G (true_is e)) c)) (λ e z. absurd (omega arith))
