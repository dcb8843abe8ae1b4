-- The ends, commits and settles of transactions are turns of what is seen of the tables.
use Prim.Native.Nat.{ℕ, ◌+◌, ◌≤◌, ◌<◌}
use mathlib.Core.Path.{◌≡◌, refl, sym, ap, ◌∙◌, subst}
use mathlib.Core.Logic.{◌≢◌}
use mathlib.Core.Bool.{Bool, true, false, ◌&&◌, cond}
use mathlib.Core.List.{List, Memᴰ}
use native.Mathlib.Omega.{arith}
use lib.Dec.{T, leb}
use borrow.Author.Tests.{lt-leb}
use Rattle.names.specs.declared.Sizes.{Sizes}
use Rattle.rules.specs.Tables.{Tables, last_number, clock, Txn, txn, no_txn, new_txn, live_update, live_settled, by_start, Reader, up_to, readers}
use Rattle.rules.specs.Tables.{a_settled, Lock, lock, unshared, holds_exclusive}
use Rattle.rules.specs.Good.{Good}
use Rattle.rules.specs.Answers.{Call}
use Rattle.rules.specs.Step.{committed_under, committed, settled_committed, ended, aborted, settled_aborted, settled}
use Rattle.rules.proofs.Views.{lock-unshare}
use Rattle.rules.proofs.ChangedVersions.{committed-versions, settled-commit-versions}
use Rattle.rules.proofs.EqualRows.{live-number, number-live, update-live, settled-live}
use Rattle.rules.proofs.Callers.{Caller}
use Rattle.history.specs.Happened.{Happening, update_committed, empty_committed, settled_under, only_ended, names}
use Rattle.history.proofs.Turns.{Left, Turn, commits, commits_empty, settles, commits_settled, ends}
use Rattle.history.proofs.Tables.{SameRow, same_row, SameHold, same_hold, release_hold, unshared_hold}
use Rattle.history.proofs.Leaving.{read_at, reads-newest, start_in_lem, under_here, under_there, under_newest, under_reads}
use Rattle.history.proofs.Leaving.{aborted_here, aborted_there, aborted-last, aborted-clock, ended_here, ended_there, ended-last, ended-clock}
use Rattle.history.proofs.Leaving.{ended-newest, ended-reads, dropped_here, dropped_there, dropped_last, dropped_clock, dropped_newest, dropped_reads}
use Rattle.history.proofs.Leaving.{settled-commit-last, settled-commit-clock, ticked, ticked_size, ticked_rows, committed-last, committed-clock}
use Rattle.history.proofs.Leaving.{settled_here, settled_there, settled-last, settled-clock}
use Rattle.history.proofs.Seen.{seen, row_by, locks_by, by_start_lem, sees_by, free_dead}

module _ (S : Sizes) (G : Tables) (g : Good S G) (enough : S.slots ≤ S.places) (n s : ℕ) (C : Caller S G n s) where
  abbrev t : List ℕ
  t = G.txns

  abbrev l : List ℕ
  l = G.locks

  abbrev v : List ℕ
  v = G.versions

  abbrev i : s < S.slots
  i = C.inside

  abbrev TurnTo : Tables → Call → Happening → Type 0
  TurnTo G' c h = Turn S.items (seen S G) (seen S G') c h

  -- ---- the row of slot s goes
  left_by :
      (G' : Tables) → txn G'.txns s ≡ no_txn → ((r : ℕ) → r ≢ s → SameRow t G'.txns r)
      → ((r x : ℕ) → r ≢ s → x < S.items → SameHold (lock l x) (lock G'.locks x) r)
      → last_number G'.txns ≡ last_number t → Left S.items (seen S G) (seen S G') s
  left_by G' gone rows locks last =
      record {
        alive = (i, C.alive);
        gone = λ a. free_dead gone a.1;
        rows = λ r d. row_by S G G' r (rows r d);
        locks = λ r d. locks_by S G G' r (λ x b. locks r x d b);
        last = last;
      }

  aborted-left : Left S.items (seen S G) (seen S (aborted S s G)) s
  aborted-left =
      left_by (aborted S s G) (aborted_here S G g s i) (aborted_there S G g s i) (λ r x d b. unfold aborted in release_hold S G g s r x b d) (aborted-last S G g s i)

  pub abort_turn : {c : Call} → T (names n c) → TurnTo (aborted S s G) c (only_ended n)
  abort_turn a =
      ends n s C.name a aborted-left
      (λ r d. sees_by S G (aborted S s G) r g (aborted_there S G g s i r d) (λ x b j q. unfold aborted in refl))
      (λ x b. unfold aborted in refl) (aborted-clock S G g s i)

  -- request E7: who holds nothing exclusively commits without a stamp of its own
  pub empty_turn :
      {c : Call} → T (names n c) → T (live_update (txn t s)) → ((x : ℕ) → x < S.items → holds_exclusive (lock l x) s ≡ false)
      → TurnTo (aborted S s G) c (empty_committed n (clock t))
  empty_turn a k w =
      commits_empty n s C.name a (update-live (txn t s) k).1 w aborted-left
      (λ r d. sees_by S G (aborted S s G) r g (aborted_there S G g s i r d) (λ x b j q. unfold aborted in refl))
      (λ x b. unfold aborted in refl) (aborted-clock S G g s i)

  -- no version comes, and the rows are trimmed
  pub end_turn : {c : Call} → T (names n c) → TurnTo (ended S s G) c (only_ended n)
  end_turn a =
      ends n s C.name a
      (left_by (ended S s G) (ended_here S enough G g s i) (ended_there S enough G g s i)
      (λ r x d b. unfold ended in same_hold (lock l x) (lock l x) r refl) (ended-last S enough G g s i))
      (λ r d. sees_by S G (ended S s G) r g (ended_there S enough G g s i r d) (λ x b j q. ended-reads S enough G g s i r j q d x b))
      (ended-newest S enough G g s i) (ended-clock S enough G g s i)

  pub settled_abort_turn : {c : Call} → T (names n c) → TurnTo (settled_aborted S s G) c (only_ended n)
  settled_abort_turn a =
      ends n s C.name a
      (left_by (settled_aborted S s G) (dropped_here S enough G g s i) (λ r d. same_row (dropped_there S enough G g s i r d))
      (λ r x d b. unfold settled_aborted in release_hold S G g s r x b d) (dropped_last S enough G g s i))
      (λ r d. sees_by S G (settled_aborted S s G) r g (same_row (dropped_there S enough G g s i r d)) (λ x b j q. dropped_reads S enough G g s i r j q d x b))
      (dropped_newest S enough G g s i) (dropped_clock S enough G g s i)

  -- ---- commits
  neither : (w : Bool) (a b : ℕ) → cond (w && false) a b ≡ b
  neither true a b = refl
  neither false a b = refl

  -- the update that commits now
  module _ (k : T (live_update (txn t s))) where
    abbrev u : List ℕ
    u = ticked S G g s i

    abbrev c₁ : ℕ
    c₁ = clock t + 1

    gone-row : (r : ℕ) → r ≢ s → txn (committed S s G).txns r ≡ txn t r
    unfolding committed
    gone-row = under_there S G g s i u (ticked_size S G g s i) c₁ (ticked_rows S G g s i)

    -- its stamp is above every start
    sees_on :
        (r : ℕ) → r ≢ s → (x : ℕ) → x < S.items → r < S.slots → T (by_start (txn (committed S s G).txns r))
        → read_at S (committed S s G).versions (txn t r).start x ≡ read_at S v (txn t r).start x
    sees_on r d x b j q =
        let h : T (by_start (txn t r)) = subst (λ (o : Txn). T (by_start o)) (gone-row r d) q in
        let le : (txn t r).start ≤ clock t = (g.txn_good r j).reader_start h in
        under_reads S G g s i u (ticked_size S G g s i) c₁ (committed S s G).versions (txn t s).later_for (readers S t) x
        (committed-versions S G g enough s i k x b) (txn t r).start (start_in_lem S t r j h)
        ∙ rw (lt-leb c₁ (txn t r).start (omega arith)) (neither (holds_exclusive (lock l x) s) _ _)

    pub commit_turn : {c : Call} → T (names n c) → TurnTo (committed S s G) c (update_committed n (clock t + 1))
    commit_turn a =
        commits n s C.name a (update-live (txn t s) k).1
        (left_by (committed S s G) (unfold committed in under_here S G g s i u (ticked_size S G g s i) c₁)
        (λ r d. same_row (gone-row r d)) (λ r x d b. unfold committed committed_under in release_hold S G g s r x b d) (committed-last S G g s i))
        (λ r d. sees_by S G (committed S s G) r g (same_row (gone-row r d)) (sees_on r d))
        (λ x b.
        under_newest S G g s i u (ticked_size S G g s i) c₁ (committed S s G).versions (txn t s).later_for (readers S t) x (committed-versions S G g enough s i k x b))
        (committed-clock S G g s i)

  -- one past its writing commits, under its stamp
  module _ (k : T (live_settled (txn t s))) where
    abbrev q₁ : ℕ
    q₁ = (txn t s).start

    abbrev G₁ : Tables
    G₁ = settled_committed S s G

    past_row : (r : ℕ) → r ≢ s → txn G₁.txns r ≡ txn t r
    unfolding settled_committed
    past_row = under_there S G g s i t g.txns_exact q₁ (λ r d. refl)

    sees-past :
        (r x : ℕ) → r ≢ s → x < S.items → r < S.slots → T (by_start (txn G₁.txns r))
        → read_at S G₁.versions (txn G₁.txns r).start x
        ≡ cond (holds_exclusive (lock l x) s && leb q₁ (txn t r).start) (lock l x).working (read_at S v (txn t r).start x)
    sees-past r x d b j h =
        let e : (txn G₁.txns r).start ≡ (txn t r).start = ap (λ (o : Txn). o.start) (past_row r d) in
        ap (λ (m : ℕ). read_at S G₁.versions m x) e
        ∙ under_reads S G g s i t g.txns_exact q₁ G₁.versions 0 (readers S G₁.txns) x (settled-commit-versions S G g enough s i k x b) (txn t r).start
        (subst (λ (m : ℕ). Memᴰ (up_to m) (readers S G₁.txns)) e (start_in_lem S G₁.txns r j h))

    pub settled_commit_turn : {c : Call} → T (names n c) → TurnTo (settled_committed S s G) c (update_committed n (txn t s).start)
    settled_commit_turn a =
        commits_settled n s C.name a (settled-live (txn t s) k).1
        (left_by G₁ (unfold settled_committed in under_here S G g s i t g.txns_exact q₁) (λ r d. same_row (past_row r d))
        (λ r x d b. unfold settled_committed committed_under in release_hold S G g s r x b d) (settled-commit-last S G g s i))
        (λ r x d b h. sees-past r x d b h.0.0 (by_start_lem S G G₁ r g (same_row (past_row r d)) h).1)
        (λ x b. under_newest S G g s i t g.txns_exact q₁ G₁.versions 0 (readers S G₁.txns) x (settled-commit-versions S G g enough s i k x b))
        (settled-commit-clock S G g s i)

  -- ---- a settle
  pub settle_turn : {c : Call} → T (live_update (txn t s)) → TurnTo (settled S s G) c (settled_under n (clock t + 1))
  settle_turn k =
      settles n s C.name
      (record {
        update = ((i, C.alive), (update-live (txn t s) k).1);
        rows = λ r d. row_by S G (settled S s G) r (rows r d);
        locks = λ r d. locks_by S G (settled S s G) r (λ x b. rw (locks x b) (unshared_hold s (lock l x) r d));
        sees = λ r d. sees_by S G (settled S s G) r g (rows r d) (λ x b j q. unfold settled in refl);
        current = λ x b. unfold settled in refl;
        last = settled-last S G g s i;
        clock = settled-clock S G g s i;
        lives = (i, number-live (txn (settled S s G).txns s) (λ z. live-number (txn t s) C.alive (sym (ap (λ (o : Txn). o.number) here) ∙ z)));
        number = ap (λ (o : Txn). o.number) here;
        kind = ap (λ (o : Txn). o.kind) here;
        start = start_is;
        writes_on = λ x b. ap (λ (h : Lock). holds_exclusive h s) (locks x b) ∙ unfold holds_exclusive in refl;
        working_on = λ x b w. ap (λ (h : Lock). h.working) (locks x b);
        snapshot = λ x b.
            ap (λ (m : ℕ). read_at S (settled S s G).versions m x) start_is
            ∙ unfold settled in reads-newest S G g (clock t + 1) (omega arith) x b;
      })
    where
      here : txn (settled S s G).txns s ≡ new_txn (txn t s).number a_settled (clock t + 1)
      here = settled_here S G g s i

      start_is : (txn (settled S s G).txns s).start ≡ clock t + 1
      start_is = ap (λ (o : Txn). o.start) here

      rows : (r : ℕ) → r ≢ s → SameRow t (settled S s G).txns r
      rows r d = same_row (settled_there S G g s i r d)

      locks : (x : ℕ) → x < S.items → lock (settled S s G).locks x ≡ unshared s (lock l x)
      locks x b = unfold settled in lock-unshare S s l g.locks_exact x b
