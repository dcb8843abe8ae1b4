-- What happens at a call on good tables: each way that it can go, split once. Then the turn of a step (`step-turn`), and that whatever
-- was called from fresh tables, they are good and it is known who began as an update.
use Prim.Native.Nat.{ℕ, ◌+◌, ◌≤◌, ◌<◌}
use mathlib.Core.Path.{◌≡◌, refl, sym, ap, ◌∙◌, subst}
use mathlib.Core.Logic.{◌≢◌, ◌⊎◌, inl, inr}
use mathlib.Core.Bool.{Bool, true, false, cond}
use mathlib.Core.List.{List, [], ◌∷◌}
use native.Mathlib.Omega.{arith}
use lib.Dec.{T, eqb}
use borrow.Author.Tests.{eq-eqb, ne_eqb}
use Rattle.names.specs.declared.Sizes.{Sizes}
use Rattle.names.specs.declared.Answer.{Answer}
use Rattle.names.specs.Sizes.{first_stamp}
use Rattle.rules.specs.Words.{some}
use Rattle.rules.specs.Tables.{Tables, clock, Txn, txn, live, live_query, live_relaxed, an_update, a_query, a_relaxed, fresh}
use Rattle.rules.specs.Good.{Good}
use Rattle.rules.specs.Answers.{Call, Commit, Outcome, says, granted, refuses, code, Refusal, BadTables, Deed, Wait}
use Rattle.rules.specs.Step.{asking_joins, version_read, committed, settled_committed, aborted, judged, done, act, step}
use Rattle.rules.specs.Changed.{looked_at}
use Rattle.rules.proofs.Tests.{is_true, is_false, eq_make}
use Rattle.rules.proofs.Steps.{acts}
use Rattle.rules.proofs.EqualRows.{live-number, update-live, query-live, settled-live}
use Rattle.rules.proofs.RowKinds.{query_cases, relaxed-live}
use Rattle.rules.proofs.Callers.{Caller}
use Rattle.rules.proofs.Quotas.{held_none, held_some}
use Rattle.rules.proofs.Keeps.{keeps}
use Rattle.rules.proofs.Fresh.{fresh-good}
use Rattle.rules.proofs.Judged.{way}
use Rattle.rules.proofs.Ways.{refusal-code, Way, refused, waited, kept_waiting, began_update, began_query, began_relaxed, read_own, read_newest, read_shared, read_settled, read_version}
use Rattle.rules.proofs.Ways.{wrote_own, wrote_settled, wrote_taken, committed_update, committed_empty, committed_settled, committed_query, aborted_update, aborted_settled, aborted_query, settled_update}
use Rattle.history.specs.Runs.{end_of}
use Rattle.history.specs.Happened.{Happening, update_committed, empty_committed, only_ended, nothing, did, told, SoFar, none_so_far, happened, begun_with, names}
use Rattle.history.proofs.Invariant.{Asks}
use Rattle.history.proofs.Turns.{Turn}
use Rattle.history.proofs.Marked.{Marks, Known, known_on}
use Rattle.history.proofs.Tables.{fresh-last}
use Rattle.history.proofs.Seen.{seen, seen_fair}
use Rattle.history.proofs.Moves.{refused_turn, wait_turn, begin_update_turn, begin_query_turn, begin_relaxed_turn, own_turn, newest_turn, shared_turn, past_turn, version_read_turn}
use Rattle.history.proofs.Moves.{own_write_turn, past_write_turn, taken_turn}
use Rattle.history.proofs.Endings.{commit_turn, empty_turn, settled_commit_turn, end_turn, abort_turn, settled_abort_turn, settle_turn}

pub told-refused : (u w : Bool) (c : Call) (a : Answer) → a.code ≢ granted → told u w c a ≡ nothing
unfolding told
told-refused u w c a d = ap (λ (b : Bool). cond b (did u w c a) nothing) (ne_eqb a.code granted d)

pub told-granted : (u w : Bool) (c : Call) (a : Answer) → a.code ≡ granted → told u w c a ≡ did u w c a
unfolding told
told-granted u w c a e = ap (λ (b : Bool). cond b (did u w c a) nothing) (eq-eqb a.code granted e)

-- who is a query, relaxed or not, and who is none
pub query-asks : (r : Txn) → T (live_query r) ⊎ T (live_relaxed r) → Asks r.kind
query-asks r (inl q) = inl (query-live r q).1
query-asks r (inr q) = inr (relaxed-live r q).1

pub writes_not_asks : {j k : ℕ} → k ≡ j → j ≢ a_query → j ≢ a_relaxed → Asks k → ⊥
writes_not_asks e a b (inl z) = a (sym e ∙ z)
writes_not_asks e a b (inr z) = b (sym e ∙ z)

-- ---- what happens at the call c on the tables G, with the outcome o
pub record Happens (S : Sizes) (G : Tables) (c : Call) (o : Outcome) : Type 0 where
  pub what : Happening
  pub turn : Turn S.items (seen S G) (seen S o.after) c what
  -- so it is told by the calls and answers before it
  pub begun : (us : SoFar) → Known S.items us (seen S G) → happened us c o.answer ≡ what
  -- nothing, where it is refused
  pub silence : o.answer.code ≢ granted → what ≡ nothing
  pub not_bad : o.answer.code ≢ code BadTables

module _ (S : Sizes) (enough : S.slots ≤ S.places) (G : Tables) (g : Good S G) where
  abbrev TurnTo : Tables → Call → Happening → Type 0
  TurnTo G' c h = Turn S.items (seen S G) (seen S G') c h

  unfoldable pub silent : (c : Call) (r : Refusal) (G' : Tables) → code r ≢ code BadTables → TurnTo G' c nothing → Happens S G c (refuses r G')
  unfolding happened
  silent c r G' m e =
      record {
        what = nothing;
        turn = e;
        begun = λ us K. told-refused _ _ c _ (refusal-code r);
        silence = λ d. refl;
        not_bad = m;
      }

  unfoldable pub grants :
      (c : Call) (o : Outcome) (h : Happening) → o.answer.code ≡ granted → TurnTo o.after c h
      → ((us : SoFar) → Known S.items us (seen S G) → did (some (λ n. names n c) us.updates) (some (λ n. names n c) us.stamped) c o.answer ≡ h)
      → Happens S G c o
  unfolding happened
  grants c o h e t f =
      record {
        what = h;
        turn = t;
        begun = λ us K. told-granted (some (λ n. names n c) us.updates) (some (λ n. names n c) us.stamped) c o.answer e ∙ f us K;
        silence = λ d. absurd (d e);
        not_bad = λ z. omega arith;
      }

  -- how the transaction began does not matter
  unfoldable pub plainly :
      (c : Call) (o : Outcome) (h : Happening) → o.answer.code ≡ granted → TurnTo o.after c h → ((u w : Bool) → did u w c o.answer ≡ h)
      → Happens S G c o
  plainly c o h e t f = grants c o h e t (λ us K. f _ _)

  -- a commit of an update, which answers k: w says whether it was granted a write, or settled
  unfoldable pub commits_as :
      (n s k : ℕ) (C : Caller S G n s) (G' : Tables) (w : Bool) → (Asks (txn G.txns s).kind → ⊥)
      → ((us : SoFar) → Known S.items us (seen S G) → some (eqb n) us.stamped ≡ w)
      → TurnTo G' (Commit n) (cond w (update_committed n k) (empty_committed n k)) → Happens S G (Commit n) (says granted 0 k 0 G')
  unfolding did names
  commits_as n s k C G' w u d turn =
      grants (Commit n) (says granted 0 k 0 G') (cond w (update_committed n k) (empty_committed n k)) refl turn
      (λ us K.
      ap (λ (b : Bool). did b (some (eqb n) us.stamped) (Commit n) (says granted 0 k 0 G').answer)
      (is_true (some (eqb n) us.updates) (subst (λ (m : ℕ). T (some (eqb m) us.updates)) C.name (K.begun.updates s (C.inside, C.alive) u)))
      ∙ ap (λ (b : Bool). did true b (Commit n) (says granted 0 k 0 G').answer) (d us K))

  -- who holds something exclusively, or is past its writing, was granted a write or settled
  pub stamped :
      (n s : ℕ) (C : Caller S G n s) → (Asks (txn G.txns s).kind → ⊥) → Marks S.items (seen S G) s
      → (us : SoFar) → Known S.items us (seen S G) → some (eqb n) us.stamped ≡ true
  stamped n s C u m us K =
      is_true (some (eqb n) us.stamped) (subst (λ (m : ℕ). T (some (eqb m) us.stamped)) C.name (K.marked.there s (C.inside, C.alive) (λ z. u (inl z)) m))

  pub unstamped :
      (n s : ℕ) (C : Caller S G n s) → (Marks S.items (seen S G) s → ⊥)
      → (us : SoFar) → Known S.items us (seen S G) → some (eqb n) us.stamped ≡ false
  unstamped n s C d us K =
      is_false (some (eqb n) us.stamped)
      (λ a. d (K.marked.only s (C.inside, C.alive) (subst (λ (m : ℕ). T (some (eqb m) us.stamped)) (sym C.name) a)))

  -- ---- every way
  unfoldable pub happens : (c : Call) (d : Deed) → Way S G c d → Happens S G c (done S d G)
  unfolding done did told names version_read
  happens c d (refused r m) = silent c r G m.0 (refused_turn S G g)
  happens c d (waited s k x w) = silent c Wait _ (λ z. omega arith) (wait_turn S G g s k x (asking_joins S G.txns k x) w.caller.inside)
  happens c d (kept_waiting s C q) = silent c Wait G (λ z. omega arith) (refused_turn S G g)
  happens c d (began_update s free l) = plainly c _ _ refl (begin_update_turn S G g an_update first_stamp s free refl) (λ u w. refl)
  happens c d (began_query s free l) = plainly c _ _ refl (begin_query_turn S G g a_query (clock G.txns) s free refl refl) (λ u w. refl)
  happens c d (began_relaxed s free l a) = plainly c _ _ refl (begin_relaxed_turn S G g a_relaxed first_stamp s free refl) (λ u w. refl)
  happens c d (read_own n s x U h) = plainly c _ _ refl (own_turn S G g n s x U.caller U.known U.update h) (λ u w. refl)
  happens c d (read_newest n s x U h) = plainly c _ _ refl (newest_turn S G g n s x U.caller U.known U.update h) (λ u w. refl)
  happens c d (read_shared n s x U h f) = plainly c _ _ refl (shared_turn S G g n s x U.caller U.known U.update f) (λ u w. refl)
  happens c d (read_settled n s x C p b h) = plainly c _ _ refl (past_turn S G g n s x C b p h) (λ u w. refl)
  happens c d (read_version n s x C q b own free) = plainly c _ _ refl (version_read_turn S G g n s x (looked_at S G s x) C q b own free) (λ u w. refl)
  happens c d (wrote_own n s x v U h) = plainly c _ _ refl (own_write_turn S G g n s x U.caller U.known U.update v h) (λ u w. refl)
  happens c d (wrote_settled n s x v C p b h) = plainly c _ _ refl (past_write_turn S G g n s x C b v p h) (λ u w. refl)
  happens c d (wrote_taken n s x v U h alone q) = plainly c _ _ refl (taken_turn S G g n s x U.caller U.known U.update v alone) (λ u w. refl)
  happens c d (committed_update n s C u i l w) =
      let q = writes_not_asks (update-live (txn G.txns s) u).1 (λ z. omega arith) (λ z. omega arith) in
      commits_as n s (clock G.txns + 1) C (committed S s G) true q (stamped n s C q (inr (held_some S G.locks s w)))
      (commit_turn S G g enough n s C u (eq_make n n refl))
  happens c d (committed_empty n s C u i e) =
      commits_as n s (clock G.txns) C (aborted S s G) false (writes_not_asks (update-live (txn G.txns s) u).1 (λ z. omega arith) (λ z. omega arith))
      (unstamped n s C none) (empty_turn S G g enough n s C (eq_make n n refl) u (held_none S G.locks s e))
    where
      none : Marks S.items (seen S G) s → ⊥
      none (inl z) = let k = (update-live (txn G.txns s) u).1 in omega arith
      none (inr (x, b, h)) = subst T (held_none S G.locks s e x b) h
  happens c d (committed_settled n s C p) =
      let k = (settled-live (txn G.txns s) p).1 in
      let q = writes_not_asks k (λ z. omega arith) (λ z. omega arith) in
      commits_as n s (txn G.txns s).start C (settled_committed S s G) true q (stamped n s C q (inl k))
      (settled_commit_turn S G g enough n s C p (eq_make n n refl))
  happens c d (committed_query n s C q) =
      grants c _ _ refl (end_turn S G g enough n s C (eq_make n n refl))
      (λ us K.
      ap (λ (b : Bool). did b (some (eqb n) us.stamped) (Commit n) (done S d G).answer)
      (is_false (some (eqb n) us.updates)
      (λ a. K.begun.queries s (C.inside, C.alive) (query-asks (txn G.txns s) (query_cases (txn G.txns s) q)) (subst (λ (m : ℕ). T (some (eqb m) us.updates)) (sym C.name) a))))
  happens c d (aborted_update n s C u) = plainly c _ _ refl (abort_turn S G g enough n s C (eq_make n n refl)) (λ u w. refl)
  happens c d (aborted_settled n s C p) = plainly c _ _ refl (settled_abort_turn S G g enough n s C (eq_make n n refl)) (λ u w. refl)
  happens c d (aborted_query n s C q) = plainly c _ _ refl (end_turn S G g enough n s C (eq_make n n refl)) (λ u w. refl)
  happens c d (settled_update n s C u i l a) = plainly c _ _ refl (settle_turn S G g enough n s C u) (λ u w. refl)

-- ---- a step
module _ (S : Sizes) (enough : S.slots ≤ S.places) where
  pub step_happens : (c : Call) (G : Tables) → Good S G → Happens S G c (step S c G)
  unfolding act
  step_happens c G g = subst (λ (o : Outcome). Happens S G c o) (sym (acts S c G g)) (happens S enough G g c (judged S c G) (way S G g c))

  module _ (c : Call) (G : Tables) (g : Good S G) (us : SoFar) (K : Known S.items us (seen S G)) where
    abbrev h : Happening
    h = happened us c (step S c G).answer

    pub step_turn : Turn S.items (seen S G) (seen S (step S c G).after) c h
    step_turn =
        let H = step_happens c G g in
        subst (λ (h : Happening). Turn S.items (seen S G) (seen S (step S c G).after) c h) (sym (H.begun us K)) H.turn

    -- that of a granted call
    pub granted_turn :
        (step S c G).answer.code ≡ granted
        → Turn S.items (seen S G) (seen S (step S c G).after) c (did (some (λ n. names n c) us.updates) (some (λ n. names n c) us.stamped) c (step S c G).answer)
    unfolding happened
    granted_turn e =
        subst (λ (h : Happening). Turn S.items (seen S G) (seen S (step S c G).after) c h)
        (told-granted (some (λ n. names n c) us.updates) (some (λ n. names n c) us.stamped) c (step S c G).answer e) step_turn

    pub step-known : Known S.items (begun_with h us) (seen S (step S c G).after)
    step-known = known_on S.items (seen S G) (seen S (step S c G).after) (seen_fair S G g) us K step_turn

  -- ---- a run
  pub good-run : (cs : List Call) (G : Tables) → Good S G → Good S (end_of S cs G)
  unfolding end_of
  good-run [] G g = g
  good-run (c ∷ cs) G g = good-run cs (step S c G).after (keeps S enough c G g)

  known_end : (cs : List Call) (us : SoFar) (G : Tables) → Good S G → Known S.items us (seen S G) → (vs : SoFar) × Known S.items vs (seen S (end_of S cs G))
  unfolding end_of
  known_end [] us G g K = (us, K)
  known_end (c ∷ cs) us G g K = known_end cs _ (step S c G).after (keeps S enough c G g) (step-known c G g us K)

  module _ (room : 1 ≤ S.places) where
    -- nobody lives in fresh tables: no number was given
    pub nobody : (s : ℕ) → s < S.slots → T (live (txn (fresh S).txns s)) → ⊥
    nobody s i h =
        let a = ((fresh-good S room).txn_good s i).given in
        let b = fresh-last S in
        live-number (txn (fresh S).txns s) h (omega arith)

    pub fresh-known : Known S.items none_so_far (seen S (fresh S))
    unfolding some
    fresh-known =
        record {
          begun = record { updates = λ s a k. absurd (nobody s a.0 a.1); queries = λ s b q a. a; given = λ n a. absurd a };
          marked = record { there = λ s a k m. absurd (nobody s a.0 a.1); only = λ s a h. absurd h; given = λ n a. absurd a };
        }

    -- whatever was called: every table that a run passes through is the end of its first calls
    pub run-good : (cs : List Call) → Good S (end_of S cs (fresh S))
    run-good cs = good-run cs (fresh S) (fresh-good S room)

    pub run-known : (cs : List Call) → (us : SoFar) × Known S.items us (seen S (end_of S cs (fresh S)))
    run-known cs = known_end cs none_so_far (fresh S) (fresh-good S room) fresh-known
