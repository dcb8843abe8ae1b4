-- Request E11: demand 3 for relaxed queries.
use Prim.Native.Nat.{ℕ, suc, ◌+◌, ◌≤◌}
use mathlib.Core.Path.{◌≡◌, refl, sym, ap, ◌∙◌, subst}
use mathlib.Core.Logic.{◌⊎◌, inl, inr}
use mathlib.Core.Bool.{Bool, true, false, not}
use mathlib.Core.List.{List, [], ◌∷◌, ◌++◌, append_assoc}
use native.Mathlib.Omega.{arith}
use lib.ListN.{set}
use lib.Dec.{T, eqb}
use Rattle.names.specs.declared.Sizes.{Sizes}
use Rattle.rules.specs.Words.{some, bit}
use Rattle.rules.specs.Tables.{Tables, txn, live, live_update, live_settled, live_relaxed, shared_lock, lock, holds, holds_shared, fresh}
use Rattle.rules.specs.Versions.{versions_of, stamp_at, hidden_at, hidden_now, newest}
use Rattle.rules.specs.Good.{Good}
use Rattle.rules.specs.Answers.{Call, BeginUpdate, BeginQuery, BeginRelaxed, Read, Write, Commit, Abort, Settle, Outcome, granted, Deed, Wait}
use Rattle.rules.specs.Step.{step, act, judged, done}
use Rattle.rules.specs.Conditions.{Caller}
use Rattle.rules.proofs.Tests.{or_left, or_right, is_false, false_is, not_make, not_use}
use Rattle.rules.proofs.RowKinds.{holder_cases, update-live, live-update, reader-live, relaxed-live, live-relaxed}
use Rattle.rules.proofs.Callers.{caller-found}
use Rattle.rules.proofs.Sets.{joins_exactly}
use Rattle.rules.proofs.Steps.{acts}
use Rattle.rules.proofs.Judged.{way}
use Rattle.rules.proofs.Ways.{refusal-code, Way, refused, waited, kept_waiting, began_update, began_query, began_relaxed, read_own, read_newest, read_shared, read_settled, read_version}
use Rattle.rules.proofs.Ways.{wrote_own, wrote_settled, wrote_taken, committed_update, committed_empty, committed_settled, committed_query, aborted_update, aborted_settled, aborted_query, settled_update}
use Rattle.history.specs.Runs.{end_of}
use Rattle.history.specs.Happened.{SoFar, got, Happening, accessed, did, happenings, all_of}
use Rattle.history.specs.Serial as lists
use Rattle.history.specs.Relaxed.{in_set, until_end, committer, until, outside, committed_outside, outside_by_stamp, alone, is_relaxed, Meets, ReadsVersionAt, Overwrites, SerializesRelaxed, RelaxedSerial}
use Rattle.history.proofs.Literal.{to_agrees}
use Rattle.history.proofs.Invariant.{View, Row}
use Rattle.history.proofs.Turns.{Turn, reads}
use Rattle.history.proofs.Marked.{Known}
use Rattle.history.proofs.Seen.{seen}
use Rattle.history.proofs.Happens.{granted_turn, run-good, run-known, nobody}
use Rattle.history.proofs.RelaxedLists.{in_those, those_in, some_append, all_of-append, ended, until_all, ever_one, ever_more}
use Rattle.history.proofs.RelaxedPhase.{Joined, →in-set, kept, log_of, During, before, during, over, else}
use Rattle.history.proofs.RelaxedStamps.{by_stamp}
use Rattle.history.proofs.RelaxedStampRun.{stamp-reads}
use Rattle.history.proofs.RelaxedRun.{Ever, PhaseOf, phase, reads_so, named_so, as_list, more-until, over-until, stays_out, else_run}

-- a call that is no read
is_read : Call → Bool
is_read BeginUpdate = false
is_read BeginQuery = false
is_read BeginRelaxed = false
is_read (Read i z) = true
is_read (Write i z v) = false
is_read (Commit i) = false
is_read (Abort i) = false
is_read (Settle i) = false

not_read : {c : Call} {m x : ℕ} → is_read c ≡ false → c ≡ Read m x → ⊥
unfolding is_read
not_read e f = false_is (sym (ap is_read f) ∙ e) tt

module _ (S : Sizes) (enough : S.slots ≤ S.places) (room : 1 ≤ S.places) (q : ℕ) where
  -- an update that reads a version reads the newest
  newest-read :
      (G : Tables) → Good S G → (m s x k : ℕ) (c : Call) (d : Deed) → Way S G c d → Caller S G m s → T (live_update (txn G.txns s)) → c ≡ Read m x
      → (done S d G).answer.code ≡ granted → (done S d G).answer.looked ≡ suc k → k ≡ 0
  unfolding done is_read
  newest-read G g m s x k c d (refused r w) C u e f l = absurd (refusal-code r f)
  newest-read G g m s x k c d (waited r j y w) C u e f l = absurd (refusal-code Wait f)
  newest-read G g m s x k c d (kept_waiting r D w) C u e f l = absurd (refusal-code Wait f)
  newest-read G g m s x k c d (read_own n r y U h) C u e f l = absurd (omega arith)
  newest-read G g m s x k c d (read_newest n r y U h) C u e f l = omega arith
  newest-read G g m s x k c d (read_shared n r y U h i) C u e f l = omega arith
  newest-read G g m s x k c d (read_settled n r y D p i h) C u e f l = absurd (omega arith)
  newest-read G g m s x k c d (read_version n r y D p i o b) C u e f l =
      absurd ((reader-live (txn G.txns r) p).1 (ap (λ (j : ℕ). (txn G.txns j).kind) (caller r D (ap asker e)) ∙ (update-live (txn G.txns s) u).1))
    where
      asker : Call → ℕ
      asker BeginUpdate = 0
      asker BeginQuery = 0
      asker BeginRelaxed = 0
      asker (Read i z) = i
      asker (Write i z v) = i
      asker (Commit i) = i
      asker (Abort i) = i
      asker (Settle i) = i

      caller : (r : ℕ) → Caller S G n r → n ≡ m → r ≡ s
      caller r D z =
          sym (caller-found S G g r n D.inside D.alive D.name) ∙ caller-found S G g s n C.inside C.alive (C.name ∙ sym z)
  newest-read G g m s x k c d (began_update r F l) C u e f z = absurd (not_read refl e)
  newest-read G g m s x k c d (began_query r F l) C u e f z = absurd (not_read refl e)
  newest-read G g m s x k c d (began_relaxed r F l a) C u e f z = absurd (not_read refl e)
  newest-read G g m s x k c d (wrote_own n r y v U h) C u e f z = absurd (not_read refl e)
  newest-read G g m s x k c d (wrote_settled n r y v D p i h) C u e f z = absurd (not_read refl e)
  newest-read G g m s x k c d (wrote_taken n r y v U h i j) C u e f z = absurd (not_read refl e)
  newest-read G g m s x k c d (committed_update n r D v i l w) C u e f z = absurd (not_read refl e)
  newest-read G g m s x k c d (committed_empty n r D v i w) C u e f z = absurd (not_read refl e)
  newest-read G g m s x k c d (committed_settled n r D p) C u e f z = absurd (not_read refl e)
  newest-read G g m s x k c d (committed_query n r D p) C u e f z = absurd (not_read refl e)
  newest-read G g m s x k c d (aborted_update n r D v) C u e f z = absurd (not_read refl e)
  newest-read G g m s x k c d (aborted_settled n r D p) C u e f z = absurd (not_read refl e)
  newest-read G g m s x k c d (aborted_query n r D p) C u e f z = absurd (not_read refl e)
  newest-read G g m s x k c d (settled_update n r D v i l a) C u e f z = absurd (not_read refl e)

  -- a granted read leaves every row
  rows-read : {c : Call} {m x v : ℕ} {W W' : View} → Turn S.items W W' c (accessed m (got x v)) → (r : ℕ) → Row W W' r
  rows-read (reads n s x v e b A g) r = A.rows r

  module _ (cs ds : List Call) (c : Call) (m u : ℕ) (M : Meets S cs c m u) where
    read-rows :
        (d : Call) (m x : ℕ) (us : SoFar) (K : Known S.items us (seen S (end_of S cs (fresh S)))) → d ≡ Read m x → (step S (Read m x) (end_of S cs (fresh S))).answer.code ≡ granted
        → (r : ℕ) → Row (seen S (end_of S cs (fresh S))) (seen S (step S (Read m x) (end_of S cs (fresh S))).after) r
    unfolding did
    read-rows d m x us K e f = rows-read (granted_turn S enough (Read m x) (end_of S cs (fresh S)) (run-good S enough room cs) us K f)

    abbrev G : Tables
    G = end_of S cs (fresh S)

    abbrev all : List Call
    all = cs ++ (c ∷ ds)

    g : Good S (end_of S cs (fresh S))
    g = run-good S enough room cs

    -- who committed the version, before the query ended, and is not in the set
    contained : T (some (eqb u) (all_of committer (until_end q (happenings S cs)))) → Ever S enough room q (cs ++ (c ∷ ds)) u ≡ false → T (some (eqb u) (committed_outside S (cs ++ (c ∷ ds)) q))
    unfolding committed_outside outside until
    contained h e =
        let more = more-until S enough room q cs (c ∷ ds) in
        those_in (λ n. not (Ever S enough room q all n)) u (all_of committer (until_end q (happenings S all)))
        (subst (λ (l : List Happening). T (some (eqb u) (all_of committer l))) (sym more.1)
        (subst T (sym (ap (some (eqb u)) (all_of-append committer (until_end q (happenings S cs)) more.0) ∙ some_append (eqb u) (all_of committer (until_end q (happenings S cs))) (all_of committer more.0))) (or_left (some (eqb u) (all_of committer (until_end q (happenings S cs)))) (some (eqb u) (all_of committer more.0)) h)))
        (not_make (Ever S enough room q all u) (false_is e))

    -- the member is not
    member_out : T (some (eqb m) (committed_outside S (cs ++ (c ∷ ds)) q)) → T (Ever S enough room q (cs ++ (c ∷ ds)) m) → ⊥
    unfolding committed_outside outside
    member_out h = not_use (Ever S enough room q all m) (in_those (λ n. not (Ever S enough room q all n)) m _ h).1

    -- it lives, in the tables in which the query does: then it writes still
    module _ (s : ℕ) (D : During S q G (happenings S cs) (Ever S enough room q cs) s) where
      writes : T (live_update (txn G.txns M.slot))
      writes = go (holder_cases (txn G.txns M.slot) M.update)
        where
          go : T (live_update (txn G.txns M.slot)) ⊎ T (live_settled (txn G.txns M.slot)) → T (live_update (txn G.txns M.slot))
          go (inl w) = w
          go (inr w) = absurd (g.sets_good.apart M.slot s M.caller.inside D.caller.inside w D.relaxed)

      -- it reads or overwrites the newest version
      abbrev x : ℕ
      x = M.item

      newest_met : ReadsVersionAt S G c m x M.place ⊎ Overwrites S G c m M.slot x M.place → M.place ≡ 0
      unfolding act
      newest_met (inl r) =
          subst (λ (o : Outcome). o.answer.code ≡ granted → o.answer.looked ≡ suc M.place → M.place ≡ 0) (sym (acts S c G g))
          (newest-read G g m M.slot x M.place c (judged S c G) (way S G g c) M.caller writes r.0) r.1 r.2
      newest_met (inr r) = r.3

      -- if that is hidden from the query the member joins
      joins :
          T (bit (hidden_now S G.versions x) s) → ReadsVersionAt S G c m x M.place ⊎ Overwrites S G c m M.slot x M.place
          → T (Ever S enough room q (cs ++ (c ∷ ds)) m)
      unfolding holds
      joins z (inr r) =
          ever_more S cs (c ∷ ds) (fresh S) q m
          (subst (λ (n : ℕ). T (Ever S enough room q cs n)) M.caller.name
          (subst T (sym (D.member M.slot M.caller.inside writes))
          (g.sets_good.holds_hidden x M.slot s M.known (or_right (holds_shared (lock G.locks x) M.slot) _ r.2) z)))
      joins z (inl r) =
          ever_more'
          (subst (λ (d : Call). T (in_set S (step S d G).after q m)) (sym r.0)
          (read-joins (subst (λ (d : Call). (step S d G).answer.code ≡ granted) r.0 r.1) z))
        where
          -- it was in the set after the call
          ever_more' : T (in_set S (step S c G).after q m) → T (Ever S enough room q (cs ++ (c ∷ ds)) m)
          ever_more' w =
              subst (λ (es : List Call). T (Ever S enough room q es m)) (append_assoc cs (c ∷ []) ds)
              (ever_more S (cs ++ (c ∷ [])) ds (fresh S) q m (subst T (sym (ever_one S cs c (fresh S) q m)) (or_right (Ever S enough room q cs m) _ w)))

          read-joins : (step S (Read m x) G).answer.code ≡ granted → T (bit (hidden_now S G.versions x) s) → T (in_set S (step S (Read m x) G).after q m)
          read-joins e w = →in-set S G' q m record_of
            where
              G' : Tables
              G' = (step S (Read m x) G).after

              b : ℕ
              b = M.slot

              rows : (r : ℕ) → Row (seen S G) (seen S (step S (Read m x) G).after) r
              rows = read-rows (Read m x) m x (run-known S enough room cs).0 (run-known S enough room cs).1 refl e

              s_live : T (live_relaxed (txn (step S (Read m x) G).after.txns s))
              s_live =
                  live-relaxed (txn G'.txns s) ((rows s).lives_on (D.caller.inside, D.caller.alive)).1 ((rows s).kind_is ∙ (relaxed-live (txn G.txns s) D.relaxed).1)

              b_live : T (live (txn (step S (Read m x) G).after.txns M.slot))
              b_live = ((rows b).lives_on (M.caller.inside, M.caller.alive)).1

              b_writes : T (live_update (txn (step S (Read m x) G).after.txns M.slot))
              b_writes = live-update (txn G'.txns b) b_live ((rows b).kind_is ∙ (update-live (txn G.txns b) writes).1)

              record_of : Joined S (step S (Read m x) G).after q m
              record_of =
                  record {
                    slot = s;
                    other = b;
                    slot_inside = D.caller.inside;
                    other_inside = M.caller.inside;
                    relaxed = s_live;
                    query = (rows s).number_is ∙ D.caller.name;
                    alive = b_live;
                    number = (rows b).number_is ∙ M.caller.name;
                    member =
                        (joins_exactly S enough (Read m x) G b s g M.caller.inside D.caller.inside writes b_writes).1
                        (inr (inr (inr (shared_lock, x, record { inside = M.caller.inside; alive = M.caller.alive; named = sym M.caller.name }, (refl, refl), e, w))));
                  }

    closed_so : T (is_relaxed q (happenings S (cs ++ (c ∷ ds)))) → T (some (eqb m) (committed_outside S (cs ++ (c ∷ ds)) q)) → T (some (eqb u) (committed_outside S (cs ++ (c ∷ ds)) q))
    unfolding hidden_now committed_outside until
    closed_so r h = go (phase S enough room q cs)
      where
        d : ℕ
        d = stamp_at (versions_of S G.versions M.item) M.place

        go : PhaseOf S enough room q cs → T (some (eqb u) (committed_outside S (cs ++ (c ∷ ds)) q))
        go (before B) =
            let i = (B.common.low u d M.creator).1 in
            contained (subst (λ (l : List Happening). T (some (eqb u) (all_of committer l))) (sym (until_all q (happenings S cs) B.unended)) i)
            (stays_out S enough room q cs (c ∷ ds) u (B.common.dead u i) ∙ B.none u)
        go (during s D) =
            let i = (D.common.low u d M.creator).1 in
            contained (subst (λ (l : List Happening). T (some (eqb u) (all_of committer l))) (sym (until_all q (happenings S cs) D.unended)) i)
            (stays_out S enough room q cs (c ∷ ds) u (D.common.dead u i)
            ∙ is_false (Ever S enough room q cs u)
            (λ z.
            member_out h
            (joins s D
            (subst (λ (k : ℕ). T (bit (hidden_at (versions_of S G.versions M.item) k) s)) (newest_met s D M.meets)
            (subst T (D.hidden M.item M.place u M.known M.there M.creator) z))
            M.meets)))
        go (over O) = absurd ((O.dead m member).nobody M.slot (M.caller.inside, M.caller.alive) M.caller.name)
          where
            stopped : until_end q (happenings S (cs ++ (c ∷ ds))) ≡ until_end q (happenings S cs)
            stopped = over-until S enough room q cs (c ∷ ds) O.over

            member : T (some (eqb m) (all_of committer (until_end q (happenings S cs))))
            member = subst (λ (l : List Happening). T (some (eqb m) (all_of committer l))) stopped (in_those _ m _ h).0
        go (else E) = absurd (false_is (else_run S enough room q cs (c ∷ ds) E) r)

  serial_so : (cs : List Call) → T (is_relaxed q (happenings S cs)) → SerializesRelaxed S cs q
  unfolding until committed_outside outside_by_stamp outside alone
  serial_so cs r =
      record {
        reads =
            to_agrees S.items (log_of (until_end q (happenings S cs)) q) _ _ (as_list S enough room q cs (kept (Ever S enough room q cs) (until_end q (happenings S cs)))) (named_so S enough room q cs q) (reads_so S enough room q cs r);
        reads_by_stamp =
            to_agrees S.items (log_of (until_end q (happenings S cs)) q) _ _ (as_list S enough room q cs (by_stamp (Ever S enough room q cs) (until_end q (happenings S cs))))
            (named_so S enough room q cs q) (stamp-reads S enough room q cs r);
        closed = λ before after c m u e h M.
            subst (λ (es : List Call). T (some (eqb u) (committed_outside S es q))) (sym e)
            (closed_so before after c m u M (subst (λ (es : List Call). T (is_relaxed q (happenings S es))) e r) (subst (λ (es : List Call). T (some (eqb m) (committed_outside S es q))) e h));
      }

pub relaxed-serial : (S : Sizes) → S.slots ≤ S.places → 1 ≤ S.places → RelaxedSerial S
relaxed-serial S enough room cs q r = serial_so S enough room q cs r
