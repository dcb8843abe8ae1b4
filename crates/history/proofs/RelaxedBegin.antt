-- Request E11: a call before a relaxed query begins, its begin, and the calls after its end.
use Prim.Native.Nat.{ℕ, ◌+◌, ◌≤◌, ◌<◌}
use mathlib.Core.Path.{◌≡◌, refl, sym, ap, ◌∙◌, subst}
use mathlib.Core.Logic.{◌≢◌, ◌⊎◌, inl, inr}
use mathlib.Core.Bool.{Bool, true, false, ◌||◌, not, cond}
use mathlib.Core.List.{List, [], ◌∷◌, ◌++◌, append-nil}
use native.Mathlib.Omega.{arith}
use lib.ListN.{length, get_or}
use lib.Dec.{T, eqb}
use Rattle.names.specs.declared.Sizes.{Sizes}
use Rattle.rules.specs.Words.{some, bit}
use Rattle.rules.specs.Tables.{Tables, last_number, txn, live, live_update, live_relaxed, an_update, outside}
use Rattle.rules.specs.Versions.{Version, no_version, versions_of, newest, hidden_at, sees, place, choice}
use Rattle.rules.specs.Good.{Good}
use Rattle.rules.specs.Answers.{Call, BeginRelaxed}
use Rattle.rules.specs.Step.{step}
use Rattle.rules.specs.Conditions.{Names}
use Rattle.rules.specs.Promises.{OldVersion, NewVersion, AsksToWriteRead, QueryReadsHeld, MeetsHidden}
use Rattle.rules.proofs.Tests.{is_true, is_false, false_is, not_make, same?}
use Rattle.rules.proofs.Bits.{bit_none}
use Rattle.rules.proofs.RowKinds.{relaxed-live, live-relaxed, update-live, live-update}
use Rattle.rules.proofs.Choice.{choice_hit}
use Rattle.rules.proofs.Keeps.{keeps}
use Rattle.rules.proofs.Sets.{joins_exactly}
use Rattle.rules.proofs.VersionsCome.{versions_come}
use Rattle.history.specs.Happened.{SoFar, Access, Happening, happened, all_of}
use Rattle.history.specs.Serial.{Entry, access_of, granted_to, one_by_one}
use Rattle.history.specs.Relaxed.{in_set, until_end, committer, ends_it, began_relaxed, is_relaxed}
use Rattle.history.proofs.Plain.{Array, zeros, agrees, final}
use Rattle.history.proofs.Replay.{Within, within_none}
use Rattle.history.proofs.Invariant.{Inv, relaxed}
use Rattle.history.proofs.Turns.{Turn, New}
use Rattle.history.proofs.Marked.{Known}
use Rattle.history.proofs.Leaving.{shown_of}
use Rattle.history.proofs.Seen.{seen, seen_fair}
use Rattle.history.proofs.Happens.{step_turn}
use Rattle.history.proofs.Standing.{Unknown, unknown_on}
use Rattle.history.proofs.RelaxedItems.{told_begin}
use Rattle.history.proofs.RelaxedLists.{or_none, ended, ended-append, ended_one, until-over, relaxed-append, relaxed_one, those-same}
use Rattle.history.proofs.RelaxedTurns.{Effect, none, one, empty, effect, grows, was-update, Begins, later, now, else as otherwise, begins, begun-before}
use Rattle.history.proofs.RelaxedPhase.{in-set→, query-unknown, query_unborn, kept, log_of, array_of, Before, Over, Else, Phase, before, during, over, else}
use Rattle.history.proofs.RelaxedPhase.{log_more, common_on, array_none, array_one}

-- a row whose first version is not hidden from the query shows it the newest
first-shown : (s : ℕ) (vs : List Version) → bit (hidden_at vs 0) s ≡ false → choice (outside s) vs ≡ get_or vs 0 no_version
unfolding hidden_at
first-shown s [] e = unfold choice place in refl
first-shown s (v ∷ vs) e = choice_hit (outside s) v vs (unfold sees in is_true _ (not_make (bit v.hidden s) (false_is e)))

module _
    (S : Sizes) (enough : S.slots ≤ S.places) (q : ℕ) (c : Call) (G : Tables) (g : Good S G) (us : SoFar) (K : Known S.items us (seen S G))
    (hs : List Happening) (ever : ℕ → Bool)
  where
    abbrev G' : Tables
    G' = (step S c G).after

    g' : Good S (step S c G).after
    g' = keeps S enough c G g

    abbrev h : Happening
    h = happened us c (step S c G).answer

    abbrev t : Turn S.items (seen S G) (seen S G') c h
    t = step_turn S enough c G g us K

    abbrev ever' : ℕ → Bool
    ever' u = ever u || in_set S G' q u

    abbrev Next : Type 0
    Next = Phase S q G' (hs ++ (h ∷ [])) ever'

    both_false : (a b : Bool) → a ≡ false → b ≡ false → (a || b) ≡ false
    both_false a b e f = ap (λ (z : Bool). z || b) e ∙ f

    unborn_on : is_relaxed q hs ≡ false → began_relaxed q h ≡ false → is_relaxed q (hs ++ (h ∷ [])) ≡ false
    unborn_on a b = relaxed-append q hs (h ∷ []) ∙ both_false _ _ a (relaxed_one q h ∙ b)

    unended_on : ended q hs ≡ false → ends_it q h ≡ false → ended q (hs ++ (h ∷ [])) ≡ false
    unended_on a b = ended-append q hs (h ∷ []) ∙ both_false _ _ a (ended_one q h ∙ b)

    -- ---- no relaxed query has that number
    pub else_step : Else S q G hs → Else S q G' (hs ++ (h ∷ []))
    else_step E =
        record {
          unborn = unborn_on E.unborn (begun-before S.items (seen S G) (seen S G') (seen_fair S G g) q E.given t);
          given = let a = E.given in let b = (grows S.items (seen S G) (seen S G') (seen_fair S G g) t).0 in omega arith;
        }

    -- ---- it has ended
    pub over-step : Over S q G hs ever → Next
    over-step O =
        over
        (record {
          over = ended-append q hs (h ∷ []) ∙ ap (λ (b : Bool). b || ended q (h ∷ [])) O.over;
          unknown = gone;
          dead = λ u m. dead u (subst (λ (l : List Happening). T (some (eqb u) (all_of committer l))) same m);
          named = subst (λ (l : List Happening). Within (λ x. x < S.items) (log_of l q)) (sym same) O.named;
          agree =
              subst (λ (l : List Happening). T (agrees (log_of l q) (array_of ever' l))) (sym same)
              (subst (λ (ns : List ℕ). T (agrees (log_of (until_end q hs) q) (final (one_by_one (log_of (until_end q hs)) ns) zeros))) (sym outside-same) O.agree);
        })
      where
        same : until_end q (hs ++ (h ∷ [])) ≡ until_end q hs
        same = until-over q hs (h ∷ []) O.over

        gone : Unknown q (seen S G')
        gone = unknown_on S.items (seen S G) (seen S G') q t O.unknown

        dead : (u : ℕ) → T (some (eqb u) (all_of committer (until_end q hs))) → Unknown u (seen S G')
        dead u m = unknown_on S.items (seen S G) (seen S G') u t (O.dead u m)

        outside-same : kept ever' (until_end q hs) ≡ kept ever (until_end q hs)
        outside-same =
            those-same (λ n. not (ever' n)) (λ n. not (ever n)) (all_of committer (until_end q hs))
            (λ n m. ap not (or_none (ever n) (in_set S G' q n) (query-unknown S G' q n gone)))

    -- ---- it has not begun
    module _ (es : List Entry) (J : Inv S.items es (log_of hs) (seen S G)) (B : Before S q G hs ever) where
      -- nobody else is in its set
      none_on : last_number G'.txns < q → (u : ℕ) → (ever u || in_set S (step S c G).after q u) ≡ false
      none_on l u = both_false _ _ (B.none u) (query_unborn S G' g' q u l)

      -- the newest values are what all who committed leave
      now_on :
          Effect S.items (seen S G) (seen S G') (seen_fair S G g) h → ((u : ℕ) → ever' u ≡ false) → (x : ℕ) → x < S.items
          → array_of ever' (hs ++ (h ∷ [])) x ≡ newest S G'.versions x
      now_on E out x i = go h refl E
        where
          logged : (n : ℕ) (k : Happening) → happened us c (step S c G).answer ≡ k → access_of n k ≡ [] → granted_to n (hs ++ (h ∷ [])) ≡ granted_to n hs
          logged n k e z =
              log_more S q G G' g g' h t hs ever B.common n ∙ ap (λ (l : List Access). granted_to n hs ++ l) (ap (access_of n) e ∙ z) ∙ append-nil (granted_to n hs)

          go : (k : Happening) → happened us c (step S c G).answer ≡ k → Effect S.items (seen S G) (seen S G') (seen_fair S G g) k
              → array_of ever' (hs ++ (h ∷ [])) x ≡ newest S G'.versions x
          go k e (none f cur) =
              ap (λ (a : Array). a x) (array_none S q G G' g g' h t hs ever B.common (ap committer e ∙ f)) ∙ B.now x i ∙ sym (cur x i)
          go k e (one n b d m a kq cur) =
              ap (λ (a : Array). a x) (array_one S q G G' g g' h t hs ever B.common n (ap committer e ∙ unfold committer in refl))
              ∙ ap (λ (z : Bool). cond (not z) (final (granted_to n (hs ++ (h ∷ []))) (array_of ever hs)) (array_of ever hs) x) (out n)
              ∙ ap (λ (l : List Access). final l (array_of ever hs) x) (logged n k e (unfold access_of in refl) ∙ ap (λ (j : ℕ). granted_to j hs) (sym m))
              ∙ (J.slots b a).ends kq (array_of ever hs) x i
              ∙ ap (cond ((seen S G).writes b x) ((seen S G).working x)) (B.now x i)
              ∙ sym (cur x i)
          go k e (empty n b d m a kq w cur) =
              ap (λ (a : Array). a x) (array_one S q G G' g g' h t hs ever B.common n (ap committer e ∙ unfold committer in refl))
              ∙ ap (λ (z : Bool). cond (not z) (final (granted_to n (hs ++ (h ∷ []))) (array_of ever hs)) (array_of ever hs) x) (out n)
              ∙ ap (λ (l : List Access). final l (array_of ever hs) x) (logged n k e (unfold access_of in refl) ∙ ap (λ (j : ℕ). granted_to j hs) (sym m))
              ∙ (J.slots b a).ends kq (array_of ever hs) x i
              ∙ ap (λ (z : Bool). cond z ((seen S G).working x) (array_of ever hs x)) (w x i)
              ∙ B.now x i ∙ sym (cur x i)

      eff : Effect S.items (seen S G) (seen S G') (seen_fair S G g) h
      eff = effect S.items (seen S G) (seen S G') (seen_fair S G g) t

      -- ---- its begin
      module _
          (s : ℕ) (N : New S.items (seen S G) (seen S (step S c G).after) s) (R : relaxed (seen S (step S c G).after) s)
          (name : (txn (step S c G).after.txns s).number ≡ q) (f : committer h ≡ []) (a : (m : ℕ) → access_of m h ≡ []) (w : ends_it q h ≡ false) (b : T (began_relaxed q h))
        where
          is : c ≡ BeginRelaxed
          unfolding happened
          is = told_begin _ _ c (step S c G).answer q b

          -- nobody was in the slot
          free : T (live_relaxed (txn G.txns s)) → ⊥
          free l = N.free (R.0.0, (relaxed-live (txn G.txns s) l).0)

          nobody_names : (m : ℕ) → Names c m → ⊥
          nobody_names m z = subst (λ (d : Call). Names d m) is z

          -- so nobody is in its set
          no_member : (r : ℕ) → r < S.slots → T (live (txn G'.txns r)) → T (bit (txn G'.txns r).later_for s) → ⊥
          no_member r i l z = go (g'.txn_good r i).kind_listed
            where
              writes : T (live_update (txn G'.txns r)) → ⊥
              writes u = old (was-update S.items (seen S G) (seen S G') (seen_fair S G g) r t ((i, l), (update-live (txn G'.txns r) u).1))
                where
                  old : (((seen S G').number r ≡ (seen S G).number r) × (((seen S G).alive r) × ((seen S G).kind r ≡ an_update))) ⊎ ((seen S G').number r ≡ (seen S G).last + 1) → ⊥
                  old (inl o) = joins ((joins_exactly S enough c G r s g i R.0.0 (live-update (txn G.txns r) o.1.0.1 o.1.1) u).0 z)
                    where
                      joins :
                          (T (bit (txn G.txns r).later_for s) × T (live_relaxed (txn G'.txns s)))
                          ⊎ (AsksToWriteRead S c G r s ⊎ (QueryReadsHeld S c G r s ⊎ MeetsHidden S c G r s)) → ⊥
                      joins (inl m) = free (g.sets_good.of_relaxed r s i m.0).1
                      joins (inr (inl m)) = nobody_names (txn G.txns r).number m.1.named
                      joins (inr (inr (inl m))) = nobody_names (txn G.txns s).number m.1.named
                      joins (inr (inr (inr m))) = nobody_names (txn G.txns r).number m.2.named
                  old (inr o) =
                      g'.distinct r s i R.0.0 (λ e. let k = (update-live (txn G'.txns r) u).1 in let j = R.1 in let z : (txn G'.txns r).kind ≡ (txn G'.txns s).kind = ap (λ (m : ℕ). (txn G'.txns m).kind) e in omega arith) R.0.1
                      (o ∙ sym N.number)

              go : {k : Type 0} → k → ⊥
              go e = out (same? (txn G'.txns r).kind an_update)
                where
                  out : ((txn G'.txns r).kind ≡ an_update) ⊎ ((txn G'.txns r).kind ≢ an_update) → ⊥
                  out (inl k) = writes (live-update (txn G'.txns r) l k)
                  out (inr k) =
                      let e = (g'.txn_good r i).notes_good.only_updates (λ u. k (update-live (txn G'.txns r) u).1) in
                      false_is (bit_none s) (subst (λ (m : ℕ). T (bit m s)) e z)

          nobody : (u : ℕ) → in_set S G' q u ≡ false
          nobody u =
              is_false (in_set S G' q u)
              (λ z.
              let j = in-set→ S G' q u z in
              let e : j.slot ≡ s = at j.slot j.slot_inside (relaxed-live (txn G'.txns j.slot) j.relaxed).0 j.query in
              no_member j.other j.other_inside j.alive (subst (λ (m : ℕ). T (bit (txn G'.txns j.other).later_for m)) e j.member))
            where
              at : (r : ℕ) → r < S.slots → T (live (txn G'.txns r)) → (txn G'.txns r).number ≡ q → r ≡ s
              at r i l e = go (same? r s)
                where
                  go : (r ≡ s) ⊎ (r ≢ s) → r ≡ s
                  go (inl z) = z
                  go (inr d) = absurd (g'.distinct r s i R.0.0 d R.0.1 (e ∙ sym name))

          none_now : (u : ℕ) → (ever u || in_set S G' q u) ≡ false
          none_now u = both_false _ _ (B.none u) (nobody u)

          -- nor is a version hidden from it
          unhidden : (x k : ℕ) → x < S.items → k < length (versions_of S G'.versions x) → bit (hidden_at (versions_of S G'.versions x) k) s ≡ false
          unfolding hidden_at
          unhidden x k i l = is_false _ (λ z. go (versions_come S enough c G g x k i l) z)
            where
              v : Version
              v = get_or (versions_of S G'.versions x) k no_version

              go : OldVersion S G G' x v ⊎ NewVersion S c G x v → T (bit v.hidden s) → ⊥
              go (inl o) z =
                  free (unfold versions_of in ((g.versions_good x i).from_relaxed o.place s (unfold versions_of in ((o.hidden s).0 z).0)).1)
              go (inr o) z = nobody_names o.number (subst (λ (d : Call). Names d o.number) (sym o.commits) refl)

          empty_log : log_of (hs ++ (h ∷ [])) q ≡ []
          empty_log =
              log_more S q G G' g g' h t hs ever B.common q ∙ ap (λ (l : List Access). granted_to q hs ++ l) (a q) ∙ append-nil (granted_to q hs)
              ∙ J.unlogged q B.fresh

          shown_now : (x : ℕ) → x < S.items → shown_of S G'.versions s x ≡ newest S G'.versions x
          unfolding shown_of newest hidden_at
          shown_now x i = ap (λ (v : Version). v.value) (first-shown s (versions_of S G'.versions x) (at (versions_of S G'.versions x) (unhidden x 0 i)))
            where
              at : (vs : List Version) → (0 < length vs → bit (hidden_at vs 0) s ≡ false) → bit (hidden_at vs 0) s ≡ false
              at [] f = bit_none s
              at (v ∷ vs) f = f (omega arith)

          pub begin_step : Next
          unfolding agrees
          begin_step =
              during s
              (record {
                common = common_on S q G G' g g' h t hs ever B.common;
                caller = record { inside = R.0.0; alive = R.0.1; name = name };
                relaxed = live-relaxed (txn G'.txns s) R.0.1 R.1;
                unended = unended_on B.unended w;
                member = λ r i u. none_now (txn G'.txns r).number ∙ sym (is_false _ (no_member r i (update-live (txn G'.txns r) u).0));
                hidden = λ x k u i l m. none_now u ∙ sym (unhidden x k i l);
                now = λ x i. now_on eff none_now x i ∙ sym (shown_now x i);
                read = subst (Within _) (sym empty_log) (within_none _);
                agree = subst (λ (l : List Access). T (agrees l (shown_of S G'.versions s))) (sym empty_log) tt;
              })

      pub before-step : Next
      before-step = go (begins S.items (seen S G) (seen S G') (seen_fair S G g) q B.fresh t)
        where
          go : Begins S.items (seen S G) (seen S G') (seen_fair S G g) q h → Next
          go (later l a b) =
              before
              (record {
                common = common_on S q G G' g g' h t hs ever B.common;
                fresh = l;
                none = none_on l;
                unborn = unborn_on B.unborn a;
                unended = unended_on B.unended b;
                now = now_on eff (none_on l);
              })
          go (otherwise l a) = else (record { unborn = unborn_on B.unborn a; given = l })
          go (now s N R name f a w b z) = begin_step s N R name f a w b
