-- Request E11: a call while a relaxed query lives, and its end.
use Prim.Native.Nat.{ℕ, zero, suc, ◌+◌, ◌≤◌, ◌<◌}
use mathlib.Core.Path.{◌≡◌, refl, sym, ap, ◌∙◌, subst}
use mathlib.Core.Logic.{◌≢◌, ◌⊎◌, inl, inr}
use mathlib.Core.Bool.{Bool, true, false, ◌||◌, not, cond}
use mathlib.Core.List.{List, [], ◌∷◌, ◌++◌, append-nil}
use native.Mathlib.Omega.{arith}
use lib.ListN.{length}
use lib.Dec.{T, eqb, eqb→eq}
use borrow.Author.Tests.{eq-eqb}
use Rattle.names.specs.declared.Sizes.{Sizes}
use Rattle.rules.specs.Words.{some, bit}
use Rattle.rules.specs.Tables.{Tables, clock, txn, live, live_update, live_relaxed, a_query, lock, holds_exclusive}
use Rattle.rules.specs.Versions.{versions_of, stamp_at, hidden_at}
use Rattle.rules.specs.Good.{Good}
use Rattle.rules.specs.Answers.{Call, Read, granted}
use Rattle.rules.specs.Step.{step}
use Rattle.rules.specs.Conditions.{Caller}
use Rattle.rules.proofs.Tests.{and_left, and_right, and_both, or_cases, or_right, iff_eq, is_false, true_is, false_is, eq_make, same?}
use Rattle.rules.proofs.RowKinds.{relaxed-live, live-relaxed, update-live, live-update, relaxed-query, holder_no_query}
use Rattle.rules.proofs.Keeps.{keeps}
use Rattle.rules.proofs.Sets.{joins_exactly}
use Rattle.history.specs.Happened.{SoFar, Access, got, Happening, only_ended, happened, all_of}
use Rattle.history.specs.Serial.{Entry, access_of, granted_to, one_by_one}
use Rattle.history.specs.Relaxed.{in_set, until_end, ends_it, committer, those, commits_under, committed_under}
use Rattle.history.proofs.Plain.{Array, zeros, agrees, final}
use Rattle.history.proofs.Replay.{Within, within-map, within-append, within-got, local_agrees, agrees-append, agrees-got}
use Rattle.history.proofs.Invariant.{Inv, Row, update}
use Rattle.history.proofs.Turns.{Turn}
use Rattle.history.proofs.Marked.{Known}
use Rattle.history.proofs.Leaving.{shown_of}
use Rattle.history.proofs.Seen.{seen, seen_fair}
use Rattle.history.proofs.Happens.{step_turn}
use Rattle.history.proofs.Standing.{Unknown}
use Rattle.history.proofs.RelaxedMoves.{Shift, quiet, stamped, step-moved}
use Rattle.history.proofs.RelaxedItems.{Items, items-step, told-read}
use Rattle.history.proofs.RelaxedLists.{or_none, ended, ended-append, ended_one, until_open, under_append, under_one, those-same}
use Rattle.history.proofs.RelaxedTurns.{one_in, Effect, none, one, empty, effect, committed-unknown, was-update, lives, Does, nought, gets, does}
use Rattle.history.proofs.RelaxedPhase.{Joined, in-set→, →in-set, query-unknown, kept, log_of, array_of, During, Phase, during, over}
use Rattle.history.proofs.RelaxedPhase.{log_more, dead_on, common_on, array_none, array_one, never_joins}

module _
    (S : Sizes) (enough : S.slots ≤ S.places) (q : ℕ) (c : Call) (G : Tables) (g : Good S G) (us : SoFar) (K : Known S.items us (seen S G))
    (hs : List Happening) (ever : ℕ → Bool) (es : List Entry) (J : Inv S.items es (log_of hs) (seen S G)) (s : ℕ) (D : During S q G hs ever s)
  where
    abbrev G' : Tables
    G' = (step S c G).after

    g' : Good S (step S c G).after
    g' = keeps S enough c G g

    abbrev h : Happening
    h = happened us c (step S c G).answer

    abbrev t : Turn S.items (seen S G) (seen S G') c h
    t = step_turn S enough c G g us K

    abbrev ever' : ℕ → Bool
    ever' u = ever u || in_set S G' q u

    abbrev Next : Type 0
    Next = Phase S q G' (hs ++ (h ∷ [])) ever'

    i : s < S.slots
    i = D.caller.inside

    -- what has no stamp above the clock
    stamp-low : (x k : ℕ) → x < S.items → k < length (versions_of S G.versions x) → stamp_at (versions_of S G.versions x) k ≤ clock G.txns
    unfolding versions_of
    stamp-low x zero j l = (g.versions_good x j).first
    stamp-low x (suc k) j l = let a = (g.versions_good x j).fall 0 (suc k) (omega arith) l in let b = (g.versions_good x j).first in omega arith

    -- the query holds nothing
    holds-nothing : (x : ℕ) → x < S.items → holds_exclusive (lock G.locks x) s ≡ false
    holds-nothing x j =
        is_false (holds_exclusive (lock G.locks x) s)
        (λ w. holder_no_query (txn G.txns s) ((g.lock_good x j).excluders s w).1 (relaxed-query (txn G.txns s) D.relaxed))

    -- its log leaves every array as it is
    changes-nothing : (a : Array) (x : ℕ) → x < S.items → final (log_of hs q) a x ≡ a x
    changes-nothing a x j =
        ap (λ (n : ℕ). final (log_of hs n) a x) (sym D.caller.name)
        ∙ (J.slots s (i, D.caller.alive)).ends (λ z. let k = (relaxed-live (txn G.txns s) D.relaxed).1 in omega arith) a x j
        ∙ ap (λ (b : Bool). cond b (lock G.locks x).working (a x)) (holds-nothing x j)

    log_so : (n : ℕ) → access_of n h ≡ [] → log_of (hs ++ (h ∷ [])) n ≡ log_of hs n
    log_so n e = log_more S q G G' g g' h t hs ever D.common n ∙ ap (λ (l : List Access). granted_to n hs ++ l) e ∙ append-nil (granted_to n hs)

    -- ---- it lives on
    module _ (R : Row (seen S G) (seen S (step S c G).after) s) (going : ends_it q h ≡ false) where
      alive : T (live (txn G'.txns s))
      alive = (R.lives_on (i, D.caller.alive)).1

      relaxed' : T (live_relaxed (txn (step S c G).after.txns s))
      relaxed' = live-relaxed (txn G'.txns s) alive (R.kind_is ∙ (relaxed-live (txn G.txns s) D.relaxed).1)

      name' : (txn (step S c G).after.txns s).number ≡ q
      name' = R.number_is ∙ D.caller.name

      shift : Shift S G (step S c G).after s h
      shift =
          let M = step-moved S enough G g s i D.relaxed c in
          subst (λ (k : Happening). Shift S G G' s k) (sym (M.0.begun us K)) (M.1 relaxed')

      noted : Items S enough G g q s D.caller D.relaxed c (step S c G)
      noted = items-step S enough G g q s D.caller D.relaxed c relaxed'

      -- whoever has its number is it; and two slots never have the same
      one_slot : (a b : ℕ) → a < S.slots → b < S.slots → T (live (txn G'.txns b)) → (txn G'.txns a).number ≡ (txn G'.txns b).number → a ≡ b
      one_slot a b x y l e = go (same? a b)
        where
          go : (a ≡ b) ⊎ (a ≢ b) → a ≡ b
          go (inl z) = z
          go (inr d) = absurd (g'.distinct a b x y d l e)

      -- ---- who writes has the bit exactly if it is in the set
      member_on :
          (b : ℕ) → b < S.slots → T (live_update (txn G'.txns b))
          → (ever (txn G'.txns b).number || in_set S (step S c G).after q (txn G'.txns b).number) ≡ bit (txn G'.txns b).later_for s
      member_on b x u = iff_eq _ _ (λ z. to (or_cases (ever n) _ z)) (λ z. or_right (ever n) _ (→in-set S G' q n (mine z)))
        where
          n : ℕ
          n = (txn G'.txns b).number

          l : T (live (txn G'.txns b))
          l = (update-live (txn G'.txns b) u).0

          mine : T (bit (txn G'.txns b).later_for s) → Joined S G' q n
          mine z =
              record {
                slot = s;
                other = b;
                slot_inside = i;
                other_inside = x;
                relaxed = relaxed';
                query = name';
                alive = l;
                number = refl;
                member = z;
              }

          old : T (ever n) → ((n ≡ (seen S G).number b) × update (seen S G) b) ⊎ (n ≡ (seen S G).last + 1) → T (bit (txn G'.txns b).later_for s)
          old e (inl o) =
              let v = live-update (txn G.txns b) o.1.0.1 o.1.1 in
              (joins_exactly S enough c G b s g x i v u).1 (inl (subst T (D.member b x v) (subst (λ (j : ℕ). T (ever j)) o.0 e), relaxed'))
          old e (inr o) = absurd (let k = D.common.given n e in omega arith)

          to : T (ever n) ⊎ T (in_set S G' q n) → T (bit (txn G'.txns b).later_for s)
          to (inl e) = old e (was-update S.items (seen S G) (seen S G') (seen_fair S G g) b t ((x, l), (update-live (txn G'.txns b) u).1))
          to (inr e) =
              let j = in-set→ S G' q n e in
              let a = one_slot j.slot s j.slot_inside i alive (j.query ∙ sym name') in
              let r = one_slot j.other b j.other_inside x l j.number in
              subst (λ (m : ℕ). T (bit (txn G'.txns m).later_for s)) r (subst (λ (m : ℕ). T (bit (txn G'.txns j.other).later_for m)) a j.member)

      -- who commits is in the set exactly if it had the bit
      committer_in : (n b : ℕ) → Caller S G n b → T (live_update (txn G.txns b)) → T (some (eqb n) (committer h)) → ever' n ≡ bit (txn G.txns b).later_for s
      committer_in n b C u m =
          never_joins S q G G' g g' h t hs ever D.common n (committed-unknown S.items (seen S G) (seen S G') (seen_fair S G g) n t m)
          ∙ ap ever (sym C.name) ∙ D.member b C.inside u

      -- ---- a version has it exactly if its creator is
      hidden_on :
          (x k u : ℕ) → x < S.items → k < length (versions_of S G'.versions x) → T (committed_under u (stamp_at (versions_of S G'.versions x) k) (hs ++ (h ∷ [])))
          → ever' u ≡ bit (hidden_at (versions_of S G'.versions x) k) s
      unfolding commits_under committer
      hidden_on x k u j l m = go h refl shift (or_cases (committed_under u d hs) _ (subst T (under_append u d hs (h ∷ []) ∙ ap (λ (b : Bool). committed_under u d hs || b) (under_one u d h)) m))
        where
          d : ℕ
          d = stamp_at (versions_of S G'.versions x) k

          B : Bool
          B = bit (hidden_at (versions_of S G'.versions x) k) s

          -- one that was there
          was :
              (p : ℕ) → p < length (versions_of S G.versions x) → d ≡ stamp_at (versions_of S G.versions x) p
              → B ≡ bit (hidden_at (versions_of S G.versions x) p) s → T (committed_under u d hs) → ever' u ≡ B
          was p pl e f z =
              never_joins S q G G' g g' h t hs ever D.common u (dead_on S q G G' g g' h t hs ever D.common u (D.common.low u d z).1)
              ∙ D.hidden x p u j pl (subst (λ (y : ℕ). T (committed_under u y hs)) e z) ∙ sym f

          go : (y : Happening) → h ≡ y → Shift S G G' s y → T (committed_under u d hs) ⊎ T (commits_under u d h) → ever' u ≡ B
          go y e (quiet f a o) (inl z) = let r = o x k j l in was r.0 r.1 r.2 r.3 z
          go y e (quiet f a o) (inr z) = absurd (false_is (ap (commits_under u d) e ∙ f u d) z)
          go y e (stamped n b C v a f o) z = at (o x k j l) z
            where
              is_now : T (commits_under u d h) → (n ≡ u) × (clock G.txns + 1 ≡ d)
              is_now w =
                  let r = subst (λ (p : Happening). T (commits_under u d p)) e w in
                  (eqb→eq n u (and_left (eqb n u) _ r), eqb→eq (clock G.txns + 1) d (and_right (eqb n u) _ r))

              at :
                  ((p : ℕ) × (p < length (versions_of S G.versions x)) × (d ≡ stamp_at (versions_of S G.versions x) p) × (B ≡ bit (hidden_at (versions_of S G.versions x) p) s))
                  ⊎ ((d ≡ clock G.txns + 1) × (B ≡ bit (txn G.txns b).later_for s))
                  → T (committed_under u d hs) ⊎ T (commits_under u d h) → ever' u ≡ B
              at (inl r) (inl w) = was r.0 r.1 r.2 r.3 w
              at (inl r) (inr w) = absurd (let k = stamp-low x r.0 j r.1 in let y = r.2 in let z = (is_now w).1 in omega arith)
              at (inr r) (inl w) = absurd (let k = (D.common.low u d w).0 in let y = r.0 in omega arith)
              at (inr r) (inr w) =
                  ap ever' (sym (is_now w).0)
                  ∙ committer_in n b C v (subst (λ (p : Happening). T (some (eqb n) (committer p))) (sym e) (one_in n)) ∙ sym r.1

      -- ---- what it has read it is shown as before
      shown-kept : (x : ℕ) → x < S.items → T (bit (txn G.txns s).items_read x) → shown_of S G'.versions s x ≡ shown_of S G.versions s x
      shown-kept x j b = go h shift
        where
          go : (y : Happening) → Shift S G G' s y → shown_of S G'.versions s x ≡ shown_of S G.versions s x
          go y (quiet f a o) = a x j
          go y (stamped n r C v a f o) = split (bit (txn G.txns r).later_for s) refl
            where
              split : (z : Bool) → bit (txn G.txns r).later_for s ≡ z → shown_of S G'.versions s x ≡ shown_of S G.versions s x
              split true e = a (true_is e) x j
              split false e =
                  f (false_is e) x j
                  ∙ ap (λ (z : Bool). cond z (lock G.locks x).working (shown_of S G.versions s x))
                  (is_false (holds_exclusive (lock G.locks x) r) (λ w. false_is e (g.sets_good.holds_read x r s j i w b)))

      -- ---- what it is shown is what those leave who committed outside
      now_on : (x : ℕ) → x < S.items → array_of ever' (hs ++ (h ∷ [])) x ≡ shown_of S G'.versions s x
      now_on x j = go h refl shift (effect S.items (seen S G) (seen S G') (seen_fair S G g) t)
        where
          A : Array
          A = array_of ever hs

          Goal : Type 0
          Goal = array_of ever' (hs ++ (h ∷ [])) x ≡ shown_of S G'.versions s x

          -- with one who commits
          with_one : (n : ℕ) (y : Happening) → h ≡ y → committer y ≡ n ∷ [] → array_of ever' (hs ++ (h ∷ [])) ≡ cond (not (ever' n)) (final (granted_to n (hs ++ (h ∷ []))) A) A
          with_one n y e f = array_one S q G G' g g' h t hs ever D.common n (ap committer e ∙ f)

          -- what it does, in slot b
          ends_so :
              (n b : ℕ) (y : Happening) → h ≡ y → access_of n y ≡ [] → (txn G.txns b).number ≡ n → (b < S.slots) × T (live (txn G.txns b)) → (txn G.txns b).kind ≢ a_query
              → final (granted_to n (hs ++ (h ∷ []))) A x ≡ cond (holds_exclusive (lock G.locks x) b) (lock G.locks x).working (A x)
          ends_so n b y e f m l k =
              ap (λ (z : List Access). final z A x) (log_so n (ap (access_of n) e ∙ f) ∙ ap (λ (p : ℕ). granted_to p hs) (sym m)) ∙ (J.slots b l).ends k A x j

          go : (y : Happening) → h ≡ y → Shift S G G' s y → Effect S.items (seen S G) (seen S G') (seen_fair S G g) y → Goal
          go y e (quiet f a o) (none z cur) =
              ap (λ (p : Array). p x) (array_none S q G G' g g' h t hs ever D.common (ap committer e ∙ z)) ∙ D.now x j ∙ sym (a x j)
          go y e (quiet f a o) (one n b d m l k cur) =
              absurd (false_is (f n d) (unfold commits_under in and_both (eqb n n) _ (eq_make n n refl) (eq_make d d refl)))
          go y e (quiet f a o) (empty n b d m l k w cur) =
              ap (λ (p : Array). p x) (with_one n y e (unfold committer in refl)) ∙ either (not (ever' n)) ∙ D.now x j ∙ sym (a x j)
            where
              either : (z : Bool) → cond z (final (granted_to n (hs ++ (h ∷ []))) A) A x ≡ A x
              either true = ends_so n b y e (unfold access_of in refl) m l k ∙ ap (λ (z : Bool). cond z (lock G.locks x).working (A x)) (w x j)
              either false = refl
          go y e (stamped n b C v a f o) (none z cur) =
              absurd (unfold some committer in subst (λ (p : List ℕ). T (some (eqb n) p)) z (one_in n))
          go y e (stamped n b C v a f o) (one n' b' d m l k cur) =
              ap (λ (p : Array). p x) (with_one n y e (unfold committer in refl))
              ∙ ap (λ (z : Bool). cond (not z) (final (granted_to n (hs ++ (h ∷ []))) A) A x)
              (committer_in n b C v (subst (λ (p : Happening). T (some (eqb n) (committer p))) (sym e) (unfold committer in one_in n)))
              ∙ split (bit (txn G.txns b).later_for s) refl
            where
              split : (z : Bool) → bit (txn G.txns b).later_for s ≡ z → cond (not z) (final (granted_to n (hs ++ (h ∷ []))) A) A x ≡ shown_of S G'.versions s x
              split true w = D.now x j ∙ sym (a (true_is w) x j)
              split false w =
                  ends_so n b y e (unfold access_of in refl) C.name (C.inside, C.alive) (λ z. let p = (update-live (txn G.txns b) v).1 in omega arith)
                  ∙ ap (cond (holds_exclusive (lock G.locks x) b) (lock G.locks x).working) (D.now x j) ∙ sym (f (false_is w) x j)

      -- ---- its log
      old_reads : Within (λ x. (x < S.items) × T (bit (txn G'.txns s).items_read x)) (log_of hs q) × T (agrees (log_of hs q) (shown_of S G'.versions s))
      old_reads = (
        within-map _ _ (λ x w. (w.0, noted.kept x w.1)) (log_of hs q) D.read,
        local_agrees (λ x. (x < S.items) × T (bit (txn G.txns s).items_read x)) (log_of hs q) (shown_of S G.versions s) (shown_of S G'.versions s)
            (λ x w. sym (shown-kept x w.0 w.1)) D.read D.agree,
      )

      reads_on :
          Within (λ x. (x < S.items) × T (bit (txn G'.txns s).items_read x)) (log_of (hs ++ (h ∷ [])) q)
          × T (agrees (log_of (hs ++ (h ∷ [])) q) (shown_of S G'.versions s))
      unfolding happened
      reads_on =
          go h refl shift
          (does S.items (seen S G) (seen S G') (seen_fair S G g) q s ((i, D.caller.alive), (relaxed-live (txn G.txns s) D.relaxed).1) D.caller.name t)
        where
          Out : Type 0
          Out =
              Within (λ x. (x < S.items) × T (bit (txn G'.txns s).items_read x)) (log_of (hs ++ (h ∷ [])) q)
              × T (agrees (log_of (hs ++ (h ∷ [])) q) (shown_of S G'.versions s))

          go :
              (y : Happening) → h ≡ y → Shift S G G' s y
              → Does S.items (seen S G) (seen S G') (seen_fair S G g) q s ((i, D.caller.alive), (relaxed-live (txn G.txns s) D.relaxed).1) D.caller.name y → Out
          go y e z (nought f) = subst (λ (l : List Access). Within (λ x. (x < S.items) × T (bit (txn G'.txns s).items_read x)) l × T (agrees l (shown_of S G'.versions s))) (sym (log_so q (ap (access_of q) e ∙ f))) old_reads
          go y e (quiet f a o) (gets x v j is) =
              subst (λ (l : List Access). Within (λ x. (x < S.items) × T (bit (txn G'.txns s).items_read x)) l × T (agrees l (shown_of S G'.versions s))) (sym more) (
                within-append _ (log_of hs q) (got x v ∷ []) old_reads.0 (within-got _ x v (j, noted.read x called.0 called.1)),
                agrees-append (log_of hs q) (got x v ∷ []) (shown_of S G'.versions s) old_reads.1
                    (agrees-got (final (log_of hs q) (shown_of S G'.versions s)) x v (changes-nothing (shown_of S G'.versions s) x j ∙ a x j ∙ sym is)),
              )
            where
              called : (c ≡ Read q x) × ((step S c G).answer.code ≡ granted)
              called = told-read q x v _ _ c (step S c G).answer e

              more : log_of (hs ++ (h ∷ [])) q ≡ log_of hs q ++ (got x v ∷ [])
              more =
                  log_more S q G G' g g' h t hs ever D.common q
                  ∙ ap (λ (l : List Access). granted_to q hs ++ l) (ap (access_of q) e ∙ unfold access_of in ap (λ (b : Bool). cond b (got x v ∷ []) []) (eq-eqb q q refl))

      pub lives_step : Next
      lives_step =
          during s
          (record {
            common = common_on S q G G' g g' h t hs ever D.common;
            caller = record { inside = i; alive = alive; name = name' };
            relaxed = relaxed';
            unended = ended-append q hs (h ∷ []) ∙ ap (λ (b : Bool). b || ended q (h ∷ [])) D.unended ∙ ended_one q h ∙ going;
            member = member_on;
            hidden = hidden_on;
            now = now_on;
            read = reads_on.0;
            agree = reads_on.1;
          })

    -- ---- it ends
    ends-step : h ≡ only_ended q → Unknown q (seen S G') → Next
    unfolding ends_it until_end
    ends-step e U =
        over
        (record {
          over = ended-append q hs (h ∷ []) ∙ ap (λ (b : Bool). b || ended q (h ∷ [])) D.unended ∙ ended_one q h ∙ ap (ends_it q) e ∙ eq-eqb q q refl;
          unknown = U;
          dead = λ u m. dead_on S q G G' g g' h t hs ever D.common u (subst (λ (l : List Happening). T (some (eqb u) (all_of committer l))) same m);
          named = subst (λ (l : List Happening). Within (λ x. x < S.items) (log_of l q)) (sym same) (within-map _ _ (λ x w. w.0) (log_of hs q) D.read);
          agree =
              subst (λ (l : List Happening). T (agrees (log_of l q) (array_of ever' l))) (sym same)
              (subst (λ (ns : List ℕ). T (agrees (log_of hs q) (final (one_by_one (log_of hs) ns) zeros))) (sym outside-same)
              (local_agrees (λ x. x < S.items) (log_of hs q) (shown_of S G.versions s) (array_of ever hs) (λ x j. sym (D.now x j)) (within-map _ _ (λ x w. w.0) (log_of hs q) D.read) D.agree));
        })
      where
        stop : until_end q (h ∷ []) ≡ []
        stop = ap (λ (b : Bool). cond b [] (h ∷ [])) (ap (ends_it q) e ∙ eq-eqb q q refl)

        same : until_end q (hs ++ (h ∷ [])) ≡ hs
        same = until_open q hs (h ∷ []) D.unended ∙ ap (λ (l : List Happening). hs ++ l) stop ∙ append-nil hs

        outside-same : kept ever' hs ≡ kept ever hs
        outside-same =
            those-same (λ n. not (ever' n)) (λ n. not (ever n)) (all_of committer hs)
            (λ n m. ap not (or_none (ever n) (in_set S G' q n) (query-unknown S G' q n U)))

    pub during_step : Next
    during_step =
        go (lives S.items (seen S G) (seen S G') (seen_fair S G g) q s ((i, D.caller.alive), (relaxed-live (txn G.txns s) D.relaxed).1) D.caller.name t)
      where
        go : (Row (seen S G) (seen S G') s × (ends_it q h ≡ false)) ⊎ ((h ≡ only_ended q) × Unknown q (seen S G')) → Next
        go (inl w) = lives_step w.0 w.1
        go (inr w) = ends-step w.0 w.1
