-- Request E11: in every run the orders by commit and by stamp leave the same array, of those who committed outside a relaxed query's set.
use Prim.Native.Nat.{ℕ, ◌+◌, ◌*◌, ◌≤◌, ◌<◌, ◌%◌}
use mathlib.Core.Path.{◌≡◌, refl, sym, ap, ◌∙◌, subst, fun_ext}
use mathlib.Core.Logic.{◌⊎◌, inl, inr}
use mathlib.Core.Bool.{Bool, true, false, ◌||◌, not, cond}
use mathlib.Core.List.{List, [], ◌∷◌, ◌++◌, append-nil, append_assoc}
use native.Mathlib.Omega.{arith}
use lib.ListN.{get_or}
use lib.Dec.{T, eqb}
use borrow.Author.Tests.{eq-eqb}
use Rattle.names.specs.declared.Sizes.{Sizes}
use Rattle.rules.specs.Words.{some}
use Rattle.rules.specs.Tables.{Tables, last_number, clock, txn, fresh}
use Rattle.rules.specs.Versions.{newest}
use Rattle.rules.specs.Good.{Good}
use Rattle.rules.specs.Answers.{Call}
use Rattle.rules.specs.Step.{step}
use Rattle.rules.proofs.Tests.{false_is, not_make}
use Rattle.rules.proofs.RowKinds.{relaxed-live, live-settled}
use Rattle.rules.proofs.Keeps.{keeps}
use Rattle.rules.proofs.Fresh.{fresh-good}
use Rattle.history.specs.Runs.{run, end_of}
use Rattle.history.specs.Happened.{SoFar, none_so_far, Happening, only_ended, happened, begun_with, happenings_after, happenings, all_of}
use Rattle.history.specs.Serial as lists
use Rattle.history.specs.Serial.{Entry, entries_from, order, one_by_one}
use Rattle.history.specs.Relaxed.{in_set, ends_it, until_end, committer, those, is_relaxed, until, outside, committed_outside, outside_by_stamp, alone, StampsAgree}
use Rattle.history.proofs.Plain.{Array, zeros, agrees, final}
use Rattle.history.proofs.Replay.{local_agrees}
use Rattle.history.proofs.Order.{all_map, below_all}
use Rattle.history.proofs.Invariant.{Inv, Row, settled}
use Rattle.history.proofs.Turns.{Turn, clock_on}
use Rattle.history.proofs.Marked.{Known}
use Rattle.history.proofs.Tables.{fresh-clock}
use Rattle.history.proofs.Seen.{seen, seen_fair}
use Rattle.history.proofs.Happens.{step_turn, step-known, run-good, fresh-known, nobody}
use Rattle.history.proofs.Standing.{Unknown, unknown_on}
use Rattle.history.proofs.Theorem.{run_inv}
use Rattle.history.proofs.RelaxedLists.{or_none, those-same, those_in, ended, until_all, until_open, until-over, relaxed-append, relaxed_one, ever_one}
use Rattle.history.proofs.RelaxedTurns.{Begins, later, now, else as otherwise, begins, lives}
use Rattle.history.proofs.RelaxedPhase.{query-unknown, kept, log_of, array_of, Before, During, Else, before, during, over, else}
use Rattle.history.proofs.RelaxedStamps.{by_stamp, stamp_array, clock_of, placed_so, skip_still}
use Rattle.history.proofs.RelaxedStampTurn.{nought, adds_of, alike_on}
use Rattle.history.proofs.RelaxedRun.{Ever, PhaseOf, phase, reads_so, named_so, as_list, known, h, told, there, else_more}

module _ (S : Sizes) (enough : S.slots ≤ S.places) (room : 1 ≤ S.places) (q : ℕ) where
  -- ---- the clock is told by what happened
  ticks_from :
      (cs : List Call) (us : SoFar) (G : Tables) → Good S G → Known S.items us (seen S G)
      → clock_of (clock G.txns) (happenings_after us (run S cs G)) ≡ clock (end_of S cs G).txns
  unfolding run end_of happenings_after clock_of
  ticks_from [] us G g K = refl
  ticks_from (c ∷ cs) us G g K =
      let k = happened us c (step S c G).answer in
      let G' = (step S c G).after in
      ap (λ (n : ℕ). clock_of n (happenings_after (begun_with k us) (run S cs G'))) (sym (clock_on S.items (seen S G) (seen S G') (seen_fair S G g) (step_turn S enough c G g us K)))
      ∙ ticks_from cs (begun_with k us) G' (keeps S enough c G g) (step-known S enough c G g us K)

  ticks : (cs : List Call) → clock_of 0 (happenings S cs) ≡ clock (end_of S cs (fresh S)).txns
  unfolding happenings
  ticks cs =
      ap (λ (n : ℕ). clock_of n (happenings S cs)) (sym (fresh-clock S)) ∙ ticks_from cs none_so_far (fresh S) (fresh-good S room) (fresh-known S enough room)

  abbrev Alike : List Happening → (ℕ → Bool) → Type 0
  Alike hs ever = (x : ℕ) → x < S.items → stamp_array ever hs x ≡ array_of ever hs x

  -- ---- before its begin both end in the newest values
  first_alike : (cs : List Call) → Before S q (end_of S cs (fresh S)) (happenings S cs) (Ever S enough room q cs) → Alike (happenings S cs) (Ever S enough room q cs)
  unfolding order
  first_alike cs B x i =
      ap (λ (a : Array). a x) (skip_still (log_of hs) (λ n. some (eqb n) (kept (Ever S enough room q cs) hs)) es zeros (all_map _ _ (λ p n w. in_it p n w) es (placed_so hs)) J.still)
      ∙ sym (ap (λ (ns : List ℕ). final (one_by_one (log_of hs) ns) zeros x)
      (below_all (2 * clock (end_of S cs (fresh S)).txns + 2) es (all_map _ _ (λ p n l. let a : p ≤ 2 * clock (end_of S cs (fresh S)).txns + 1 = l in omega arith) es J.most))) ∙ J.now x i ∙ sym (B.now x i)
    where
      hs : List Happening
      hs = happenings S cs

      es : List Entry
      es = entries_from 0 [] (happenings S cs)

      J : Inv S.items (entries_from 0 [] (happenings S cs)) (log_of (happenings S cs)) (seen S (end_of S cs (fresh S)))
      J = run_inv S enough room cs

      in_it : (p n : ℕ) → (p % 2 ≡ 1) ⊎ T (some (eqb n) (all_of committer (happenings S cs))) → (p % 2 ≡ 1) ⊎ T (some (eqb n) (kept (Ever S enough room q cs) (happenings S cs)))
      in_it p n (inl o) = inl o
      in_it p n (inr m) = inr (those_in (λ n. not (Ever S enough room q cs n)) n (all_of committer hs) m (not_make (Ever S enough room q cs n) (false_is (B.none n))))

  -- ---- one call more
  abbrev Stands : List Call → Type 0
  Stands cs = Else S q (end_of S cs (fresh S)) (happenings S cs) ⊎ Alike (until_end q (happenings S cs)) (Ever S enough room q cs)

  module _ (cs : List Call) (c : Call) where
    abbrev G : Tables
    G = end_of S cs (fresh S)

    abbrev G' : Tables
    G' = (step S c (end_of S cs (fresh S))).after

    abbrev hs : List Happening
    hs = happenings S cs

    abbrev ever : ℕ → Bool
    ever = Ever S enough room q cs

    abbrev ever' : ℕ → Bool
    ever' u = Ever S enough room q cs u || in_set S (step S c (end_of S cs (fresh S))).after q u

    abbrev us : SoFar
    us = (known S enough room q cs c).0

    abbrev k : Happening
    k = happened (known S enough room q cs c).0 c (step S c (end_of S cs (fresh S))).answer

    g : Good S (end_of S cs (fresh S))
    g = run-good S enough room cs

    g' : Good S (step S c (end_of S cs (fresh S))).after
    g' = keeps S enough c G g

    t : Turn S.items (seen S (end_of S cs (fresh S))) (seen S (step S c (end_of S cs (fresh S))).after) c k
    t = step_turn S enough c G g us (known S enough room q cs c).1

    is_told : happenings S (cs ++ (c ∷ [])) ≡ happenings S cs ++ (k ∷ [])
    unfolding h
    is_told = told S enough room q cs c

    is_there : end_of S (cs ++ (c ∷ [])) (fresh S) ≡ (step S c (end_of S cs (fresh S))).after
    is_there = there S enough room q cs c

    -- as it is said of the calls
    back : (ls : List Happening) → until_end q (happenings S cs ++ (k ∷ [])) ≡ ls → Alike ls ever' → Stands (cs ++ (c ∷ []))
    back ls e A =
        inr
        (subst (λ (l : List Happening). Alike l (Ever S enough room q (cs ++ (c ∷ [])))) (sym (ap (until_end q) is_told ∙ e))
        (subst (λ (f : ℕ → Bool). Alike ls f) (sym (fun_ext (λ u. ever_one S cs c (fresh S) q u))) A))

    -- nobody joins any more
    frozen : (ls : List Happening) → Unknown q (seen S (step S c (end_of S cs (fresh S))).after) → Alike ls (Ever S enough room q cs) → Alike ls ever'
    frozen ls U A x i =
        ap (λ (ns : List ℕ). final (one_by_one (log_of ls) (those (λ n. some (eqb n) ns) (order ls))) zeros x) same ∙ A x i
        ∙ sym (ap (λ (ns : List ℕ). final (one_by_one (log_of ls) ns) zeros x) same)
      where
        same : kept ever' ls ≡ kept (Ever S enough room q cs) ls
        same =
            those-same (λ n. not (ever' n)) (λ n. not (ever n)) (all_of committer ls) (λ n m. ap not (or_none (ever n) (in_set S G' q n) (query-unknown S G' q n U)))

    -- while it has not ended
    module _ (A : Alike (until_end q (happenings S cs)) (Ever S enough room q cs)) (e : ended q (happenings S cs) ≡ false) where
      all : Alike (happenings S cs) (Ever S enough room q cs)
      all = subst (λ (l : List Happening). Alike l ever) (until_all q hs e) A

      goes_on : ends_it q k ≡ false → until_end q (happenings S cs ++ (k ∷ [])) ≡ happenings S cs ++ (k ∷ [])
      unfolding until_end
      goes_on f = until_open q hs (k ∷ []) e ∙ ap (λ (b : Bool). hs ++ cond b [] (k ∷ [])) f

      stops : ends_it q k ≡ true → until_end q (happenings S cs ++ (k ∷ [])) ≡ happenings S cs
      unfolding until_end
      stops f = until_open q hs (k ∷ []) e ∙ ap (λ (b : Bool). hs ++ cond b [] (k ∷ [])) f ∙ append-nil hs

    from-before : Before S q (end_of S cs (fresh S)) (happenings S cs) (Ever S enough room q cs) → q ≤ last_number (end_of S (cs ++ (c ∷ [])) (fresh S)).txns → Stands (cs ++ (c ∷ []))
    from-before B l = go (begins S.items (seen S G) (seen S G') (seen_fair S G g) q B.fresh t)
      where
        low : q ≤ last_number (step S c (end_of S cs (fresh S))).after.txns
        low = subst (λ (H : Tables). q ≤ last_number H.txns) is_there l

        go : Begins S.items (seen S G) (seen S G') (seen_fair S G g) q k → Stands (cs ++ (c ∷ []))
        go (later m a b) = absurd (let n : last_number G'.txns < q = m in omega (arith, low))
        go (otherwise m a) =
            inl
            (record {
              unborn = ap (is_relaxed q) is_told ∙ relaxed-append q hs (k ∷ []) ∙ ap (λ (b : Bool). b || is_relaxed q (k ∷ [])) B.unborn ∙ relaxed_one q k ∙ a;
              given = l;
            })
        go (now s N R name f a w b z) =
            let A = subst (λ (m : List Happening). Alike m ever) (sym (until_all q hs B.unended)) (first_alike cs B) in
            back (hs ++ (k ∷ [])) (goes_on A B.unended w)
            (alike_on S q G G' g g' k t hs ever B.common (run_inv S enough room cs) (ticks cs) (nought (z (clock G.txns)) f) (first_alike cs B))

    from_during : (s : ℕ) → During S q (end_of S cs (fresh S)) (happenings S cs) (Ever S enough room q cs) s → Alike (until_end q (happenings S cs)) (Ever S enough room q cs) → Stands (cs ++ (c ∷ []))
    from_during s D A = go (lives S.items (seen S G) (seen S G') (seen_fair S G g) q s ((D.caller.inside, D.caller.alive), (relaxed-live (txn G.txns s) D.relaxed).1) D.caller.name t)
      where
        calm : (b : ℕ) → settled (seen S (end_of S cs (fresh S))) b → ⊥
        calm b w = g.sets_good.apart b s w.0.0 D.caller.inside (live-settled (txn G.txns b) w.0.1 w.1) D.relaxed

        go : (Row (seen S G) (seen S G') s × (ends_it q k ≡ false)) ⊎ ((k ≡ only_ended q) × Unknown q (seen S G')) → Stands (cs ++ (c ∷ []))
        go (inl w) =
            back (hs ++ (k ∷ [])) (goes_on A D.unended w.1)
            (alike_on S q G G' g g' k t hs ever D.common (run_inv S enough room cs) (ticks cs) (adds_of S q G G' g g' k t hs ever D.common (run_inv S enough room cs) (ticks cs) calm t) (all A D.unended))
        go (inr w) = back hs (stops A D.unended (ap (ends_it q) w.0 ∙ unfold ends_it in eq-eqb q q refl)) (frozen hs w.1 (all A D.unended))

    stands-more : Stands cs → Stands (cs ++ (c ∷ []))
    stands-more (inl E) = inl (else_more S enough room q cs c E)
    stands-more (inr A) = go (phase S enough room q cs) (phase S enough room q (cs ++ (c ∷ [])))
      where
        given : PhaseOf S enough room q (cs ++ (c ∷ [])) → Stands (cs ++ (c ∷ [])) ⊎ (q ≤ last_number (end_of S (cs ++ (c ∷ [])) (fresh S)).txns)
        given (before B) =
            inl
            (inr
            (subst (λ (l : List Happening). Alike l (Ever S enough room q (cs ++ (c ∷ [])))) (sym (until_all q (happenings S (cs ++ (c ∷ []))) B.unended)) (first_alike (cs ++ (c ∷ [])) B)))
        given (during s D) =
            inr (let a = ((run-good S enough room (cs ++ (c ∷ []))).txn_good s D.caller.inside).given in let b = D.caller.name in omega arith)
        given (over O) = inr O.unknown.given
        given (else E) = inl (inl E)

        go : PhaseOf S enough room q cs → PhaseOf S enough room q (cs ++ (c ∷ [])) → Stands (cs ++ (c ∷ []))
        go (before B) P = split (given P)
          where
            split : Stands (cs ++ (c ∷ [])) ⊎ (q ≤ last_number (end_of S (cs ++ (c ∷ [])) (fresh S)).txns) → Stands (cs ++ (c ∷ []))
            split (inl w) = w
            split (inr l) = from-before B l
        go (during s D) P = from_during s D A
        go (over O) P =
            back (until_end q hs) (until-over q hs (k ∷ []) O.over) (frozen (until_end q hs) (unknown_on S.items (seen S G) (seen S G') q t O.unknown) A)
        go (else E) P = inl (else_more S enough room q cs c E)

  stands-run : (cs ds : List Call) → Stands cs → Stands (cs ++ ds)
  stands-run cs [] P = subst Stands (sym (append-nil cs)) P
  stands-run cs (c ∷ ds) P = subst Stands (append_assoc cs (c ∷ []) ds) (stands-run (cs ++ (c ∷ [])) ds (stands-more cs c P))

  stands : (cs : List Call) → Stands cs
  unfolding end_of happenings run happenings_after ended
  stands cs = stands-run [] cs (first (phase S enough room q []))
    where
      first : PhaseOf S enough room q [] → Stands []
      first (before B) = inr (subst (λ (l : List Happening). Alike l (Ever S enough room q [])) (sym (until_all q (happenings S []) B.unended)) (first_alike [] B))
      first (during s D) = absurd (nobody S enough room s D.caller.inside D.caller.alive)
      first (over O) = absurd (false_is (sym O.over) tt)
      first (else E) = inl E

  -- the numbers that it read
  pub stamp-reads :
      (cs : List Call) → T (is_relaxed q (happenings S cs))
      → T (agrees (log_of (until_end q (happenings S cs)) q) (stamp_array (Ever S enough room q cs) (until_end q (happenings S cs))))
  stamp-reads cs r = go (stands cs)
    where
      ls : List Happening
      ls = until_end q (happenings S cs)

      go : Stands cs → T (agrees (log_of (until_end q (happenings S cs)) q) (stamp_array (Ever S enough room q cs) (until_end q (happenings S cs))))
      go (inl E) = absurd (false_is E.unborn r)
      go (inr A) =
          local_agrees (λ x. x < S.items) (log_of ls q) (array_of (Ever S enough room q cs) ls) (stamp_array (Ever S enough room q cs) ls) (λ x i. sym (A x i)) (named_so S enough room q cs q)
          (reads_so S enough room q cs r)

  agree_so :
      (cs : List Call) (x : ℕ) → T (is_relaxed q (happenings S cs)) → x < S.items
      → get_or (lists.final (alone S cs q (outside_by_stamp S cs q)) (lists.zeros S)) x 0 ≡ get_or (lists.final (alone S cs q (committed_outside S cs q)) (lists.zeros S)) x 0
  unfolding alone outside_by_stamp committed_outside outside until
  agree_so cs x r i = go (stands cs)
    where
      ls : List Happening
      ls = until_end q (happenings S cs)

      go : Stands cs → get_or (lists.final (alone S cs q (outside_by_stamp S cs q)) (lists.zeros S)) x 0 ≡ get_or (lists.final (alone S cs q (committed_outside S cs q)) (lists.zeros S)) x 0
      go (inl E) = absurd (false_is E.unborn r)
      go (inr A) =
          (as_list S enough room q cs (by_stamp (Ever S enough room q cs) ls)).each x i ∙ A x i ∙ sym ((as_list S enough room q cs (kept (Ever S enough room q cs) ls)).each x i)

pub stamps_agree_lem : (S : Sizes) → S.slots ≤ S.places → 1 ≤ S.places → StampsAgree S
stamps_agree_lem S enough room cs q x r i = agree_so S enough room q cs x r i
