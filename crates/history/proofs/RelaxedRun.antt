-- Request E11: how every run from fresh tables stands to a relaxed query, and the numbers that it read.
use Prim.Native.Nat.{ℕ, ◌+◌, ◌≤◌, ◌<◌}
use mathlib.Core.Path.{◌≡◌, refl, sym, ap, ◌∙◌, subst, fun_ext}
use mathlib.Core.Bool.{Bool, true, false, ◌||◌, cond}
use mathlib.Core.List.{List, [], ◌∷◌, ◌++◌, append_assoc, append-nil}
use native.Mathlib.Omega.{arith}
use lib.ListN.{length, set, length-set}
use lib.Dec.{T, ltb}
use borrow.Author.Tests.{ltb-true, ltb-false}
use Rattle.names.specs.declared.Sizes.{Sizes}
use Rattle.rules.specs.Words.{some}
use Rattle.rules.specs.Tables.{Tables, last_number, fresh}
use Rattle.rules.specs.Good.{Good}
use Rattle.rules.specs.Answers.{Call}
use Rattle.rules.specs.Step.{step}
use Rattle.rules.proofs.Tests.{false_is}
use Rattle.rules.proofs.Keeps.{keeps}
use Rattle.rules.proofs.Fresh.{fresh-good}
use Rattle.history.specs.Runs.{run, end_of}
use Rattle.history.specs.Happened.{SoFar, none_so_far, Access, got, put, Happening, happened, happenings_after, happenings, all_of}
use Rattle.history.specs.Serial as lists
use Rattle.history.specs.Serial.{access_of, granted_to, one_by_one}
use Rattle.history.specs.Relaxed.{in_set, ever_in_set, ends_it, until_end, those, outside, committed_under, is_relaxed}
use Rattle.history.proofs.Plain.{zeros, agrees, final}
use Rattle.history.proofs.Replay.{Within, within_none, within-append, within_all, within-map, local_agrees}
use Rattle.history.proofs.Literal.{Same, to_final, same-zeros}
use Rattle.history.proofs.Marked.{Known}
use Rattle.history.proofs.Tables.{fresh-newest, fresh-last}
use Rattle.history.proofs.Seen.{seen}
use Rattle.history.proofs.Happens.{step_happens, run-good, run-known, fresh-known}
use Rattle.history.proofs.Standing.{Unknown, unknown_on}
use Rattle.history.proofs.Theorem.{run_inv}
use Rattle.history.proofs.RelaxedLists.{ended, until_all, until_open, until-over, end_append, joins_after, ever_append, ever_one, happens_more, happenings-more}
use Rattle.history.proofs.RelaxedPhase.{unknown-out, query_unborn, log_of, array_of, Else, Phase, before, during, over, else}
use Rattle.history.proofs.RelaxedBegin.{else_step, over-step, before-step}
use Rattle.history.proofs.RelaxedDuring.{during_step}

-- ---- lists of accesses
within-left : (D : ℕ → Type 0) (l k : List Access) → Within D (l ++ k) → Within D l
unfolding Within
within-left D [] k w = tt
within-left D (got x v ∷ l) k w = (w.0, within-left D l k w.1)
within-left D (put x v ∷ l) k w = (w.0, within-left D l k w.1)

within-right : (D : ℕ → Type 0) (l k : List Access) → Within D (l ++ k) → Within D k
unfolding Within
within-right D [] k w = w
within-right D (got x v ∷ l) k w = within-right D l k w.1
within-right D (put x v ∷ l) k w = within-right D l k w.1

within-until : (D : ℕ → Type 0) (q n : ℕ) (hs : List Happening) → Within D (granted_to n hs) → Within D (granted_to n (until_end q hs))
unfolding granted_to all_of until_end
within-until D q n [] w = w
within-until D q n (h ∷ hs) w = go (ends_it q h) (within-until D q n hs (within-right D (access_of n h) (granted_to n hs) w))
  where
    go : (b : Bool) → Within D (granted_to n (until_end q hs)) → Within D (granted_to n (cond b [] (h ∷ until_end q hs)))
    go true u = within_none D
    go false u = within-append D (access_of n h) (granted_to n (until_end q hs)) (within-left D (access_of n h) (granted_to n hs) w) u

final-length : (l : List Access) (m : List ℕ) → length (lists.final l m) ≡ length m
unfolding lists.final
final-length [] m = refl
final-length (got x v ∷ l) m = final-length l m
final-length (put x v ∷ l) m = final-length l (set m x v) ∙ length-set m x v

module _ (S : Sizes) (enough : S.slots ≤ S.places) (room : 1 ≤ S.places) (q : ℕ) where
  abbrev pub End : List Call → Tables
  End cs = end_of S cs (fresh S)

  abbrev pub Ever : List Call → ℕ → Bool
  Ever cs u = ever_in_set S cs (fresh S) q u

  abbrev pub PhaseOf : List Call → Type 0
  PhaseOf cs = Phase S q (end_of S cs (fresh S)) (happenings S cs) (λ u. ever_in_set S cs (fresh S) q u)

  -- ---- fresh tables
  fresh_phase : PhaseOf []
  unfolding end_of happenings happenings_after run ever_in_set is_relaxed ended all_of committed_under some one_by_one those final
  fresh_phase = go (ltb 0 q) refl
    where
      go : (b : Bool) → ltb 0 q ≡ b → Phase S q (fresh S) [] (λ u. in_set S (fresh S) q u)
      go true e =
          let l : last_number (fresh S).txns < q = let a = fresh-last S in let b = ltb-true 0 q e in omega arith in
          let out : (u : ℕ) → in_set S (fresh S) q u ≡ false = λ u. query_unborn S (fresh S) (fresh-good S room) q u l in
          before
          (record {
            common = record { dead = λ u m. absurd m; low = λ u d m. absurd m; given = λ u m. absurd (false_is (out u) m) };
            fresh = l;
            none = out;
            unborn = refl;
            unended = refl;
            now = λ x i. sym (fresh-newest S x i);
          })
      go false e = else (record { unborn = refl; given = let a = ltb-false 0 q e in omega arith })

  -- ---- one call more
  module _ (cs : List Call) (c : Call) where
    abbrev G₁ : Tables
    G₁ = end_of S cs (fresh S)

    pub good : Good S (end_of S cs (fresh S))
    good = run-good S enough room cs

    pub known : (us : SoFar) × Known S.items us (seen S (end_of S cs (fresh S)))
    known = run-known S enough room cs

    unfoldable pub h : Happening
    h = happened known.0 c (step S c (end_of S cs (fresh S))).answer

    pub told : happenings S (cs ++ (c ∷ [])) ≡ happenings S cs ++ (h ∷ [])
    unfolding happenings h
    told =
        let H = step_happens S enough c G₁ good in
        happens_more S enough cs none_so_far (fresh S) (fresh-good S room) (fresh-known S enough room) c H
        ∙ ap (λ (k : Happening). happenings S cs ++ (k ∷ [])) (sym (H.begun known.0 known.1))

    pub there : end_of S (cs ++ (c ∷ [])) (fresh S) ≡ (step S c (end_of S cs (fresh S))).after
    unfolding end_of
    there = end_append S cs (c ∷ []) (fresh S)

    phase_next : PhaseOf cs → Phase S q (step S c (end_of S cs (fresh S))).after (happenings S cs ++ (h ∷ [])) (λ u. Ever cs u || in_set S (step S c (end_of S cs (fresh S))).after q u)
    unfolding h
    phase_next (before B) = before-step S enough q c G₁ good known.0 known.1 (happenings S cs) (Ever cs) _ (run_inv S enough room cs) B
    phase_next (during s D) = during_step S enough q c G₁ good known.0 known.1 (happenings S cs) (Ever cs) _ (run_inv S enough room cs) s D
    phase_next (over O) = over-step S enough q c G₁ good known.0 known.1 (happenings S cs) (Ever cs) O
    phase_next (else E) = else (else_step S enough q c G₁ good known.0 known.1 (happenings S cs) (Ever cs) E)

    phase_more : PhaseOf cs → PhaseOf (cs ++ (c ∷ []))
    phase_more P =
        subst (λ (H : Tables). Phase S q H (happenings S (cs ++ (c ∷ []))) (Ever (cs ++ (c ∷ [])))) (sym there)
        (subst (λ (hs : List Happening). Phase S q (step S c G₁).after hs (Ever (cs ++ (c ∷ [])))) (sym told)
        (subst (λ (e : ℕ → Bool). Phase S q (step S c G₁).after (happenings S cs ++ (h ∷ [])) e) (sym (fun_ext (λ u. ever_one S cs c (fresh S) q u))) (phase_next P)))

    pub else_more : Else S q (end_of S cs (fresh S)) (happenings S cs) → Else S q (end_of S (cs ++ (c ∷ [])) (fresh S)) (happenings S (cs ++ (c ∷ [])))
    unfolding h
    else_more E =
        subst (λ (H : Tables). Else S q H (happenings S (cs ++ (c ∷ [])))) (sym there)
        (subst (λ (hs : List Happening). Else S q (step S c G₁).after hs) (sym told) (else_step S enough q c G₁ good known.0 known.1 (happenings S cs) (Ever cs) E))

  -- no relaxed query comes to have a number that another has
  pub else_run : (cs ds : List Call) → Else S q (end_of S cs (fresh S)) (happenings S cs) → is_relaxed q (happenings S (cs ++ ds)) ≡ false
  else_run cs [] E = subst (λ (es : List Call). is_relaxed q (happenings S es) ≡ false) (sym (append-nil cs)) E.unborn
  else_run cs (c ∷ ds) E =
      subst (λ (es : List Call). is_relaxed q (happenings S es) ≡ false) (append_assoc cs (c ∷ []) ds) (else_run (cs ++ (c ∷ [])) ds (else_more cs c E))

  phase_run : (cs ds : List Call) → PhaseOf cs → PhaseOf (cs ++ ds)
  phase_run cs [] P = subst PhaseOf (sym (append-nil cs)) P
  phase_run cs (c ∷ ds) P = subst PhaseOf (append_assoc cs (c ∷ []) ds) (phase_run (cs ++ (c ∷ [])) ds (phase_more cs c P))

  pub phase : (cs : List Call) → PhaseOf cs
  phase cs = phase_run [] cs fresh_phase

  -- ---- "give every number it read"
  pub reads_so : (cs : List Call) → T (is_relaxed q (happenings S cs)) → T (agrees (log_of (until_end q (happenings S cs)) q) (array_of (Ever cs) (until_end q (happenings S cs))))
  reads_so cs r = go (phase cs)
    where
      go : PhaseOf cs → T (agrees (log_of (until_end q (happenings S cs)) q) (array_of (Ever cs) (until_end q (happenings S cs))))
      go (before B) = absurd (false_is B.unborn r)
      go (else E) = absurd (false_is E.unborn r)
      go (over O) = O.agree
      go (during s D) =
          subst (λ (hs : List Happening). T (agrees (log_of hs q) (array_of (Ever cs) hs))) (sym (until_all q (happenings S cs) D.unended))
          (local_agrees (λ x. x < S.items) (log_of (happenings S cs) q) _ (array_of (Ever cs) (happenings S cs)) (λ x i. sym (D.now x i))
          (within-map _ _ (λ x w. w.0) (log_of (happenings S cs) q) D.read) D.agree)

  pub named_so : (cs : List Call) (n : ℕ) → Within (λ x. x < S.items) (log_of (until_end q (happenings S cs)) n)
  named_so cs n = within-until (λ x. x < S.items) q n (happenings S cs) ((run_inv S enough room cs).named n)

  pub as_list : (cs : List Call) (ns : List ℕ) → Same S.items (lists.final (one_by_one (log_of (until_end q (happenings S cs))) ns) (lists.zeros S)) (final (one_by_one (log_of (until_end q (happenings S cs))) ns) zeros)
  as_list cs ns =
      let l = one_by_one (log_of (until_end q (happenings S cs))) ns in
      record {
        size = final-length l (lists.zeros S) ∙ (same-zeros S).size;
        each = to_final S.items l (lists.zeros S) zeros (same-zeros S) (within_all (λ x. x < S.items) (log_of (until_end q (happenings S cs))) (named_so cs) ns);
      }

  -- ---- "contains every update its members read from or overwrote"
  -- the happenings of the first calls come first
  pub more-until : (cs ds : List Call) → (more : List Happening) × (until_end q (happenings S (cs ++ ds)) ≡ until_end q (happenings S cs) ++ more)
  unfolding happenings
  more-until cs ds = go (ended q (happenings S cs)) refl
    where
      m : (more : List Happening) × (happenings_after none_so_far (run S (cs ++ ds) (fresh S)) ≡ happenings_after none_so_far (run S cs (fresh S)) ++ more)
      m = happenings-more S cs ds none_so_far (fresh S)

      go : (b : Bool) → ended q (happenings S cs) ≡ b → (more : List Happening) × (until_end q (happenings S (cs ++ ds)) ≡ until_end q (happenings S cs) ++ more)
      go true e = ([], ap (until_end q) m.1 ∙ until-over q (happenings S cs) m.0 e ∙ sym (append-nil (until_end q (happenings S cs))))
      go false e = (
        until_end q m.0,
        ap (until_end q) m.1 ∙ until_open q (happenings S cs) m.0 e ∙ ap (λ (l : List Happening). l ++ until_end q m.0) (sym (until_all q (happenings S cs) e)),
      )

  pub over-until : (cs ds : List Call) → ended q (happenings S cs) ≡ true → until_end q (happenings S (cs ++ ds)) ≡ until_end q (happenings S cs)
  unfolding happenings
  over-until cs ds e = let m = happenings-more S cs ds none_so_far (fresh S) in ap (until_end q) m.1 ∙ until-over q (happenings S cs) m.0 e

  -- who committed is outside for ever, if it is
  pub stays_out : (cs ds : List Call) (u : ℕ) → Unknown u (seen S (end_of S cs (fresh S))) → Ever (cs ++ ds) u ≡ Ever cs u
  unfolding joins_after
  stays_out cs ds u U = ever_append S cs ds (fresh S) q u ∙ ap (λ (b : Bool). Ever cs u || b) (later ds (End cs) (run-good S enough room cs) U) ∙ same (Ever cs u)
    where
      same : (b : Bool) → (b || false) ≡ b
      same true = refl
      same false = refl

      later : (es : List Call) (G : Tables) → Good S G → Unknown u (seen S G) → joins_after S es G q u ≡ false
      later [] G g A = refl
      later (c ∷ es) G g A =
          let W = unknown_on S.items (seen S G) (seen S (step S c G).after) u (step_happens S enough c G g).turn A in
          ap (λ (b : Bool). b || joins_after S es (step S c G).after q u) (unknown-out S (step S c G).after q u W)
          ∙ later es (step S c G).after (keeps S enough c G g) W
