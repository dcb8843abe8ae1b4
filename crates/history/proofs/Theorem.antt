-- Every run from fresh tables serializes: the invariant holds of fresh tables and is kept by every turn.
use Prim.Native.Nat.{ℕ, ◌+◌, ◌*◌, ◌≤◌, ◌<◌}
use mathlib.Core.Path.{refl, sym, ap, ◌∙◌, subst, fun_ext}
use mathlib.Core.List.{List, [], ◌∷◌, ◌++◌, append_assoc, append-nil}
use native.Mathlib.Omega.{arith}
use Rattle.names.specs.declared.Sizes.{Sizes}
use Rattle.rules.specs.Tables.{Tables, clock, fresh}
use Rattle.rules.specs.Good.{Good}
use Rattle.rules.specs.Answers.{Call}
use Rattle.rules.specs.Step.{step}
use Rattle.rules.proofs.Keeps.{keeps}
use Rattle.rules.proofs.Fresh.{fresh-good}
use Rattle.history.specs.Runs.{run, end_of}
use Rattle.history.specs.Happened.{SoFar, none_so_far, Access, happened, begun_with, clock_after, happenings_after, happenings, all_of}
use Rattle.history.specs.Serial.{Entry, access_of, granted_to, place_of, insert_all, entries_from, numbers_of, order, one_by_one, serial, Absent, Once, Serializes}
use Rattle.history.proofs.Plain.{agrees, final, zeros}
use Rattle.history.proofs.Literal.{to_agrees, to_final, same-zeros}
use Rattle.history.proofs.Replay.{within_none, within_all}
use Rattle.history.proofs.Order.{All, all_map, Sorted, below, below_all, all_agree}
use Rattle.history.proofs.Invariant.{Inv}
use Rattle.history.proofs.Turns.{clock_on}
use Rattle.history.proofs.Marked.{Known}
use Rattle.history.proofs.Preserved.{turn_step}
use Rattle.history.proofs.Tables.{fresh-newest, fresh-clock}
use Rattle.history.proofs.Seen.{seen, seen_fair}
use Rattle.history.proofs.Happens.{step_turn, step-known, nobody, fresh-known}

-- ---- a run. es is the order so far, log the accesses granted so far
module _ (S : Sizes) (enough : S.slots ≤ S.places) where
  abbrev pub Holds : List Entry → (ℕ → List Access) → Tables → Type 0
  Holds es log G = Inv S.items es log (seen S G)

  after_run :
      (cs : List Call) (us : SoFar) (es : List Entry) (log : ℕ → List Access) (G : Tables) → Good S G → Known S.items us (seen S G) → Holds es log G
      → Holds (entries_from (clock G.txns) es (happenings_after us (run S cs G))) (λ m. log m ++ granted_to m (happenings_after us (run S cs G))) (end_of S cs G)
  unfolding run end_of happenings_after entries_from granted_to all_of
  after_run [] us es log G g K J = subst (λ (k : ℕ → List Access). Holds es k G) (sym (fun_ext (λ m. append-nil (log m)))) J
  after_run (c ∷ cs) us es log G g K J =
      let h = happened us c (step S c G).answer in
      let G' = (step S c G).after in
      let hs = happenings_after (begun_with h us) (run S cs G') in
      let t = step_turn S enough c G g us K in
      let F = seen_fair S G g in
      let es' = insert_all (place_of (clock G.txns) h) es in
      let J' = turn_step S.items es log (seen S G) (seen S G') F J t in
      let all = after_run cs (begun_with h us) es' (λ m. log m ++ access_of m h) G' (keeps S enough c G g) (step-known S enough c G g us K) J' in
      subst (λ (k : ℕ → List Access). Holds (entries_from (clock_after (clock G.txns) h) es' hs) k (end_of S cs G'))
      (fun_ext (λ m. append_assoc (log m) (access_of m h) (granted_to m hs)))
      (subst (λ (k : ℕ). Holds (entries_from k es' hs) (λ m. (log m ++ access_of m h) ++ granted_to m hs) (end_of S cs G'))
      (clock_on S.items (seen S G) (seen S G') F t) all)

  module _ (room : 1 ≤ S.places) where
    pub after-fresh : Holds [] (λ m. []) (fresh S)
    unfolding one_by_one agrees final Absent Once Sorted All below numbers_of
    after-fresh =
        record {
          sorted = tt;
          most = tt;
          told = tt;
          still = tt;
          now = λ x b. sym (fresh-newest S x b);
          named = λ n. within_none _;
          once = tt;
          unplaced = λ n h. tt;
          unlogged = λ n h. refl;
          slots = λ s a. absurd (nobody S enough room s a.0 a.1);
          clear = λ s r a b l. absurd (nobody S enough room s a.0.0 a.0.1);
        }

    -- ---- of every run
    pub run_inv : (cs : List Call) → Inv S.items (entries_from 0 [] (happenings S cs)) (λ n. granted_to n (happenings S cs)) (seen S (end_of S cs (fresh S)))
    unfolding happenings
    run_inv cs =
        let hs = happenings S cs in
        subst (λ (k : ℕ). Inv S.items (entries_from k [] hs) (λ n. granted_to n hs) (seen S (end_of S cs (fresh S)))) (fresh-clock S)
        (after_run cs none_so_far [] (λ m. []) (fresh S) (fresh-good S room) (fresh-known S enough room) after-fresh)

    -- ---- demand 3, its first sentence
    pub serializes : (cs : List Call) → Serializes S cs
    unfolding serial order
    serializes cs =
        let hs = happenings S cs in
        let es = entries_from 0 [] hs in
        let log : ℕ → List Access = λ n. granted_to n hs in
        let J = run_inv cs in
        let q = 2 * clock (end_of S cs (fresh S)).txns + 2 in
        let all = one_by_one log (numbers_of es) in
        let whole = below_all q es (all_map _ _ (λ p n l. omega arith) es J.most) in
        let w = within_all (λ x. x < S.items) log J.named (numbers_of es) in
        record {
          once = J.once;
          reads = to_agrees S.items all _ _ (same-zeros S) w (all_agree log es zeros J.sorted J.still J.told);
          ends = λ x b.
              to_final S.items all _ _ (same-zeros S) w x b
              ∙ sym (ap (λ (ns : List ℕ). final (one_by_one log ns) zeros x) whole) ∙ J.now x b;
        }
