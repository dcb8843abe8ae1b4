-- The invariant of history holds of the run retold with stamps for values.
use Prim.Native.Nat.{ℕ, ◌≤◌}
use mathlib.Core.Path.{◌≡◌, refl, sym, ap, ◌∙◌, subst, fun_ext}
use mathlib.Core.Bool.{true}
use mathlib.Core.List.{List, [], ◌∷◌, ◌++◌, append_assoc, append-nil}
use lib.Dec.{T}
use Rattle.names.specs.declared.Sizes.{Sizes}
use Rattle.rules.specs.Tables.{Tables, clock, fresh}
use Rattle.rules.specs.Good.{Good}
use Rattle.rules.specs.Answers.{Call}
use Rattle.rules.specs.Step.{step}
use Rattle.rules.proofs.Keeps.{keeps}
use Rattle.rules.proofs.Fresh.{fresh-good}
use Rattle.history.specs.Runs.{run, end_of}
use Rattle.history.specs.Happened.{SoFar, none_so_far, Access, got, put, Happening, update_began, query_began, relaxed_began, accessed, update_committed, empty_committed, settled_under, only_ended, nothing}
use Rattle.history.specs.Happened.{happened, begun_with, clock_after, happenings_after, happenings, all_of}
use Rattle.history.specs.Serial.{Entry, access_of, granted_to, place_of, insert_all, entries_from, numbers_of, one_by_one, Absent, Once}
use Rattle.history.proofs.Plain.{agrees, final}
use Rattle.history.proofs.Replay.{within_none}
use Rattle.history.proofs.Order.{All, Sorted, below}
use Rattle.history.proofs.Invariant.{Inv}
use Rattle.history.proofs.Turns.{clock_on}
use Rattle.history.proofs.Marked.{Known}
use Rattle.history.proofs.Preserved.{turn_step}
use Rattle.history.proofs.Tables.{fresh-clock}
use Rattle.history.proofs.Seen.{seen}
use Rattle.history.proofs.Happens.{step-known, nobody, fresh-known}
use Rattle.textbook.specs.Marks.{Source, source, Mark, marks_after, marks, whats}
use Rattle.textbook.proofs.Stamps.{fresh-top}
use Rattle.textbook.proofs.Traced.{retold, traced, traced_fair}
use Rattle.textbook.proofs.Ways.{Foretells, step-traced}

-- ---- a run retold
unfoldable pub retold_all : (ℕ → ℕ) → List Mark → List Happening
retold_all st [] = []
retold_all st (m ∷ ms) = retold st m.what m.from ∷ retold_all st ms

unfoldable pub AllForetold : (ℕ → ℕ) → List Happening → Type 0
AllForetold st [] = T true
AllForetold st (h ∷ hs) = Foretells st h × AllForetold st hs

-- who stands where does not go by values
place_retold : (st : ℕ → ℕ) (c : ℕ) (h : Happening) (d : Source) → place_of c (retold st h d) ≡ place_of c h
unfolding retold place_of
place_retold st c (accessed n (got x v)) d = refl
place_retold st c (accessed n (put x v)) d = refl
place_retold st c (update_began n) d = refl
place_retold st c (query_began n) d = refl
place_retold st c (relaxed_began n) d = refl
place_retold st c (update_committed n k) d = refl
place_retold st c (empty_committed n k) d = refl
place_retold st c (settled_under n k) d = refl
place_retold st c (only_ended n) d = refl
place_retold st c nothing d = refl

clock_retold : (st : ℕ → ℕ) (c : ℕ) (h : Happening) (d : Source) → clock_after c (retold st h d) ≡ clock_after c h
unfolding retold clock_after
clock_retold st c (accessed n (got x v)) d = refl
clock_retold st c (accessed n (put x v)) d = refl
clock_retold st c (update_began n) d = refl
clock_retold st c (query_began n) d = refl
clock_retold st c (relaxed_began n) d = refl
clock_retold st c (update_committed n k) d = refl
clock_retold st c (empty_committed n k) d = refl
clock_retold st c (settled_under n k) d = refl
clock_retold st c (only_ended n) d = refl
clock_retold st c nothing d = refl

-- ---- marks tell what happened
pub whats-after : (S : Sizes) (us : SoFar) (cs : List Call) (G : Tables) → whats (marks_after S us cs G) ≡ happenings_after us (run S cs G)
unfolding marks_after whats happenings_after run
whats-after S us [] G = refl
whats-after S us (c ∷ cs) G =
    let h = happened us c (step S c G).answer in
    ap (λ (hs : List Happening). h ∷ hs) (whats-after S (begun_with h us) cs (step S c G).after)

pub whats-told : (S : Sizes) (cs : List Call) → whats (marks S cs) ≡ happenings S cs
unfolding marks happenings
whats-told S cs = whats-after S none_so_far cs (fresh S)

-- ---- of every run
module _ (S : Sizes) (enough : S.slots ≤ S.places) (st : ℕ → ℕ) where
  abbrev pub Holds : List Entry → (ℕ → List Access) → Tables → Type 0
  Holds es log G = Inv S.items es log (traced S st G)

  -- one call more
  pub inv-step :
      (c : Call) (us : SoFar) (es : List Entry) (log : ℕ → List Access) (G : Tables) → Good S G → Known S.items us (seen S G)
      → Foretells st (happened us c (step S c G).answer) → Holds es log G
      → Holds (insert_all (place_of (clock G.txns) (happened us c (step S c G).answer)) es)
      (λ m. log m ++ access_of m (retold st (happened us c (step S c G).answer) (source S G c (step S c G).answer))) (step S c G).after
  inv-step c us es log G g K f J =
      let h = happened us c (step S c G).answer in
      let d = source S G c (step S c G).answer in
      let G' = (step S c G).after in
      subst (λ (l : List Entry). Holds (insert_all l es) (λ m. log m ++ access_of m (retold st h d)) G') (place_retold st (clock G.txns) h d)
      (turn_step S.items es log (traced S st G) (traced S st G') (traced_fair S st G g) J (step-traced S enough st G g c us K f))

  after_run :
      (cs : List Call) (us : SoFar) (es : List Entry) (log : ℕ → List Access) (G : Tables) → Good S G → Known S.items us (seen S G)
      → AllForetold st (happenings_after us (run S cs G)) → Holds es log G
      → Holds (entries_from (clock G.txns) es (happenings_after us (run S cs G))) (λ m. log m ++ granted_to m (retold_all st (marks_after S us cs G))) (end_of S cs G)
  unfolding run end_of happenings_after entries_from granted_to all_of marks_after retold_all AllForetold
  after_run [] us es log G g K f J = subst (λ (k : ℕ → List Access). Holds es k G) (sym (fun_ext (λ m. append-nil (log m)))) J
  after_run (c ∷ cs) us es log G g K f J =
      let h = happened us c (step S c G).answer in
      let d = source S G c (step S c G).answer in
      let h' = retold st h d in
      let G' = (step S c G).after in
      let hs = happenings_after (begun_with h us) (run S cs G') in
      let ms = retold_all st (marks_after S (begun_with h us) cs G') in
      let t = step-traced S enough st G g c us K f.0 in
      let F = traced_fair S st G g in
      let es' = insert_all (place_of (clock G.txns) h) es in
      let J' = inv-step c us es log G g K f.0 J in
      let all = after_run cs (begun_with h us) es' (λ m. log m ++ access_of m h') G' (keeps S enough c G g) (step-known S enough c G g us K) f.1 J' in
      subst (λ (k : ℕ → List Access). Holds (entries_from (clock_after (clock G.txns) h) es' hs) k (end_of S cs G'))
      (fun_ext (λ m. append_assoc (log m) (access_of m h') (granted_to m ms)))
      (subst (λ (k : ℕ). Holds (entries_from k es' hs) (λ m. (log m ++ access_of m h') ++ granted_to m ms) (end_of S cs G'))
      (clock_on S.items (traced S st G) (traced S st G') F t ∙ clock_retold st (clock G.txns) h d) all)

  module _ (room : 1 ≤ S.places) where
    pub after-fresh : Holds [] (λ m. []) (fresh S)
    unfolding one_by_one agrees final Absent Once Sorted All below numbers_of
    after-fresh =
        record {
          sorted = tt;
          most = tt;
          told = tt;
          still = tt;
          now = λ x b. sym (fresh-top S x b);
          named = λ n. within_none _;
          once = tt;
          unplaced = λ n h. tt;
          unlogged = λ n h. refl;
          slots = λ s a. absurd (nobody S enough room s a.0 a.1);
          clear = λ s r a b l. absurd (nobody S enough room s a.0.0 a.0.1);
        }

    pub traced-inv :
        (cs : List Call) → AllForetold st (happenings S cs)
        → Inv S.items (entries_from 0 [] (happenings S cs)) (λ n. granted_to n (retold_all st (marks S cs))) (traced S st (end_of S cs (fresh S)))
    unfolding happenings marks
    traced-inv cs f =
        let hs = happenings S cs in
        subst (λ (k : ℕ). Inv S.items (entries_from k [] hs) (λ n. granted_to n (retold_all st (marks S cs))) (traced S st (end_of S cs (fresh S)))) (fresh-clock S)
        (after_run cs none_so_far [] (λ m. []) (fresh S) (fresh-good S room) (fresh-known S enough room) f after-fresh)
