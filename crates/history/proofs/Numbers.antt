-- Numbers and stamps are given one by one, upward.
use Prim.Native.Nat.{ℕ, suc, ◌+◌, ◌≤◌}
use mathlib.Core.Path.{◌≡◌, refl, sym, ◌∙◌, subst}
use mathlib.Core.Logic.{◌⊎◌, inl, inr}
use mathlib.Core.List.{List, [], ◌∷◌, ◌++◌}
use native.Mathlib.Omega.{arith}
use lib.Dec.{T, eqb}
use Rattle.names.specs.declared.Sizes.{Sizes}
use Rattle.rules.specs.Words.{some}
use Rattle.rules.specs.Tables.{Tables, last_number, clock, fresh}
use Rattle.rules.specs.Good.{Good}
use Rattle.rules.specs.Answers.{Call}
use Rattle.rules.specs.Step.{step}
use Rattle.rules.proofs.Tests.{is_true, is_false}
use Rattle.rules.proofs.Keeps.{keeps}
use Rattle.rules.proofs.Fresh.{fresh-good}
use Rattle.history.specs.Runs.{run}
use Rattle.history.specs.Happened.{SoFar, none_so_far, Happening, update_committed, empty_committed, happened, begun_with, happenings_after, happenings, all_of}
use Rattle.history.specs.Numbers.{number_of, stamp_of, stamps_after, CountsFrom, CommitsUnder, StampsKept, Upward}
use Rattle.history.proofs.Invariant.{View}
use Rattle.history.proofs.Turns.{Turn, quiet, update_begins, query_begins, relaxed_begins, reads, writes, commits, commits_empty, settles, commits_settled, ends}
use Rattle.history.proofs.Marked.{Known}
use Rattle.history.proofs.Tables.{fresh-last, fresh-clock}
use Rattle.history.proofs.Seen.{seen, seen_fair}
use Rattle.history.proofs.Happens.{step_turn, step-known, nobody, fresh-known}
use Rattle.history.proofs.Standing.{Unknown}
use Rattle.history.proofs.Replies.{unknown-step}
use Rattle.history.proofs.Stamps.{Past, past_on, Took, took, took_commit, took_full, took_on}

-- ---- a count k that gives the numbers l becomes k': nothing was given, or the next number
unfoldable pub Counts : List ℕ → ℕ → ℕ → Type 0
Counts l k k' = ((l ≡ []) × (k' ≡ k)) ⊎ ((l ≡ (k + 1) ∷ []) × (k' ≡ k + 1))

counts_on : (l ns : List ℕ) (k k' : ℕ) → Counts l k k' → CountsFrom (suc k') ns → CountsFrom (suc k) (l ++ ns)
unfolding Counts CountsFrom
counts_on l ns k k' (inl e) h = rw e.0 (subst (λ (m : ℕ). CountsFrom (suc m) ns) e.1 h)
counts_on l ns k k' (inr e) h =
    rw e.0 (let a : k + 1 ≡ suc k = omega arith in (a, subst (λ (m : ℕ). CountsFrom (suc m) ns) (e.1 ∙ a) h))

-- ---- over a turn the last number counts the numbers given, and the clock the stamps
module _ (items : ℕ) (W W' : View) where
  numbers_turn : {c : Call} {h : Happening} → Turn items W W' c h → Counts (number_of h) W.last W'.last
  unfolding Counts number_of
  numbers_turn (quiet A) = inl (refl, A.last)
  numbers_turn (update_begins s B q f) = inr (refl, B.last)
  numbers_turn (query_begins s B q u e) = inr (refl, B.last)
  numbers_turn (relaxed_begins s B q e) = inr (refl, B.last)
  numbers_turn (reads n s x v e b A g) = inl (refl, A.last)
  numbers_turn (writes n s x v e b P) = inl (refl, P.last)
  numbers_turn (commits n s e a u L o f k) = inl (refl, L.last)
  numbers_turn (commits_empty n s e a u w L o f k) = inl (refl, L.last)
  numbers_turn (settles n s e B) = inl (refl, B.last)
  numbers_turn (commits_settled n s e a u L o f k) = inl (refl, L.last)
  numbers_turn (ends n s e a L o f k) = inl (refl, L.last)

  stamps_turn : (ss : List ℕ) → Past ss W → {c : Call} {h : Happening} → Turn items W W' c h → Counts (stamp_of ss h) W.clock W'.clock
  unfolding Counts stamp_of
  stamps_turn ss P (quiet A) = inl (refl, A.clock)
  stamps_turn ss P (update_begins s B q f) = inl (refl, B.clock)
  stamps_turn ss P (query_begins s B q u e) = inl (refl, B.clock)
  stamps_turn ss P (relaxed_begins s B q e) = inl (refl, B.clock)
  stamps_turn ss P (reads n s x v e b A g) = inl (refl, A.clock)
  stamps_turn ss P (writes n s x v e b Q) = inl (refl, Q.clock)
  stamps_turn ss P (commits n s e a u L o f k) =
      rw (is_false (some (eqb n) ss) (λ z. P.others s L.alive (λ i. omega arith) (subst (λ (m : ℕ). T (some (eqb m) ss)) (sym e) z))) (inr (refl, k))
  stamps_turn ss P (commits_empty n s e a u w L o f k) = inl (refl, k)
  stamps_turn ss P (settles n s e B) = inr (refl, B.clock)
  stamps_turn ss P (commits_settled n s e a u L o f k) =
      rw (is_true (some (eqb n) ss) (subst (λ (m : ℕ). T (some (eqb m) ss)) e (P.past s (L.alive, u)))) (inl (refl, k))
  stamps_turn ss P (ends n s e a L o f k) = inl (refl, k)

-- ---- a run
module _ (S : Sizes) (enough : S.slots ≤ S.places) where
  numbers-run :
      (cs : List Call) (us : SoFar) (G : Tables) → Good S G → Known S.items us (seen S G)
      → CountsFrom (suc (last_number G.txns)) (all_of number_of (happenings_after us (run S cs G)))
  unfolding run happenings_after all_of CountsFrom
  numbers-run [] us G g K = tt
  numbers-run (c ∷ cs) us G g K =
      counts_on _ _ (last_number G.txns) _ (numbers_turn S.items (seen S G) _ (step_turn S enough c G g us K))
      (numbers-run cs _ (step S c G).after (keeps S enough c G g) (step-known S enough c G g us K))

  stamps-run :
      (cs : List Call) (us : SoFar) (ss : List ℕ) (G : Tables) → Good S G → Known S.items us (seen S G) → Past ss (seen S G)
      → CountsFrom (suc (clock G.txns)) (stamps_after ss (happenings_after us (run S cs G)))
  unfolding run happenings_after stamps_after CountsFrom
  stamps-run [] us ss G g K P = tt
  stamps-run (c ∷ cs) us ss G g K P =
      let t = step_turn S enough c G g us K in
      let W' = seen S (step S c G).after in
      counts_on _ _ (clock G.txns) _ (stamps_turn S.items (seen S G) W' ss P t)
      (stamps-run cs _ _ (step S c G).after (keeps S enough c G g) (step-known S enough c G g us K) (past_on S.items (seen S G) W' (seen_fair S G g) ss P t))

  -- ---- whoever took a stamp keeps it
  module _ (n d : ℕ) where
    gone-run :
        (cs : List Call) (us : SoFar) (G : Tables) → Good S G → Known S.items us (seen S G) → Unknown n (seen S G)
        → CommitsUnder n d (happenings_after us (run S cs G))
    unfolding run happenings_after CommitsUnder
    gone-run [] us G g K U = tt
    gone-run (c ∷ cs) us G g K U = (
      λ k e. absurd (no (subst (λ (h : Happening). Turn S.items (seen S G) (seen S (step S c G).after) c h) e (step_turn S enough c G g us K))),
      λ k e. none (subst (λ (h : Happening). Turn S.items (seen S G) (seen S (step S c G).after) c h) e (step_turn S enough c G g us K)),
      gone-run cs _ (step S c G).after (keeps S enough c G g) (step-known S enough c G g us K) (unknown-step S enough n c G g U),
    )
      where
        no : {k : ℕ} → Turn S.items (seen S G) (seen S (step S c G).after) c (update_committed n k) → ⊥
        no (commits m s e a i L o f j) = U.nobody s L.alive e
        no (commits_settled m s e a i L o f j) = U.nobody s L.alive e

        none : {k : ℕ} → Turn S.items (seen S G) (seen S (step S c G).after) c (empty_committed n k) → ⊥
        none (commits_empty m s e a i w L o f j) = U.nobody s L.alive e

    took_run :
        (cs : List Call) (us : SoFar) (G : Tables) → Good S G → Known S.items us (seen S G) → Took n d (seen S G)
        → CommitsUnder n d (happenings_after us (run S cs G))
    unfolding run happenings_after CommitsUnder
    took_run [] us G g K H = tt
    took_run (c ∷ cs) us G g K H = (
      λ k e.
          took_commit S.items (seen S G) (seen S (step S c G).after) (seen_fair S G g) n d H
          (subst (λ (h : Happening). Turn S.items (seen S G) (seen S (step S c G).after) c h) e (step_turn S enough c G g us K)),
      λ k e.
          took_full S.items (seen S G) (seen S (step S c G).after) (seen_fair S G g) n d H
          (subst (λ (h : Happening). Turn S.items (seen S G) (seen S (step S c G).after) c h) e (step_turn S enough c G g us K)),
      go (took_run cs _ (step S c G).after (keeps S enough c G g) (step-known S enough c G g us K))
          (took_on S.items (seen S G) (seen S (step S c G).after) (seen_fair S G g) n d H (step_turn S enough c G g us K)),
    )
      where
        Rest : Type 0
        Rest = CommitsUnder n d (happenings_after (begun_with (happened us c (step S c G).answer) us) (run S cs (step S c G).after))

        go : (Took n d (seen S (step S c G).after) → Rest) → Took n d (seen S (step S c G).after) ⊎ Unknown n (seen S (step S c G).after) → Rest
        go rest (inl H) = rest H
        go rest (inr U) = gone-run cs _ (step S c G).after (keeps S enough c G g) (step-known S enough c G g us K) U

  kept_run : (cs : List Call) (us : SoFar) (G : Tables) → Good S G → Known S.items us (seen S G) → StampsKept (happenings_after us (run S cs G))
  unfolding run happenings_after StampsKept
  kept_run [] us G g K = tt
  kept_run (c ∷ cs) us G g K = (
    λ n d e.
        took_run n d cs _ (step S c G).after (keeps S enough c G g) (step-known S enough c G g us K)
        (took S.items (seen S G) (seen S (step S c G).after)
        (subst (λ (h : Happening). Turn S.items (seen S G) (seen S (step S c G).after) c h) e (step_turn S enough c G g us K))),
    kept_run cs _ (step S c G).after (keeps S enough c G g) (step-known S enough c G g us K),
  )

  module _ (room : 1 ≤ S.places) where
    fresh-past : Past [] (seen S (fresh S))
    unfolding some
    fresh-past =
        record {
          past = λ s a. absurd (nobody S enough room s a.0.0 a.0.1);
          others = λ s a k z. z;
          given = λ n a. absurd a;
        }

    pub upward : (cs : List Call) → Upward S cs
    unfolding happenings
    upward cs =
        record {
          numbers =
              subst (λ (k : ℕ). CountsFrom (suc k) (all_of number_of (happenings S cs))) (fresh-last S)
              (numbers-run cs none_so_far (fresh S) (fresh-good S room) (fresh-known S enough room));
          stamps =
              subst (λ (k : ℕ). CountsFrom (suc k) (stamps_after [] (happenings S cs))) (fresh-clock S)
              (stamps-run cs none_so_far [] (fresh S) (fresh-good S room) (fresh-known S enough room) fresh-past);
          kept = kept_run cs none_so_far (fresh S) (fresh-good S room) (fresh-known S enough room);
        }
