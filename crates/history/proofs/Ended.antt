-- A number that was ended is unknown for ever: numbers are given upward, so that nobody gets it again. Code 10 never comes.
use Prim.Native.Nat.{ℕ, ◌≤◌}
use mathlib.Core.Path.{◌≡◌, sym, ap, subst}
use mathlib.Core.Logic.{◌≢◌, ◌⊎◌, inl, inr}
use mathlib.Core.List.{List, [], ◌∷◌}
use lib.Dec.{T}
use Rattle.names.specs.declared.Sizes.{Sizes}
use Rattle.rules.specs.Tables.{Tables, fresh}
use Rattle.rules.specs.Good.{Good}
use Rattle.rules.specs.Answers.{Call, Commit, Abort, Outcome, granted, code}
use Rattle.rules.specs.Answers.{UnknownTransaction, BadTables}
use Rattle.rules.specs.Step.{step}
use Rattle.rules.proofs.Keeps.{keeps}
use Rattle.rules.proofs.Fresh.{fresh-good}
use Rattle.history.specs.Runs.{run, end_of, Every}
use Rattle.history.specs.Happened.{names}
use Rattle.history.specs.Ended.{EndedForEver}
use Rattle.history.proofs.Seen.{seen}
use Rattle.history.proofs.Happens.{step_happens, run-good, run-known}
use Rattle.history.proofs.Standing.{Unknown}
use Rattle.history.proofs.Replies.{unknown-answer, unknown-step, commit-over, abort-over}

module _ (S : Sizes) (enough : S.slots ≤ S.places) where
  unknown-run :
      (n : ℕ) (cs : List Call) (G : Tables) → Good S G → Unknown n (seen S G)
      → Every (λ e. T (names n e.call) → e.answer.code ≡ code UnknownTransaction) (run S cs G)
  unfolding run Every
  unknown-run n [] G g U = tt
  unknown-run n (c ∷ cs) G g U = (
    λ a. ap (λ (o : Outcome). o.answer.code) (unknown-answer S enough n G g U c a),
    unknown-run n cs (step S c G).after (keeps S enough c G g) (unknown-step S enough n c G g U),
  )

  never_bad_lem : (cs : List Call) (G : Tables) → Good S G → Every (λ e. e.answer.code ≢ code BadTables) (run S cs G)
  unfolding run Every
  never_bad_lem [] G g = tt
  never_bad_lem (c ∷ cs) G g = ((step_happens S enough c G g).not_bad, never_bad_lem cs (step S c G).after (keeps S enough c G g))

  module _ (room : 1 ≤ S.places) where
    pub run_never_bad : (cs : List Call) → Every (λ e. e.answer.code ≢ code BadTables) (run S cs (fresh S))
    run_never_bad cs = never_bad_lem cs (fresh S) (fresh-good S room)

    pub ended_for_ever : EndedForEver S
    unfolding EndedForEver
    ended_for_ever before cs n c w e = unknown-run n cs (step S c G).after (keeps S enough c G g) (go w)
      where
        G : Tables
        G = end_of S before (fresh S)

        g : Good S G
        g = run-good S enough room before

        -- after a granted call d
        Then : Call → Type 0
        Then d = (step S d G).answer.code ≡ granted → Unknown n (seen S (step S d G).after)

        go : (c ≡ Commit n) ⊎ (c ≡ Abort n) → Unknown n (seen S (step S c G).after)
        go (inl z) = let k = run-known S enough room before in subst Then (sym z) (commit-over S enough n G g k.0 k.1) e
        go (inr z) = let k = run-known S enough room before in subst Then (sym z) (abort-over S enough n G g k.0 k.1) e
