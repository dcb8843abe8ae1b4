-- The answers of a run can be written in words where its calls can, so every run's journal is accepted.
use Prim.Native.Nat.{◌≤◌}
use mathlib.Core.Path.{◌≡◌}
use mathlib.Core.List.{List, [], ◌∷◌}
use native.Mathlib.Omega.{arith}
use lib.ListN.{length}
use Rattle.names.specs.Sizes.{base}
use Rattle.names.specs.declared.Answer.{Answer}
use Rattle.rules.specs.Tables.{Tables, fresh}
use Rattle.rules.specs.Good.{Good}
use Rattle.rules.specs.Answers.{Call}
use Rattle.rules.specs.Step.{step}
use Rattle.rules.proofs.Keeps.{keeps}
use Rattle.rules.proofs.Fresh.{fresh-good}
use Rattle.rules.proofs.Bounded.{Asks, Within, Bounded, step_bounded, fresh_bounded}
use Rattle.call_words.specs.Calls.{fields_of}
use Rattle.call_words.proofs.Fitting.{fields-asks}
use Rattle.journal.specs.Words.{greatest}
use Rattle.journal.specs.Format.{journal_of, CallFits, AnswerFits, Every, none, more}
use Rattle.judge.specs.Verdicts.{verdict_on, answers_from, fields_of_all}
use Rattle.judge.specs.declared.Verdict.TheVariants.{Accepted}
use Rattle.judge.proofs.Runs.{run-accepted}

fits : (a : Answer) → Within greatest a → AnswerFits a
fits a w = record { code = w.code; value = w.value; number = w.number; looked = w.looked }

asks : (c : Call) → CallFits (fields_of c) → Asks greatest c
asks c f = fields-asks greatest c (record { kind = f.kind; number = f.number; item = f.item; value = f.value })

answers_fit : (cs : List Call) (G : Tables) → Good base G → Bounded greatest base G → Every CallFits (fields_of_all cs) → Every AnswerFits (answers_from G cs)
unfolding fields_of_all answers_from
answers_fit [] G g b none = none
answers_fit (c ∷ cs) G g b (more f fs) =
    let s = step_bounded greatest base G g b (omega arith) (omega arith) (omega arith) c (asks c f) in
    more (fits (step base c G).answer s.0)
    (answers_fit cs (step base c G).after (keeps base (omega arith) c G g) s.1 fs)

-- Request E1: a run's journal is accepted, whatever calls it makes
pub journal_accepted : (cs : List Call) → Every CallFits (fields_of_all cs) → length cs ≤ greatest →
    verdict_on (journal_of (fields_of_all cs) (answers_from (fresh base) cs)) ≡ Accepted
journal_accepted cs fs h =
    run-accepted cs fs (answers_fit cs (fresh base) (fresh-good base (omega arith)) (fresh_bounded greatest base) fs) h
