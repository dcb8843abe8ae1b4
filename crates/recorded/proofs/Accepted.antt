-- Whatever script is recorded, the judge accepts its journal.
use Prim.Native.Nat.{ℕ, ◌≤◌}
use mathlib.Core.Path.{◌≡◌, refl, sym, ap, ap₂, subst, ◌∙◌}
use mathlib.Core.List.{List, [], ◌∷◌}
use native.Mathlib.Omega.{arith}
use lib.ListN.{length}
use Rattle.names.specs.Sizes.{base}
use Rattle.names.specs.declared.Answer.{Answer}
use Rattle.rules.specs.Tables.{Tables, fresh}
use Rattle.rules.specs.Answers.{Call}
use Rattle.rules.specs.Step.{step}
use Rattle.call_words.specs.Calls.{fields_of, call_in}
use Rattle.call_words.specs.declared.Fields.{Fields}
use Rattle.call_words.proofs.Inverse.{call_in-fields_of}
use Rattle.script.specs.Inputs.{parsed_lines}
use Rattle.std.proofs.Common.{Option, Some, None}
use Rattle.journal.specs.Words.{greatest}
use Rattle.journal.specs.Format.{journal_of, CallFits, Every}
use Rattle.judge.specs.Verdicts.{verdict_on, answers_from, fields_of_all, calls_said}
use Rattle.judge.specs.declared.Verdict.TheVariants.{Accepted}
use Rattle.judge.proofs.Runs.{length-fields_of_all}
use Rattle.judge.proofs.Fitting.{journal_accepted}
use Rattle.recording.specs.Records.{line_calls, script_calls, answers_to}
use Rattle.recorder.specs.First.{input_calls}
use Rattle.recorder.specs.Second.{run_journal}
use Rattle.recorder.proofs.Fitting.{input_fits}

-- what is recorded of lines is what their calls say
lines-said : (ps : List (Option Call)) → fields_of_all (calls_said (script_calls ps)) ≡ script_calls ps
unfolding script_calls line_calls fields_of_all calls_said
lines-said [] = refl
lines-said (Some m ∷ ps) = ap₂ (λ (f : Fields) (fs : List Fields). f ∷ fs) (ap fields_of (call_in-fields_of m)) (lines-said ps)
lines-said (None ∷ ps) = lines-said ps

-- the answers to fields are those to the calls that they say
answers-said : (fs : List Fields) (G : Tables) → answers_from G (calls_said fs) ≡ answers_to fs G
unfolding answers_from calls_said answers_to
answers-said [] G = refl
answers-said (f ∷ fs) G = ap (λ (rs : List Answer). (step base (call_in f) G).answer ∷ rs) (answers-said fs (step base (call_in f) G).after)

-- Request E1: "a journal written from any run is accepted": what the recorder puts out of any input (`recorder: first`)
pub recorded_accepted : (input : List ℕ) → length (input_calls input) ≤ greatest → verdict_on (run_journal input) ≡ Accepted
unfolding run_journal
recorded_accepted input h =
    let fs : List Fields = input_calls input in
    let ks : List Call = calls_said fs in
    let said : fields_of_all ks ≡ fs = unfold input_calls in (lines-said (parsed_lines input)) in
    let long : length ks ≡ length fs = sym (length-fields_of_all ks) ∙ ap length said in
    let fits : Every CallFits (fields_of_all ks) = subst (λ (gs : List Fields). Every CallFits gs) (sym said) (input_fits input) in
    ap verdict_on (ap₂ journal_of (sym said) (sym (answers-said fs (fresh base))))
    ∙ journal_accepted ks fits (omega (arith, long, h))
