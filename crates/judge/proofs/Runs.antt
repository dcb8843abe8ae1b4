-- The journal of a run is accepted.
use Prim.Native.Nat.{ℕ, suc, ◌≤◌}
use mathlib.Core.Path.{◌≡◌, refl, ap, ap₂, ◌∙◌}
use mathlib.Core.Bool.{Bool, true, cond, ◌&&◌}
use mathlib.Core.List.{List, [], ◌∷◌}
use native.Mathlib.Omega.{arith}
use lib.Dec.{eqb}
use lib.ListN.{length}
use borrow.Author.Tests.{eq-eqb}
use Rattle.names.specs.Sizes.{base}
use Rattle.names.specs.declared.Answer.{Answer}
use Rattle.rules.specs.Tables.{Tables, fresh}
use Rattle.rules.specs.Answers.{Call}
use Rattle.rules.specs.Step.{step}
use Rattle.call_words.specs.Calls.{fields_of}
use Rattle.call_words.specs.declared.Fields.{Fields}
use Rattle.call_words.proofs.Inverse.{call_in-fields_of, is_call-fields_of}
use Rattle.journal.specs.Words.{greatest}
use Rattle.journal.specs.Format.{journal_of, call_count, answer_count, CallFits, AnswerFits, Every}
use Rattle.journal.proofs.RoundTrip.{journal_length, call_count-back, answer_count-back, calls_back, answers-back}
use Rattle.judge.specs.Verdicts.{same_answer, right, wrong_from, first_wrong, verdict_on, answers_from, fields_of_all}
use Rattle.judge.specs.declared.Verdict.TheVariants.{Accepted}
use Rattle.judge.proofs.Speaking.{whole}
use Rattle.judge.proofs.Said.{verdict-said}

-- ---- as many fields and as many answers as calls

pub length-fields_of_all : (cs : List Call) → length (fields_of_all cs) ≡ length cs
unfolding fields_of_all
length-fields_of_all [] = refl
length-fields_of_all (c ∷ cs) = ap suc (length-fields_of_all cs)

pub length-answers_from : (G : Tables) (cs : List Call) → length (answers_from G cs) ≡ length cs
unfolding answers_from
length-answers_from G [] = refl
length-answers_from G (c ∷ cs) = ap suc (length-answers_from (step base c G).after cs)

-- ---- each call of a run is right

same : (n : ℕ) → eqb n n ≡ true
same n = eq-eqb n n refl

own_answer : (a : Answer) → same_answer a a ≡ true
unfolding same_answer
own_answer a = rw (same a.code, same a.value, same a.number, same a.looked)

made_right : (c : Call) (G : Tables) → right (fields_of c) (step base c G).answer G ≡ true
unfolding right
made_right c G =
    ap₂ (λ (b : Bool) (d : Call). b && same_answer (step base c G).answer (step base d G).answer) (is_call-fields_of c) (call_in-fields_of c)
    ∙ own_answer (step base c G).answer

pub none_wrong : (k : ℕ) (G : Tables) (cs : List Call) → wrong_from k G (fields_of_all cs) (answers_from G cs) ≡ 0
unfolding wrong_from fields_of_all answers_from
none_wrong k G [] = refl
none_wrong k G (c ∷ cs) =
    let rs : List Answer = answers_from (step base c G).after cs in
    ap₂ (λ (b : Bool) (d : Call). cond b (wrong_from (suc k) (step base d G).after (fields_of_all cs) rs) (suc k)) (made_right c G) (call_in-fields_of c)
    ∙ none_wrong (suc k) (step base c G).after cs

-- ---- the journal of a run

-- Request E1, "It accepts exactly when ..": what a run gives is accepted
pub run-accepted : (cs : List Call) →
    Every CallFits (fields_of_all cs) → Every AnswerFits (answers_from (fresh base) cs) → length cs ≤ greatest →
    verdict_on (journal_of (fields_of_all cs) (answers_from (fresh base) cs)) ≡ Accepted
unfolding first_wrong
run-accepted cs ff fa h =
    let fs : List Fields = fields_of_all cs in
    let rs : List Answer = answers_from (fresh base) cs in
    let file : List ℕ = journal_of fs rs in
    let lf : length fs ≡ length cs = length-fields_of_all cs in
    let lr : length rs ≡ length cs = length-answers_from (fresh base) cs in
    let n : call_count file ≡ length fs = call_count-back fs rs (omega arith) in
    let m : answer_count file ≡ length rs = answer_count-back fs rs (omega arith) (omega arith) in
    let w : first_wrong file ≡ 0 =
    ap₂ (wrong_from 0 (fresh base)) (calls_back fs rs ff (omega arith)) (answers-back fs rs fa (omega arith) (omega arith))
    ∙ none_wrong 0 (fresh base) cs in
    verdict-said file
    ∙ whole (length file) (call_count file) (answer_count file) (first_wrong file) (omega (arith, journal_length fs rs)) (omega arith) w
