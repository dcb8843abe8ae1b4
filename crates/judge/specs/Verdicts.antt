-- Request E1: the verdict on a whole file, as one list of bytes. "It accepts exactly when no section is short, the counts are
-- equal, no byte is left over, and each call has a known kind, zeros in its unused fields and the answer document 01 gives.
-- Otherwise it names the first of these four points that fails, in that order, and for the last one the first wrong call, counted
-- from 1."
use Rattle.std.specs.Prelude.{ℕ, suc, ◌+◌, ◌*◌, Bool, cond, not, ◌&&◌, ◌||◌, List, [], ◌∷◌, eqb, ltb, length}
use Rattle.names.specs.Sizes.{base}
use Rattle.names.specs.declared.Answer.{Answer}
use Rattle.rules.specs.Tables.{Tables, fresh}
use Rattle.rules.specs.Answers.{Call}
use Rattle.rules.specs.Step.{step}
use Rattle.call_words.specs.Calls.{is_call, call_in, fields_of}
use Rattle.call_words.specs.declared.Fields.{Fields}
use Rattle.journal.specs.Words.{word_size}
use Rattle.journal.specs.Format.{record_size, call_count, answer_count, answers_place, calls_of, answers_of}
use Rattle.judge.specs.declared.Verdict.{Verdict}
use Rattle.judge.specs.declared.Verdict.TheVariants.{Accepted, Short, Unequal, LeftOver, Wrong}

-- ---- points 1 to 3: the file's size and its two counts

-- "no section is short": its count is there, and as many records as the count says
unfoldable pub calls_short : List ℕ → Bool
calls_short file = ltb (length file) word_size || ltb (length file) (word_size + record_size * call_count file)

unfoldable pub answers_short : List ℕ → Bool
answers_short file =
    ltb (length file) (answers_place file)
    || ltb (length file) (answers_place file + record_size * answer_count file)

-- "the counts are equal"
unfoldable pub counts_equal : List ℕ → Bool
counts_equal file = eqb (call_count file) (answer_count file)

-- "no byte is left over"
unfoldable pub left_over : List ℕ → Bool
left_over file = ltb (answers_place file + record_size * answer_count file) (length file)

-- ---- point 4: the calls, replayed from fresh tables

-- "the answer document 01 gives"
unfoldable pub same_answer : Answer → Answer → Bool
same_answer a b =
    eqb a.code b.code
    && (eqb a.value b.value && (eqb a.number b.number && eqb a.looked b.looked))

-- "each call has a known kind, zeros in its unused fields and the answer document 01 gives", on the tables that the calls before
-- it left
unfoldable pub right : Fields → Answer → Tables → Bool
right f a G = is_call f && same_answer a (step base (call_in f) G).answer

-- the first wrong call, where k calls were right before; 0 where there is none
unfoldable pub wrong_from : ℕ → Tables → List Fields → List Answer → ℕ
wrong_from k G [] rs = 0
wrong_from k G (f ∷ fs) [] = 0
wrong_from k G (f ∷ fs) (a ∷ rs) =
    let on = wrong_from (suc k) (step base (call_in f) G).after fs rs in
    cond (right f a G) on (suc k)

unfoldable pub first_wrong : List ℕ → ℕ
first_wrong file = wrong_from 0 (fresh base) (calls_of file) (answers_of file)

-- ---- the verdict: the first point that fails

unfoldable pub verdict_on : List ℕ → Verdict
verdict_on file =
    cond (calls_short file || answers_short file) Short
    (cond (not (counts_equal file)) Unequal
    (cond (left_over file) LeftOver
    (cond (eqb (first_wrong file) 0) Accepted (Wrong (first_wrong file)))))

-- ---- a run on file

-- the answers to calls that are made one after another
unfoldable pub answers_from : Tables → List Call → List Answer
answers_from G [] = []
answers_from G (c ∷ cs) = (step base c G).answer ∷ answers_from (step base c G).after cs

unfoldable pub fields_of_all : List Call → List Fields
fields_of_all [] = []
fields_of_all (c ∷ cs) = fields_of c ∷ fields_of_all cs

-- the calls that fields say
unfoldable pub calls_said : List Fields → List Call
calls_said [] = []
calls_said (f ∷ fs) = call_in f ∷ calls_said fs
