-- What the judge keeps while it sees a call and an answer at a time, and what it says at the end.
use Rattle.std.specs.Prelude.{ℕ, zero, suc, ◌+◌, ◌*◌, ◌/◌, ◌%◌, min, Bool, cond, not, ◌≡◌, List, [], ◌∷◌, ◌++◌, eqb, ltb, length, take, drop}
use Rattle.names.specs.Sizes.{base}
use Rattle.names.specs.declared.Answer.{Answer}
use Rattle.rules.specs.Tables.{Tables, tables, fresh}
use Rattle.rules.specs.Step.{step}
use Rattle.call_words.specs.Calls.{is_call, call_in}
use Rattle.call_words.specs.declared.Fields.{Fields}
use Rattle.journal.specs.Words.{word_size, greatest}
use Rattle.journal.specs.Format.{record_size, call_at, answer_at, call_count, answers_place, answer_count, Every}
use Rattle.judge.specs.Verdicts.{right}
use Rattle.judge.specs.declared.Judge.{Judge}
use Rattle.judge.specs.declared.Verdict.{Verdict}
use Rattle.judge.specs.declared.Verdict.TheVariants.{Accepted, Short, Unequal, LeftOver, Wrong}

-- how many calls were seen, the first wrong one of them, 0 for none, and the tables that the calls left
pub record Progress : Type 0 where
  pub seen : ℕ
  pub wrong : ℕ
  pub left : Tables

abbrev pub progress : Judge → List ℕ → List ℕ → List ℕ → Progress
progress j t l v = record { seen = j.seen; wrong = j.wrong; left = tables t l v }

-- nothing yet
abbrev pub unseen : Judge
unseen = record { seen = 0; wrong = 0 }

-- "replays from fresh tables"
abbrev pub start : Progress
start = record { seen = 0; wrong = 0; left = fresh base }

-- one more, up to the greatest word, which no file's records reach
unfoldable pub one_more : ℕ → ℕ
one_more k = cond (ltb k greatest) (k + 1) k

-- ---- one call and its answer

-- "the first wrong call": after it calls are counted, and none is made
abbrev pub only_counted : Progress → Progress
only_counted p = record { seen = one_more p.seen; wrong = p.wrong; left = p.left }

-- the call is made, and is right or the first wrong one
abbrev pub replayed : Fields → Answer → Progress → Progress
replayed f a p =
    record {
      seen = one_more p.seen;
      wrong = cond (right f a p.left) 0 (one_more p.seen);
      left = (step base (call_in f) p.left).after;
    }

-- what is no call is wrong, and is not made
abbrev pub no_call : Progress → Progress
no_call p = record { seen = one_more p.seen; wrong = one_more p.seen; left = p.left }

unfoldable pub seen_one : Fields → Answer → Progress → Progress
seen_one f a p =
    cond (not (eqb p.wrong 0)) (only_counted p)
    (cond (is_call f) (replayed f a p)
    (no_call p))

-- ---- a piece of the calls and a piece of the answers: record by record

unfoldable pub seen_all : ℕ → List ℕ → List ℕ → Progress → Progress
seen_all zero cs rs p = p
seen_all (suc n) cs rs p = seen_all n (drop record_size cs) (drop record_size rs) (seen_one (call_at 0 cs) (answer_at 0 rs) p)

-- the records that both pieces have whole
unfoldable pub seen_piece : List ℕ → List ℕ → Progress → Progress
seen_piece cs rs p = seen_all (min (length cs) (length rs) / record_size) cs rs p

-- ---- a file that is read in pieces, some of its calls and as many of its answers at a time

pub record Piece : Type 0 where
  pub calls : List ℕ
  pub answers : List ℕ

-- what is kept after one piece and another
unfoldable pub fed : List Piece → Progress → Progress
fed [] p = p
fed (c ∷ cs) p = fed cs (seen_piece c.calls c.answers p)

-- as many answers as calls, and every one whole
pub record Even (c : Piece) : Type 0 where
  pub same : length c.calls ≡ length c.answers
  pub whole : length c.calls % record_size ≡ 0

unfoldable pub all_calls : List Piece → List ℕ
all_calls [] = []
all_calls (c ∷ cs) = c.calls ++ all_calls cs

unfoldable pub all_answers : List Piece → List ℕ
all_answers [] = []
all_answers (c ∷ cs) = c.answers ++ all_answers cs

-- the pieces, joined, are the file's calls and its answers
pub record CutFrom (file : List ℕ) (cs : List Piece) : Type 0 where
  pub even : Every Even cs
  pub calls : all_calls cs ≡ take (record_size * call_count file) (drop word_size file)
  pub answers : all_answers cs ≡ take (record_size * answer_count file) (drop (answers_place file) file)

-- points 1 to 3 hold: only then does the verdict go by the calls
pub record Whole (file : List ℕ) : Type 0 where
  pub size : length file ≡ 2 * word_size + record_size * call_count file + record_size * answer_count file
  pub counts : call_count file ≡ answer_count file

-- ---- the verdict, from the file's size, its two counts and the first wrong call

-- the calls and the second count stand in so many bytes
unfoldable pub calls_stand : ℕ → ℕ → Bool
calls_stand size n = not (ltb size (2 * word_size + record_size * n))

unfoldable pub spoken : ℕ → ℕ → ℕ → ℕ → Verdict
spoken size n m wrong =
    let whole = 2 * word_size + record_size * n + record_size * m in
    cond (ltb size whole) Short
    (cond (not (eqb n m)) Unequal
    (cond (ltb whole size) LeftOver
    (cond (eqb wrong 0) Accepted (Wrong wrong))))
