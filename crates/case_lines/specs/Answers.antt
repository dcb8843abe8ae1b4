-- The answer to a case as a line, and the answers to a whole input.
use Rattle.std.specs.Prelude.{ℕ, false, cond, List, [], ◌∷◌, ◌++◌, map, length}
use Rattle.names.specs.Sizes.{base}
use Rattle.rules.specs.Answers.{Outcome}
use Rattle.rules.specs.Step.{step}
use Rattle.numerals.specs.Print.{decimal, spaced, bad_line}
use Rattle.lines.specs.Lines.{lines_of, joined}
use Rattle.number_lines.specs.Lines.{Held, reads, spoilt, ends, read_on}
use Rattle.cases.specs.Cases.{most_numbers, call_of, tables_of, is_case}

-- ---- one line

-- the words of the three tables
unfoldable pub tables_line : List ℕ → List ℕ → List ℕ → List ℕ
tables_line t l v = spaced t ++ (spaced l ++ (spaced v ++ (10 ∷ [])))

-- the four numbers, the three lengths, and then these
unfoldable pub outcome_line : Outcome → List ℕ
outcome_line o =
    let t = o.after.txns in
    let l = o.after.locks in
    let v = o.after.versions in
    decimal o.answer.code
    ++ (spaced (o.answer.value ∷ o.answer.number ∷ o.answer.looked ∷ length t ∷ length l ∷ length v ∷ []) ++ tables_line t l v)

-- the call of a case, made on its tables
unfoldable pub case_line : List ℕ → List ℕ
case_line ns = outcome_line (step base (call_of ns) (tables_of ns))

unfoldable pub answer_to : List ℕ → List ℕ
answer_to ns = cond (is_case ns) (case_line ns) bad_line

-- what is read of a line once its last number is ended
unfoldable pub answer_at : Held → List ℕ
answer_at (reads ns v g) = answer_to ns
answer_at spoilt = bad_line

-- ---- a whole input

-- no byte yet
abbrev pub unread : Held
unread = reads [] 0 false

-- a line ends, and with it its last number
unfoldable pub answer_at_end : Held → List ℕ
answer_at_end h = answer_at (ends most_numbers h)

-- the answer to a line: it is read byte by byte
unfoldable pub answer_of : List ℕ → List ℕ
answer_of line = answer_at_end (read_on most_numbers unread line)

-- THE PROMISE: the answers to its lines, one behind another
unfoldable pub answers_of : List ℕ → List ℕ
answers_of input = joined (map answer_of (lines_of input))
