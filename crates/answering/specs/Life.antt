-- The machine's life: it is born, it takes the input piece by piece, and the input ends.
use Rattle.std.specs.Prelude.{ℕ, ◌+◌, ◌*◌, ◌≡◌, cond, List, [], ◌∷◌, ◌++◌, eqb}
use Rattle.lines.specs.Lines.{joined}
use Rattle.number_lines.specs.Lines.{Held, after, begun, held_by}
use Rattle.cases.specs.Cases.{most_numbers, number_bytes, longest_answer}
use Rattle.case_lines.specs.Answers.{unread, answer_at_end, answers_of}
use Rattle.answering.specs.declared.Answerer.{Answerer}

-- ---- what it is: what is read of the line that is not ended yet

-- what the struct keeps
unfoldable pub state_of : Answerer → Held
state_of m = held_by m.words m.scan

-- ---- what it does

-- a piece of input is taken: the lines that end in it are answered
unfoldable pub answers_in : Held → List ℕ → List ℕ
answers_in h [] = []
answers_in h (b ∷ bs) =
    let next = answers_in unread bs in
    let on = answers_in (after most_numbers h b) bs in
    cond (eqb b 10) (answer_at_end h ++ next) on

-- and what is read behind them is kept
unfoldable pub left : Held → List ℕ → Held
left h [] = h
left h (b ∷ bs) =
    let next = left unread bs in
    let on = left (after most_numbers h b) bs in
    cond (eqb b 10) next on

-- the input ends: a line that is begun is answered
unfoldable pub answers_at_end : Held → List ℕ
answers_at_end h = cond (begun h) (answer_at_end h) []

-- Room for the answers in a piece of so many bytes: for that to the line that began before it, and for each byte a number, as a
-- number takes a byte of its line at least. The longest answer once more, since it is asked for before an answer is written.
abbrev pub room_for : ℕ → ℕ
room_for n = longest_answer + longest_answer + number_bytes * n

-- ---- from birth on

-- what it is after some pieces, and what it has put out so far
unfoldable pub left_by : Held → List (List ℕ) → Held
left_by h [] = h
left_by h (piece ∷ pieces) = left_by (left h piece) pieces

unfoldable pub answers_in_all : Held → List (List ℕ) → List ℕ
answers_in_all h [] = []
answers_in_all h (piece ∷ pieces) = answers_in h piece ++ answers_in_all (left h piece) pieces

-- what it puts out in a whole life: piece by piece, and at the end
unfoldable pub put_out : List (List ℕ) → List ℕ
put_out pieces = answers_in_all unread pieces ++ answers_at_end (left_by unread pieces)

-- ---- what is promised, whatever pieces the input comes in

-- at any time it is, and has put out, what comes of all bytes so far as one piece
unfoldable pub SoFar : Type 0
SoFar =
    (pieces : List (List ℕ)) → (left_by unread pieces ≡ left unread (joined pieces)) × (answers_in_all unread pieces ≡ answers_in unread (joined pieces))

-- in the end it has put out the answers to the lines of the whole input, and nothing else
unfoldable pub Lived : Type 0
Lived = (pieces : List (List ℕ)) → put_out pieces ≡ answers_of (joined pieces)
