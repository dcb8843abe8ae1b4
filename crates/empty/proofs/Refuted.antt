-- No empty program meets what the keeper promises: each says something else of one of the small runs.
use mathlib.Core.Path.{◌≡◌, ap}
use native.Mathlib.Omega.{arith}
use lib.Dec.{T}
use Rattle.rules.specs.Tables.{Tables, last_number}
use Rattle.rules.specs.Answers.{granted}
use Rattle.empty.specs.Programs.{Input, Program, Meets}
use Rattle.empty.specs.Empty.{is_two_or_ten, without_versions, Empty, answers_two_or_ten, grants_all, always_reads_zero, changes_nothing, stores_nowhere, makes_up_looked}
use Rattle.empty.proofs.Runs.{right, begin_fresh, begin_fresh_answer, begin_fresh_last, begin_fresh_next}
use Rattle.empty.proofs.Runs.{read_held, read_held_good, read_held_answer, read_committed, read_committed_reads, read_committed_answer}
use Rattle.empty.proofs.Runs.{commit_written, commit_written_later, commit_written_was, commit_written_is}
use Rattle.empty.proofs.Runs.{read_past, read_past_answer, read_beside, read_beside_answer, same-call, same-beside-versions}

-- 0 is none of the two
zero_is_neither : T (is_two_or_ten granted) → ⊥
unfolding is_two_or_ten
zero_is_neither h = h

-- what the rules say of an input, a program that meets the promise says
is_right : (P : Program) → Meets P → (i : Input) → P i ≡ right i
unfolding right
is_right P m i = m i

-- "Five empty programs have to break it."
pub no_empty_program : (P : Program) → Empty P → Meets P → ⊥
no_empty_program P (answers_two_or_ten h) m =
    zero_is_neither (rw (is_right P m begin_fresh, begin_fresh_answer) at (h begin_fresh))
no_empty_program P (grants_all h) m =
    omega (arith, rw (is_right P m read_held, read_held_answer) at (h read_held read_held_good))
no_empty_program P (always_reads_zero h) m =
    omega (arith, rw (is_right P m read_committed, read_committed_answer) at (h read_committed read_committed_reads))
no_empty_program P (changes_nothing h) m =
    let same : (right begin_fresh).after ≡ begin_fresh.before = rw (is_right P m begin_fresh) at (h begin_fresh) in
    omega (arith, ap (λ (G : Tables). last_number G.txns) same, begin_fresh_last, begin_fresh_next)
no_empty_program P (stores_nowhere h) m =
    omega
    (arith, rw (is_right P m commit_written) at (h commit_written commit_written_later 7), commit_written_was, commit_written_is)
no_empty_program P (makes_up_looked f h) m =
    let past : 2 ≡ f read_past.call (without_versions read_past.before) 0 =
    rw (is_right P m read_past, read_past_answer) at (h read_past) in
    let beside : 1 ≡ f read_beside.call (without_versions read_beside.before) 0 =
    rw (is_right P m read_beside, read_beside_answer) at (h read_beside) in
    omega (arith, past, rw (same-call, same-beside-versions) at past, beside)
