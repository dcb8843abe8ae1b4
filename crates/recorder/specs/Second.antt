-- The second pass: the calls are handed over again, and the records of their answers are put out.
use Rattle.std.specs.Prelude.{ℕ, ◌-◌, ◌*◌, ◌≤◌, ◌≡◌, List, length}
use Rattle.names.specs.Sizes.{base}
use Rattle.rules.specs.Tables.{tables, fresh}
use Rattle.journal.specs.Format.{record_size, answer_records, journal_of, next_piece}
use Rattle.recording.specs.Records.{answers_to, after_calls, piece_calls}
use Rattle.recorder.specs.First.{input_calls, count_of}
use Rattle.recorder.specs.declared.second.Answering.{Answering}

-- the journal of an input's run: its calls, and the answers to them from fresh tables on
unfoldable pub run_journal : List ℕ → List ℕ
run_journal input = journal_of (input_calls input) (answers_to (input_calls input) (fresh base))

-- the longest line of a count: a number of 20 digits, and the line's end
abbrev pub longest : ℕ
longest = 21

-- how many calls are still asked for; how many of them next, and how many bytes these have
abbrev pub left : Answering → ℕ
left a = a.left

abbrev pub records_next : Answering → ℕ
records_next a = next_piece a.left

abbrev pub bytes_next : Answering → ℕ
bytes_next a = records_next a * record_size

-- of this input: the calls that were handed over so far, and what was put out: the answers to them from fresh tables on
pub record Answered (input calls put : List ℕ) (a : Answering) : Type 0 where
  pub count : a.count ≡ count_of input
  pub within : a.left ≤ a.count
  pub read : length calls ≡ record_size * (a.count - a.left)
  pub answers : put ≡ answer_records (answers_to (piece_calls calls) (fresh base))
  pub after : tables a.txns a.locks a.versions ≡ after_calls (piece_calls calls) (fresh base)
