-- The first pass: an input is handed over chunk by chunk, and the records of its calls are put out.
use Rattle.std.specs.Prelude.{ℕ, min, ◌≡◌, List, [], ◌++◌, length}
use Rattle.call_words.specs.declared.Fields.{Fields}
use Rattle.lines.specs.Lines.{Held, short, held_by, left}
use Rattle.script.specs.Inputs.{reads, parsed_lines}
use Rattle.journal.specs.Words.{greatest}
use Rattle.journal.specs.Format.{call_records}
use Rattle.recording.specs.Records.{script_calls, count_with}
use Rattle.recorder.specs.declared.first.Taking.{Taking}

-- the calls of an input's lines
unfoldable pub input_calls : List ℕ → List Fields
input_calls input = script_calls (parsed_lines input)

-- how many; no file has as many as the greatest word says
unfoldable pub count_of : List ℕ → ℕ
count_of input = min greatest (length (input_calls input))

-- the input so far, what was put out, and what is kept of the line that is not ended yet
pub data Taken : List ℕ → List ℕ → Held → Type 0 where
  none : Taken [] [] (short [])
  more : {input put : List ℕ} {h : Held} → Taken input put h → (chunk : List ℕ)
      → Taken (input ++ chunk) (put ++ call_records (script_calls (reads h chunk))) (left h chunk)

pub record Took (input put : List ℕ) (t : Taking) : Type 0 where
  pub taken : Taken input put (held_by t.lines)
  pub count : t.count ≡ count_with 0 (length put)
