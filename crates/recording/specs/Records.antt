-- What is recorded of a script: the calls of its lines, and the answers to them.
use Rattle.std.specs.Prelude.{ℕ, ◌+◌, ◌/◌, min, List, [], ◌∷◌, ◌++◌, length, Option, Some, None}
use Rattle.names.specs.Sizes.{base}
use Rattle.names.specs.declared.Answer.{Answer}
use Rattle.rules.specs.Answers.{Call}
use Rattle.rules.specs.Tables.{Tables}
use Rattle.rules.specs.Step.{step}
use Rattle.call_words.specs.Calls.{fields_of, call_in}
use Rattle.call_words.specs.declared.Fields.{Fields}
use Rattle.journal.specs.Words.{greatest}
use Rattle.journal.specs.Format.{record_size, calls_in}

-- ---- the calls

-- a line's call; a line that is none "calls nothing", and nothing of it is recorded
unfoldable pub line_calls : Option Call → List Fields
line_calls (Some m) = fields_of m ∷ []
line_calls None = []

-- line after line
unfoldable pub script_calls : List (Option Call) → List Fields
script_calls [] = []
script_calls (p ∷ ps) = line_calls p ++ script_calls ps

-- how many, where bytes more are full of records; no file has as many as the greatest word says
unfoldable pub count_with : ℕ → ℕ → ℕ
count_with count bytes = min greatest (count + bytes / record_size)

-- ---- the answers

-- to calls that are made one after another
unfoldable pub answers_to : List Fields → Tables → List Answer
answers_to [] G = []
answers_to (f ∷ fs) G = (step base (call_in f) G).answer ∷ answers_to fs (step base (call_in f) G).after

-- the tables after them
unfoldable pub after_calls : List Fields → Tables → Tables
after_calls [] G = G
after_calls (f ∷ fs) G = after_calls fs (step base (call_in f) G).after

-- the calls that stand whole in a piece of the file
unfoldable pub piece_calls : List ℕ → List Fields
piece_calls bs = calls_in (length bs / record_size) bs
