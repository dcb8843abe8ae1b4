-- "A line starts with one of the six words .., followed by its decimal numbers, one space before each:
-- none; none; number item; number item value; number; number." Request E6 adds `settle number`,
-- request E11 `relaxed`, with none.
use Rattle.std.specs.Prelude.{ℕ, ◌≡◌, List, ◌++◌}
use Rattle.rules.specs.Answers.{Call, BeginUpdate, BeginQuery, Read, Write, Commit, Abort, Settle, BeginRelaxed}
use Rattle.call_words.specs.Calls.{numbers_of}
use Rattle.script.specs.Words as words
use Rattle.numerals.specs.Numbers.{Numbers}
use Rattle.numerals.specs.Print.{spaced}

abbrev pub word_of : Call → List ℕ
word_of BeginUpdate = words.update
word_of BeginQuery = words.query
word_of (Read n x) = words.read
word_of (Write n x v) = words.write
word_of (Commit n) = words.commit
word_of (Abort n) = words.abort
word_of (Settle n) = words.settle
word_of BeginRelaxed = words.relaxed

-- the line is the call's word, and then its numbers
pub record Says (line : List ℕ) (c : Call) : Type 0 where
  pub rest : List ℕ
  pub word : line ≡ word_of c ++ rest
  pub numbers : Numbers rest (numbers_of c)

-- a call's own line: its word, and a space before each number
unfoldable pub call_line : Call → List ℕ
call_line c = word_of c ++ spaced (numbers_of c)
