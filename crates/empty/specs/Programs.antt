-- A program as its callers see it: whatever words it gets, it answers four numbers and leaves three tables. It has no memory of its
-- own: like the keeper's, its whole state is the tables that it is lent.
use Rattle.std.specs.Prelude.{◌≡◌, Bool, ◌&&◌, T}
use Rattle.names.specs.Sizes.{base}
use Rattle.rules.specs.Words.{every}
use Rattle.rules.specs.Tables.{Tables}
use Rattle.rules.specs.Answers.{Call, Outcome}
use Rattle.rules.specs.Step.{step}
use Rattle.empty.specs.Calls.{is_word, call_of_words}

-- "Three lent tables of 64-bit words"
unfoldable pub tables_of_words : Tables → Bool
tables_of_words G = every is_word G.txns && every is_word G.locks && every is_word G.versions

-- what a program can be given: a call and three tables of any lengths, good or not
pub record Input : Type 0 where
  pub call : Call
  pub before : Tables
  pub call_words : T (call_of_words call)
  pub table_words : T (tables_of_words before)

abbrev pub Program : Type 0
Program = Input → Outcome

-- what the contracts of the eight public routines say together: "for every input, its four answer numbers and every word of the
-- three tables afterwards"
abbrev pub Meets : Program → Type 0
Meets P = (i : Input) → P i ≡ step base i.call i.before
