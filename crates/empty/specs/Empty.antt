-- Document 01, "How much each statement must say": "Five empty programs have to break it." Each is a case, taken as widely as the
-- words allow: what a case does not name the program may do as it likes, and be right there.
use Rattle.std.specs.Prelude.{ℕ, ◌≡◌, Bool, not, ◌||◌, [], T, eqb}
use Rattle.names.specs.Sizes.{base}
use Rattle.rules.specs.Tables.{Tables, tables}
use Rattle.rules.specs.Versions.{newest}
use Rattle.rules.specs.Tested.{good}
use Rattle.rules.specs.Answers.{Call, granted, code, Deadlock, BadTables}
use Rattle.empty.specs.Calls.{is_read, is_begin}
use Rattle.empty.specs.Programs.{Input, Program}

-- the codes 2 and 10
unfoldable pub is_two_or_ten : ℕ → Bool
is_two_or_ten k = eqb k (code Deadlock) || eqb k (code BadTables)

-- the tables without the version rows
unfoldable pub without_versions : Tables → Tables
without_versions G = tables G.txns G.locks []

pub data Empty (P : Program) : Type 0 where
  -- "One that answers 2 or 10 to everything"
  answers_two_or_ten : ((i : Input) → T (is_two_or_ten (P i).answer.code)) → Empty P
  -- "So does one that grants all": on good tables; it may well refuse bad ones
  grants_all : ((i : Input) → T (good base i.before) → (P i).answer.code ≡ granted) → Empty P
  -- "or always reads 0"
  always_reads_zero : ((i : Input) → T (is_read i.call) → (P i).answer.value ≡ 0) → Empty P
  -- "One that changes nothing"
  changes_nothing : ((i : Input) → (P i).after ≡ i.before) → Empty P
  -- "One that copies all 64 items at begin and stores later writes nowhere": a begin may do what it likes, and no other call changes
  -- an item's newest value in the version rows
  stores_nowhere :
      ((i : Input) → T (not (is_begin i.call)) → (x : ℕ) →
      newest base (P i).after.versions x ≡ newest base i.before.versions x)
      → Empty P
  -- "One that makes up looked": without a look at the version rows, from all else and the value that it answers
  makes_up_looked :
      (f : Call → Tables → ℕ → ℕ)
      → ((i : Input) → (P i).answer.looked ≡ f i.call (without_versions i.before) (P i).answer.value)
      → Empty P
