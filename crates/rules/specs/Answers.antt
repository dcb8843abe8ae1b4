-- Document 01, "What comes back": the calls, what a call comes to, and its answer with the tables afterwards. The types are those
-- that the code has, from `names`.
use Rattle.std.specs.Prelude.{ℕ, List}
use Rattle.names.specs.declared.Answer.{Answer}
use Rattle.names.specs.declared.Slot.{Slot}
use Rattle.names.specs.declared.Item.{Item}
use Rattle.names.specs.declared.Stamp.{Stamp}
use Rattle.names.specs.Answers.{answer, refusal}
use Rattle.rules.specs.Tables.{Tables, tables}
-- a call with its words
pub use Rattle.names.specs.declared.calls.Call.{Call}
pub use Rattle.names.specs.declared.calls.Call.TheVariants.{BeginUpdate, BeginQuery, Read, Write, Commit, Abort, Settle, BeginRelaxed}
-- why a call is refused, and the codes
pub use Rattle.names.specs.declared.deeds.Refusal.{Refusal}
pub use Rattle.names.specs.declared.deeds.Refusal.TheVariants.{Wait, Deadlock, UnknownTransaction, UnknownItem, QueryMayNotWrite, StillWaiting}
pub use Rattle.names.specs.declared.deeds.Refusal.TheVariants.{NoSlot, NumbersSpent, ClockSpent, BadTables, QuotaSpent, PastWriting, KeptApart}
pub use Rattle.names.specs.Answers.{granted, code}
-- what a call comes to
pub use Rattle.names.specs.declared.deeds.Deed.{Deed}
pub use Rattle.names.specs.declared.deeds.Deed.TheVariants.{Refused, Waits, Begins, ReadsVersion, ReadsOwn, ReadsNewest, TakesShared}
pub use Rattle.names.specs.declared.deeds.Deed.TheVariants.{Replaces, TakesExclusive, Commits, CommitsEmpty, Ends, Aborts, Settles, CommitsSettled, AbortsSettled}

-- a word as a slot, an item, a stamp
abbrev pub as_slot : ℕ → Slot
as_slot s = record { 0 = s }

abbrev pub as_item : ℕ → Item
as_item x = record { 0 = x }

abbrev pub as_stamp : ℕ → Stamp
as_stamp c = record { 0 = c }

-- the answer to a call, and the three tables afterwards
pub record Outcome : Type 0 where
  pub answer : Answer
  pub after : Tables

abbrev pub outcome : Answer → List ℕ → List ℕ → List ℕ → Outcome
outcome a t l v = record { answer = a; after = tables t l v }

-- "An answer is four numbers: code, value, number, looked."
abbrev pub says : ℕ → ℕ → ℕ → ℕ → Tables → Outcome
says c v n k G = record { answer = answer c v n k; after = G }

-- "What is not named is 0."
abbrev pub refuses : Refusal → Tables → Outcome
refuses r G = record { answer = refusal r; after = G }
