-- Document 01, "What comes back": the codes, and an answer's four numbers. "What is not named is 0."
use Rattle.std.specs.Prelude.{ℕ}
use Rattle.names.specs.declared.Answer.{Answer}
use Rattle.names.specs.declared.deeds.Refusal.{Refusal}
use Rattle.names.specs.declared.deeds.Refusal.TheVariants.{Wait, Deadlock, UnknownTransaction, UnknownItem, QueryMayNotWrite, StillWaiting}
use Rattle.names.specs.declared.deeds.Refusal.TheVariants.{NoSlot, NumbersSpent, ClockSpent, BadTables, QuotaSpent, PastWriting, KeptApart}

-- ---- the column "code": 0 granted, and
abbrev pub granted : ℕ
granted = 0

abbrev pub code : Refusal → ℕ
code Wait = 1
code Deadlock = 2
code UnknownTransaction = 3
code UnknownItem = 4
code QueryMayNotWrite = 5
code StillWaiting = 6
code NoSlot = 7
code NumbersSpent = 8
code ClockSpent = 9
code BadTables = 10
-- request E2, "gets new code 11"
code QuotaSpent = 11
-- request E6, "gets code 12"
code PastWriting = 12
-- request E11, "gets code 13": relaxed queries and those past their writing are kept apart
code KeptApart = 13

-- "An answer is four numbers: code, value, number, looked."
abbrev pub answer : ℕ → ℕ → ℕ → ℕ → Answer
answer c v n k = record { code = c; value = v; number = n; looked = k }

-- a refusal; a grant that names a number, one that names a value and looked, and one that names nothing
abbrev pub refusal : Refusal → Answer
refusal r = answer (code r) 0 0 0

abbrev pub numbered : ℕ → Answer
numbered n = answer granted 0 n 0

abbrev pub found : ℕ → ℕ → Answer
found v k = answer granted v 0 k

abbrev pub plain : Answer
plain = answer granted 0 0 0
