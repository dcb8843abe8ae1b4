-- Who is found stands in a slot.
use Rattle.std.specs.Prelude.{◌≡◌, ℕ, ◌<◌, List, Option, Some, None, IfOk}
use Rattle.std.specs.Option.{ok_or}
use Rattle.std.proofs.Common.{sym}
use Rattle.names.specs.Sizes.{base}
use Rattle.names.specs.declared.Slot.{Slot}
use Rattle.rules.specs.Tables.{slot_of}
use Rattle.rules.specs.Answers.{UnknownTransaction}
use Rattle.rows.specs.Founds.{found_at}
use Rattle.callers.proofs.Named.{caller-inside}
use Rattle.asked.proofs.caller.Goals as goal

within : (t : List ℕ) (n : ℕ) (f : Option Slot) → f ≡ found_at (slot_of base t n) → IfOk (ok_or f UnknownTransaction) (λ s. s.0 < base.slots)
within t n (Some s) e = caller-inside t n s (sym e)
within t n None e = tt

pub returns-clause-inside : goal.returns-clause-inside
returns-clause-inside c = rw c.ok_or.ensures.value (within _ _ _ c.find.ensures)
