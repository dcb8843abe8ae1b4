-- Where a search ended, and a lock's struct, as the rules have them.
use Rattle.std.specs.Prelude.{ℕ, cond, eqb, Option, Some, None}
use Rattle.names.specs.Sizes.{base}
use Rattle.rules.specs.Tables.{Lock}
use Rattle.names.specs.declared.Slot.{Slot}
use Rattle.rows.specs.declared.locks.LockRow.{LockRow}

-- a slot that was searched for: the number of slots where there is none
unfoldable pub found_at : ℕ → Option Slot
found_at s = cond (eqb s base.slots) None (Some (record { 0 = s }))

-- the words of a lock as the rules' record
abbrev pub lock_of : LockRow → Lock
lock_of r = record { shared = r.shared; exclusive = r.exclusive; working = r.working }
