-- The lock decision's words: what is asked, what is held, what is decided.
use Rattle.std.specs.Prelude.{◌^◌, ◌≤◌, ◌<◌, Bool, true, false}
use Rattle.names.specs.Sizes.{base}
use Rattle.rules.specs.Tables.{Lock}
use Rattle.rules.specs.Locks.{Asked, to_read, to_write, Held, exclusively, sharing, nothing}
use Rattle.cells.specs.declared.Asked.{Asked as cells·Asked}
use Rattle.cells.specs.declared.Asked.TheVariants.{Read, Write}
use Rattle.cells.specs.declared.Held.{Held as cells·Held}
use Rattle.cells.specs.declared.Held.TheVariants.{Exclusively, Shared, Nothing}

-- what is asked, as the rules have it
abbrev pub asked_of : cells·Asked → Asked
asked_of Read = to_read
asked_of Write = to_write

-- what is held, as the rules have it
abbrev pub held_of : cells·Held → Held
held_of Exclusively = exclusively
held_of Shared = sharing
held_of Nothing = nothing

-- whether a further lock is needed: request E4, "A call that needs no further lock is granted as before."
abbrev pub needs_lock : Asked → Held → Bool
needs_lock a exclusively = false
needs_lock to_read sharing = false
needs_lock to_write sharing = true
needs_lock a nothing = true

-- a lock whose holders are slots
pub record SlotsOnly (h : Lock) : Type 0 where
  pub shared : h.shared < 2 ^ base.slots
  pub exclusive : h.exclusive ≤ base.slots
