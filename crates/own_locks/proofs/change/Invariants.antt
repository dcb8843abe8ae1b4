-- The locks of the items passed are as the change makes them.
use mathlib.Core.Path.{◌≡◌}
use Rattle.rules.specs.Tables.{Lock}
use Rattle.rows.specs.Founds.{lock_of}
use Rattle.rows.specs.declared.locks.LockRow.{LockRow}
use Rattle.own_locks.proofs.Releases.{Released}
use Rattle.own_locks.proofs.change.Given as goal

abbrev pub invariant-loop-x : goal.invariant-loop-x
invariant-loop-x g l =
    (f : Lock → Lock) → ((row made : LockRow) → goal.F-post g l.changed row made → lock_of made ≡ f (lock_of row))
    → Released f l.initial.locks l.locks l.x
