-- What a deed asks of the tables that it is done on. A judged deed has it.
use Rattle.std.specs.Prelude.{◌<◌, true, T}
use Rattle.names.specs.Sizes.{base}
use Rattle.rules.specs.Tables.{Tables, txn, live_update, live_settled, any_query, is_reader}
use Rattle.rules.specs.Answers.{Deed, Refused, Waits, Begins, ReadsVersion, ReadsOwn, ReadsNewest, TakesShared}
use Rattle.rules.specs.Answers.{Replaces, TakesExclusive, Commits, CommitsEmpty, Ends, Aborts, Settles, CommitsSettled, AbortsSettled}

abbrev pub Able : Tables → Deed → Type 0
Able G (Refused r) = T true
Able G (Waits s k x) = (s.0 < base.slots) × (x.0 < base.items)
Able G (Begins s k q) = s.0 < base.slots
Able G (ReadsVersion s x) = (s.0 < base.slots) × (x.0 < base.items) × T (is_reader (txn G.txns s.0))
Able G (ReadsOwn s x) = (s.0 < base.slots) × (x.0 < base.items)
Able G (ReadsNewest s x) = (s.0 < base.slots) × (x.0 < base.items)
Able G (TakesShared s x) = (s.0 < base.slots) × (x.0 < base.items)
Able G (Replaces s x v) = (s.0 < base.slots) × (x.0 < base.items)
Able G (TakesExclusive s x v) = (s.0 < base.slots) × (x.0 < base.items)
Able G (Commits s) = (s.0 < base.slots) × T (live_update (txn G.txns s.0))
Able G (CommitsEmpty s) = s.0 < base.slots
Able G (Ends s) = (s.0 < base.slots) × T (any_query (txn G.txns s.0))
Able G (Aborts s) = s.0 < base.slots
Able G (Settles s) = s.0 < base.slots
Able G (CommitsSettled s) = (s.0 < base.slots) × T (live_settled (txn G.txns s.0))
Able G (AbortsSettled s) = (s.0 < base.slots) × T (live_settled (txn G.txns s.0))
