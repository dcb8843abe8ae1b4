-- Document 01, "The six calls", the seventh of request E6 and the eighth of request E11. `judged` says what a call comes to, by reading
-- alone, with the refusals in the order of "What comes back"; `done` says what each deed answers and changes; `step` is the one after the
-- other, on good tables.
use Rattle.std.specs.Prelude.{ℕ, zero, suc, ◌+◌, ◌^◌, Bool, ◌&&◌, not, cond, List, ◌∷◌, set, eqb, leb}
use Rattle.std.specs.Int.Bits.{bit_or}
use Rattle.names.specs.declared.Sizes.{Sizes}
use Rattle.names.specs.Sizes.{first_stamp, last_word}
use Rattle.names.specs.Layout.{last_number_at, clock_at, txn_later_for_at}
use Rattle.names.specs.Words.{held_at_last}
use Rattle.rules.specs.Words.{some_below, with_bit, without_bit}
use Rattle.rules.specs.Tables.{Tables, tables, last_number, clock, Txn, txn, set_txn, set_awaited, set_reads, set_items_read, set_later_for, reworded, no_txn, new_txn}
use Rattle.rules.specs.Tables.{an_update, a_query, a_settled, a_relaxed, no_lock, query_kind, live_settled, some_settled, some_relaxed, have_read}
use Rattle.rules.specs.Tables.{slot_of, free_slot, reader_in, readers, Lock, lock, set_lock, holds_exclusive, exclusives_of, release, unshare, shared_lock, exclusive_lock}
use Rattle.rules.specs.Versions.{Version, versions_of, newest, hidden_now, place, choice, rewritten, revealed}
use Rattle.rules.specs.Waits.{noted, closed_up, circle_at}
use Rattle.rules.specs.Tested.{good}
use Rattle.rules.specs.Locks.{Asked, to_read, to_write, wanted, Cell, OwnValue, ReplaceValue, NewestValue}
use Rattle.rules.specs.Locks.{ExchangeLock, TakeShared, TakeExclusive, Conflict, decision}
use Rattle.rules.specs.Answers.{Call, BeginUpdate, BeginQuery, Read, Write, Commit, Abort, Settle, BeginRelaxed, Outcome, says, granted, refuses}
use Rattle.rules.specs.Answers.{Wait, Deadlock, UnknownTransaction, UnknownItem, QueryMayNotWrite, StillWaiting}
use Rattle.rules.specs.Answers.{NoSlot, NumbersSpent, ClockSpent, BadTables, QuotaSpent, PastWriting, KeptApart}
use Rattle.rules.specs.Answers.{Deed, Refused, Waits, Begins, ReadsVersion, ReadsOwn, ReadsNewest, TakesShared}
use Rattle.rules.specs.Answers.{Replaces, TakesExclusive, Commits, CommitsEmpty, Ends, Aborts, Settles, CommitsSettled, AbortsSettled, as_slot, as_item, as_stamp}

-- ==== what a call comes to

-- ---- Begin update, begin query, and since request E11 begin relaxed
-- "beginning one while a transaction is past its writing": the transactions are t, the kind is k
unfoldable pub meets_settled : Sizes → List ℕ → ℕ → Bool
meets_settled S t k = eqb k a_relaxed && some_settled S t

-- "The lowest free slot gets last number plus 1."; "for begin 7, 8", and of request E11 13, "tested last": a transaction of the kind k
-- with the start q
unfoldable pub begin_by : Sizes → ℕ → ℕ → Tables → Deed
begin_by S k q G =
    let s = free_slot S G.txns in
    cond (eqb s S.slots) (Refused NoSlot)
    (cond (eqb (last_number G.txns) last_word) (Refused NumbersSpent)
    (cond (meets_settled S G.txns k) (Refused KeptApart)
    (Begins (as_slot s) k (as_stamp q))))

-- ---- Read and write by an update
-- "If the wait would let one walk from the caller .. back to the caller, the answer is 2; otherwise 1"; request E4: "as the graph
-- would stand after the new wait". Slot s, a wanted lock of kind k, item x
unfoldable pub conflicted : Sizes → ℕ → ℕ → ℕ → Tables → Deed
conflicted S s k x G =
    cond (circle_at S (noted S G.txns G.locks s k x) G.locks s) (Refused Deadlock) (Waits (as_slot s) k (as_item x))

-- what each cell of the table comes to, for slot s, a wanted lock of kind k, item x and the value v of a write
unfoldable pub cell_deed : Sizes → ℕ → ℕ → ℕ → ℕ → Tables → Cell → Deed
cell_deed S s k x v G OwnValue = ReadsOwn (as_slot s) (as_item x)
cell_deed S s k x v G NewestValue = ReadsNewest (as_slot s) (as_item x)
cell_deed S s k x v G TakeShared = TakesShared (as_slot s) (as_item x)
cell_deed S s k x v G ReplaceValue = Replaces (as_slot s) (as_item x) v
cell_deed S s k x v G ExchangeLock = TakesExclusive (as_slot s) (as_item x) v
cell_deed S s k x v G TakeExclusive = TakesExclusive (as_slot s) (as_item x) v
cell_deed S s k x v G Conflict = conflicted S s k x G

unfoldable pub access : Sizes → Asked → ℕ → ℕ → ℕ → Tables → Deed
access S a s x v G = cell_deed S s (wanted a) x v G (decision S a G.txns G.locks x s)

-- "caller awaits, and this is neither abort nor its awaited call": slot s calls for a lock of kind k on item x
unfoldable pub awaits_other : List ℕ → ℕ → ℕ → ℕ → Bool
awaits_other t s k x =
    not (eqb (txn t s).awaited_lock no_lock)
    && not (eqb (txn t s).awaited_lock k && eqb (txn t s).awaited_item x)

-- request E2, "An update that holds 32 items exclusively and writes a further one": slot s, item x. An item that it holds shared is a
-- further one, an item that it holds exclusively is not
unfoldable pub writes_further : Sizes → List ℕ → ℕ → ℕ → Bool
writes_further S l s x = eqb (exclusives_of S l s) S.quota && not (holds_exclusive (lock l x) s)

-- ---- Read by a query, and since request E6 by one past its writing
-- "code 1 when the item is held exclusively by another transaction past its writing whose stamp is at most their own": slot b is such
-- another for slot s, which reads the item x
unfoldable pub holds_back : List ℕ → List ℕ → ℕ → ℕ → ℕ → Bool
holds_back t l x s b =
    not (eqb s b) && (holds_exclusive (lock l x) b && (live_settled (txn t b) && leb (txn t b).start (txn t s).start))

unfoldable pub held_back : Sizes → List ℕ → List ℕ → ℕ → ℕ → Bool
held_back S t l x s = some_below S.slots (holds_back t l x s)

-- "From then on it reads by that stamp, sees its own working values"; a wait here changes no word. Request E11: a relaxed query "never
-- gets 1", since nobody is past its writing while it lives
unfoldable pub start_read : Sizes → ℕ → ℕ → Tables → Deed
start_read S s x G =
    cond (holds_exclusive (lock G.locks x) s) (ReadsOwn (as_slot s) (as_item x))
    (cond (held_back S G.txns G.locks x s) (Refused Wait)
    (ReadsVersion (as_slot s) (as_item x)))

-- "writes only what it already holds; any other write gets code 12": slot s, item x
unfoldable pub writes_past : List ℕ → List ℕ → ℕ → ℕ → Bool
writes_past t l s x = eqb (txn t s).kind a_settled && not (holds_exclusive (lock l x) s)

-- "for read and write 3, 4, 5, 6, then 2 or 1"; request E2: 11 "comes after 6 and before the conflict"; request E6: 12 is "tested
-- before 11". A query reads by its start: "No lock", and since request E6 a wait only for one past its writing
unfoldable pub read_by : Sizes → ℕ → ℕ → Tables → Deed
read_by S n x G =
    let s = slot_of S G.txns n in
    cond (eqb s S.slots) (Refused UnknownTransaction)
    (cond (leb S.items x) (Refused UnknownItem)
    (cond (awaits_other G.txns s shared_lock x) (Refused StillWaiting)
    (cond (eqb (txn G.txns s).kind an_update) (access S to_read s x 0 G)
    (start_read S s x G))))

unfoldable pub write_by : Sizes → ℕ → ℕ → ℕ → Tables → Deed
write_by S n x v G =
    let s = slot_of S G.txns n in
    cond (eqb s S.slots) (Refused UnknownTransaction)
    (cond (leb S.items x) (Refused UnknownItem)
    (cond (query_kind (txn G.txns s).kind) (Refused QueryMayNotWrite)
    (cond (awaits_other G.txns s exclusive_lock x) (Refused StillWaiting)
    (cond (writes_past G.txns G.locks s x) (Refused PastWriting)
    (cond (writes_further S G.locks s x) (Refused QuotaSpent)
    (access S to_write s x v G))))))

-- ---- Commit and abort
-- request E7: an update in slot s "that holds no exclusive lock, and has not ended its writing .. cannot get code 9"
unfoldable pub commit_update : Sizes → ℕ → Tables → Deed
commit_update S s G =
    cond (eqb (exclusives_of S G.locks s) 0) (CommitsEmpty (as_slot s))
    (cond (eqb (clock G.txns) last_word) (Refused ClockSpent)
    (Commits (as_slot s)))

-- "for commit 3, 6, 9"; "A query only ends."; request E6: one past its writing "takes no new one" as its stamp, so never 9
unfoldable pub commit_by : Sizes → ℕ → Tables → Deed
commit_by S n G =
    let s = slot_of S G.txns n in
    cond (eqb s S.slots) (Refused UnknownTransaction)
    (cond (not (eqb (txn G.txns s).awaited_lock no_lock)) (Refused StillWaiting)
    (cond (query_kind (txn G.txns s).kind) (Ends (as_slot s))
    (cond (eqb (txn G.txns s).kind a_settled) (CommitsSettled (as_slot s))
    (commit_update S s G))))

-- "for abort 3"; "for a query is the same as commit"
unfoldable pub abort_by : Sizes → ℕ → Tables → Deed
abort_by S n G =
    let s = slot_of S G.txns n in
    cond (eqb s S.slots) (Refused UnknownTransaction)
    (cond (query_kind (txn G.txns s).kind) (Ends (as_slot s))
    (cond (eqb (txn G.txns s).kind a_settled) (AbortsSettled (as_slot s))
    (Aborts (as_slot s))))

-- ---- Settle (request E6)
-- "Order: 10, 3, 5 for a query, 12 if already past its writing, 6, 9.", and of request E11 13, "tested last"
unfoldable pub settle_by : Sizes → ℕ → Tables → Deed
settle_by S n G =
    let s = slot_of S G.txns n in
    cond (eqb s S.slots) (Refused UnknownTransaction)
    (cond (query_kind (txn G.txns s).kind) (Refused QueryMayNotWrite)
    (cond (eqb (txn G.txns s).kind a_settled) (Refused PastWriting)
    (cond (not (eqb (txn G.txns s).awaited_lock no_lock)) (Refused StillWaiting)
    (cond (eqb (clock G.txns) last_word) (Refused ClockSpent)
    (cond (some_relaxed S G.txns) (Refused KeptApart)
    (Settles (as_slot s)))))))

-- ---- the eight calls. "A query's start is the clock."; of a relaxed query "start 0"
unfoldable pub judged : Sizes → Call → Tables → Deed
judged S BeginUpdate G = begin_by S an_update first_stamp G
judged S BeginQuery G = begin_by S a_query (clock G.txns) G
judged S (Read n x) G = read_by S n x G
judged S (Write n x v) G = write_by S n x v G
judged S (Commit n) G = commit_by S n G
judged S (Abort n) G = abort_by S n G
judged S (Settle n) G = settle_by S n G
judged S BeginRelaxed G = begin_by S a_relaxed first_stamp G

-- ==== what each deed answers and changes

-- the tables with other words for the transactions; and for the locks
abbrev pub with_txns : Tables → List ℕ → Tables
with_txns G t = tables t G.locks G.versions

abbrev pub with_locks : Tables → List ℕ → List ℕ → Tables
with_locks G t l = tables t l G.versions

-- ---- request E11, the sets of later updates: "An update joins when it asks to write what the query has read (granted or waiting), when
-- the query reads what it holds exclusively, or when it reads or overwrites a version whose creator is in the set."
-- the transactions with slot s in the sets of the relaxed queries of the word m, too
unfoldable pub joined : List ℕ → ℕ → ℕ → List ℕ
joined t s m = set_later_for t s (bit_or (txn t s).later_for m)

abbrev pub joining : ℕ → ℕ → Tables → Tables
joining s m G = with_txns G (joined G.txns s m)

-- who asks for a lock of kind k on the item x, "granted or waiting", joins the sets of those who have read what it asks to write
unfoldable pub asking_joins : Sizes → List ℕ → ℕ → ℕ → ℕ
asking_joins S t k x = cond (eqb k exclusive_lock) (have_read S t x) 0

-- who is granted one reads the newest version or overwrites it, and joins besides the sets in which its creator is. Who has the lock
-- already is in all of them
unfoldable pub grant_joins : Sizes → Tables → ℕ → ℕ → ℕ
grant_joins S G k x = bit_or (asking_joins S G.txns k x) (hidden_now S G.versions x)

-- the transactions with the exclusive holder of an item, if there is one, in the set of the relaxed query in slot q; e is the holder's
-- slot plus 1
unfoldable pub holder_joins : ℕ → ℕ → List ℕ → List ℕ
holder_joins zero q t = t
holder_joins (suc b) q t = joined t b (2 ^ q)

-- the transactions with a read of item x by slot s noted, if it is a relaxed query: it has read x, and the holder joins its set
unfoldable pub read_noted : List ℕ → List ℕ → ℕ → ℕ → List ℕ
read_noted t l s x =
    cond (eqb (txn t s).kind a_relaxed)
    (set_items_read (holder_joins (lock l x).exclusive s t) s (with_bit (txn t s).items_read x))
    t

-- the transactions without slot s in the sets of any: the set of the relaxed query there is no more
unfoldable pub forgotten : Sizes → ℕ → List ℕ → List ℕ
forgotten S s t = reworded txn_later_for_at S.slots (λ (r : Txn). without_bit r.later_for s) t

-- ---- a begin: a row of the kind k with the start q in slot s
unfoldable pub begun : ℕ → ℕ → ℕ → Tables → Tables
begun k q s G =
    let n = last_number G.txns + 1 in
    with_txns G
    (set_txn (set G.txns last_number_at n) s (new_txn n k q))

-- ---- a grant to an update
-- "A grant clears the awaited fields."; request E4: the ranks behind a leaver move
unfoldable pub cleared : Sizes → List ℕ → ℕ → List ℕ
cleared S t s = set_awaited (closed_up S t s) s no_lock 0 0

-- the tables after a grant to slot s, with the lock h on item x
unfoldable pub locked : Sizes → ℕ → ℕ → Lock → Tables → Tables
locked S s x h G = with_locks G (cleared S G.txns s) (set_lock G.locks x h)

-- "own working value", "replace the working value"
abbrev pub replaced : Lock → ℕ → Lock
replaced h v = record { shared = h.shared; exclusive = h.exclusive; working = v }

-- "take shared"
abbrev pub shared_too : Lock → ℕ → Lock
shared_too h s = record { shared = with_bit h.shared s; exclusive = h.exclusive; working = h.working }

-- "A taken exclusive lock clears the caller's shared bit and sets the working value."
abbrev pub taken : Lock → ℕ → ℕ → Lock
taken h s v = record { shared = without_bit h.shared s; exclusive = suc s; working = v }

-- a further lock on item x: the tables after slot s took it, wanting one of kind k, with the lock h there now
unfoldable pub locked_anew : Sizes → ℕ → ℕ → ℕ → Lock → Tables → Tables
locked_anew S s k x h G = locked S s x h (joining s (grant_joins S G k x) G)

-- ---- Read by a query, and since request E6 by one past its writing
-- request E8, "the first version in a row weighs 1, .. the nth n, summed over a query's reads since begin and divided by their number":
-- the transactions with a read by slot s counted that looked at k versions. Both are "0 for every update", so one past its writing is not
-- counted
unfoldable pub counted : List ℕ → ℕ → ℕ → List ℕ
counted t s k =
    cond (query_kind (txn t s).kind)
    (set_reads t s (held_at_last ((txn t s).read_count + 1)) (held_at_last ((txn t s).weight_sum + k)))
    t

-- "The value is that of the newest version whose stamp is at most its start. .. The looked count is the place of that version in its
-- row, from 1."; request E11: "The query reads the newest version whose creator is not in the set"
unfoldable pub version_read : Sizes → ℕ → ℕ → Tables → Outcome
version_read S s x G =
    let q = reader_in G.txns s in
    let vs = versions_of S G.versions x in
    let k = suc (place q vs) in
    says granted (choice q vs).value 0 k (with_txns G (counted (read_noted G.txns G.locks s x) s k))

-- ---- Commit
-- "For each item it holds exclusively the commit rewrites that item's row .. with the new pair in front.": the versions
-- of item x, c being the new stamp. Request E11: whoever is in the sets m is so as the creator of its versions too
unfoldable pub with_new : List ℕ → ℕ → ℕ → ℕ → ℕ → List Version → List Version
with_new l s c m x vs = cond (holds_exclusive (lock l x) s) (record { stamp = c; value = (lock l x).working; hidden = m } ∷ vs) vs

-- "Its locks, working values and row go.": slot s, under the stamp c, t being the transactions with the clock as it is then
unfoldable pub committed_under : Sizes → ℕ → ℕ → List ℕ → Tables → Tables
committed_under S s c u G =
    let t = set_txn u s no_txn in
    tables t (release S s G.locks) (rewritten S (readers S t) (with_new G.locks s c (txn G.txns s).later_for) G.versions)

-- "An update takes clock plus 1", since request E7 no more when it wrote nothing
unfoldable pub committed : Sizes → ℕ → Tables → Tables
committed S s G =
    let c = clock G.txns + 1 in
    committed_under S s c (set G.txns clock_at c) G

-- request E6: "Its commit puts versions under that stamp, answers it and takes no new one"
unfoldable pub settled_committed : Sizes → ℕ → Tables → Tables
settled_committed S s G = committed_under S s (txn G.txns s).start G.txns G

-- "A query only ends."; request E11: and with a relaxed one its set
unfoldable pub ended : Sizes → ℕ → Tables → Tables
ended S s G =
    let t = set_txn (forgotten S s G.txns) s no_txn in
    tables t G.locks (rewritten S (readers S t) (λ x vs. revealed s vs) G.versions)

-- ---- Abort
-- "Abort removes locks, working values and the row"; request E4: and its place in the line
unfoldable pub aborted : Sizes → ℕ → Tables → Tables
aborted S s G = with_locks G (set_txn (closed_up S G.txns s) s no_txn) (release S s G.locks)

-- request E6: "its abort trims rows as a query's end does"
unfoldable pub settled_aborted : Sizes → ℕ → Tables → Tables
settled_aborted S s G =
    let t = set_txn G.txns s no_txn in
    tables t (release S s G.locks) (rewritten S (readers S t) (λ x vs. vs) G.versions)

-- ---- Settle
-- "the update takes clock plus 1 as its stamp, the clock moves there, .. and its shared locks go. Its row then has kind 2 and that
-- stamp as start."
unfoldable pub settled : Sizes → ℕ → Tables → Tables
settled S s G =
    let c = clock G.txns + 1 in
    with_locks G (set_txn (set G.txns clock_at c) s (new_txn (txn G.txns s).number a_settled c)) (unshare S s G.locks)

-- ---- each deed. "begin: number is the new number; update commit: number is the stamp; read: value, and looked is 1 for the newest
-- value, 0 for the own working value, the place for a query"
unfoldable pub done : Sizes → Deed → Tables → Outcome
done S (Refused r) G = refuses r G
-- "and the awaited fields are written"; request E11: "noted with codes 0 and 1"
done S (Waits s k x) G =
    refuses Wait (with_txns G (joined (noted S G.txns G.locks s.0 k x.0) s.0 (asking_joins S G.txns k x.0)))
done S (Begins s k q) G = says granted 0 (last_number G.txns + 1) 0 (begun k q.0 s.0 G)
done S (ReadsVersion s x) G = version_read S s.0 x.0 G
done S (ReadsOwn s x) G = says granted (lock G.locks x.0).working 0 0 (with_txns G (cleared S G.txns s.0))
done S (ReadsNewest s x) G = says granted (newest S G.versions x.0) 0 1 (with_txns G (cleared S G.txns s.0))
done S (TakesShared s x) G =
    says granted (newest S G.versions x.0) 0 1
    (locked_anew S s.0 shared_lock x.0 (shared_too (lock G.locks x.0) s.0) G)
done S (Replaces s x v) G = says granted 0 0 0 (locked S s.0 x.0 (replaced (lock G.locks x.0) v) G)
done S (TakesExclusive s x v) G =
    says granted 0 0 0 (locked_anew S s.0 exclusive_lock x.0 (taken (lock G.locks x.0) s.0 v) G)
done S (Commits s) G = says granted 0 (clock G.txns + 1) 0 (committed S s.0 G)
-- request E7: "commits without a new stamp, answers the present clock". Its locks and its row go, as at an abort: it wrote nothing
done S (CommitsEmpty s) G = says granted 0 (clock G.txns) 0 (aborted S s.0 G)
-- request E8: "A query's commit or abort answers the sum as value and the count as looked"
done S (Ends s) G = says granted (txn G.txns s.0).weight_sum 0 (txn G.txns s.0).read_count (ended S s.0 G)
done S (Aborts s) G = says granted 0 0 0 (aborted S s.0 G)
-- "the stamp is answered as number"
done S (Settles s) G = says granted 0 (clock G.txns + 1) 0 (settled S s.0 G)
done S (CommitsSettled s) G = says granted 0 (txn G.txns s.0).start 0 (settled_committed S s.0 G)
done S (AbortsSettled s) G = says granted 0 0 0 (settled_aborted S s.0 G)

-- ==== a call, on good tables and on any
unfoldable pub act : Sizes → Call → Tables → Outcome
act S c G = done S (judged S c G) G

-- "Order: 10; then .."
unfoldable pub step : Sizes → Call → Tables → Outcome
step S c G = cond (good S G) (act S c G) (refuses BadTables G)
