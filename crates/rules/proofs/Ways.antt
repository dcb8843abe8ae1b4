-- Every way that a call can go on good tables: the deed that it is judged to be, with what is known then. This is what the walk over
-- the tests gives (Judged); each theorem about calls is then a case for each way.
use Prim.Native.Nat.{ℕ, ◌≤◌, ◌<◌}
use mathlib.Core.Path.{◌≡◌}
use mathlib.Core.Logic.{◌≢◌, ◌⊎◌}
use mathlib.Core.Bool.{false}
use native.Mathlib.Omega.{arith}
use lib.Dec.{T}
use Rattle.names.specs.declared.Sizes.{Sizes}
use Rattle.names.specs.Sizes.{first_stamp, last_word}
use Rattle.rules.specs.Tables.{Tables, last_number, clock, txn, live_update, live_settled, live_relaxed, any_query, is_reader, by_start, exclusives_of}
use Rattle.rules.specs.Tables.{an_update, a_query, a_relaxed, no_lock, shared_lock, exclusive_lock, lock, holds, holds_shared, holds_exclusive}
use Rattle.rules.specs.Answers.{Call, BeginUpdate, BeginQuery, Read, Write, Commit, Abort, Settle, BeginRelaxed, granted, code, Refusal}
use Rattle.rules.specs.Answers.{Wait, Deadlock, UnknownTransaction, UnknownItem, QueryMayNotWrite, StillWaiting, NoSlot, NumbersSpent, ClockSpent, BadTables, QuotaSpent, PastWriting, KeptApart}
use Rattle.rules.specs.Answers.{Deed, Refused, Waits, Begins, ReadsVersion, ReadsOwn, ReadsNewest, TakesShared}
use Rattle.rules.specs.Answers.{Replaces, TakesExclusive, Commits, CommitsEmpty, Ends, Aborts, Settles, CommitsSettled, AbortsSettled, as_slot, as_item, as_stamp}
use Rattle.rules.specs.Step.{awaits_other, held_back}
pub use Rattle.rules.specs.Conditions.{Updater}
use Rattle.rules.specs.Conditions.{Caller, Free, CallerIn, Wants, Circle}
use Rattle.rules.proofs.Awaits.{MayAwait}

-- no refusal has the code of a grant
pub refusal-code : (r : Refusal) → code r ≢ granted
refusal-code Wait e = omega arith
refusal-code Deadlock e = omega arith
refusal-code UnknownTransaction e = omega arith
refusal-code UnknownItem e = omega arith
refusal-code QueryMayNotWrite e = omega arith
refusal-code StillWaiting e = omega arith
refusal-code NoSlot e = omega arith
refusal-code NumbersSpent e = omega arith
refusal-code ClockSpent e = omega arith
refusal-code BadTables e = omega arith
refusal-code QuotaSpent e = omega arith
refusal-code PastWriting e = omega arith
refusal-code KeptApart e = omega arith

-- and none has a code above the last one
pub refusal-most : (r : Refusal) → code r ≤ code KeptApart
refusal-most Wait = omega arith
refusal-most Deadlock = omega arith
refusal-most UnknownTransaction = omega arith
refusal-most UnknownItem = omega arith
refusal-most QueryMayNotWrite = omega arith
refusal-most StillWaiting = omega arith
refusal-most NoSlot = omega arith
refusal-most NumbersSpent = omega arith
refusal-most ClockSpent = omega arith
refusal-most BadTables = omega arith
refusal-most QuotaSpent = omega arith
refusal-most PastWriting = omega arith
refusal-most KeptApart = omega arith

-- a refusal of a call on good tables, that is no wait
abbrev pub Mere : Refusal → Type 0
Mere r = (code r ≢ code BadTables) × (code r ≢ code Wait)

-- the caller of c in slot s may note that it awaits a lock of kind k on the item x
pub record Waiter (c : Call) (S : Sizes) (G : Tables) (s k x : ℕ) : Type 0 where
  pub caller : CallerIn c S G s
  pub update : T (live_update (txn G.txns s))
  pub wants : Wants c k x
  pub some : k ≢ no_lock
  pub free : awaits_other G.txns s k x ≡ false
  pub may : MayAwait S G s k x
  pub circle : Circle S G s k x → ⊥

pub data Way (S : Sizes) (G : Tables) : Call → Deed → Type 0 where
  refused : {c : Call} (r : Refusal) → Mere r → Way S G c (Refused r)
  waited : {c : Call} (s k x : ℕ) → Waiter c S G s k x → Way S G c (Waits (as_slot s) k (as_item x))
  -- request E6: who reads by a start is held back, and nothing is noted
  kept_waiting : {c : Call} (s : ℕ) → CallerIn c S G s → T (by_start (txn G.txns s)) → Way S G c (Refused Wait)
  began_update : (s : ℕ) → Free S G.txns s → last_number G.txns ≢ last_word → Way S G BeginUpdate (Begins (as_slot s) an_update (as_stamp first_stamp))
  began_query : (s : ℕ) → Free S G.txns s → last_number G.txns ≢ last_word → Way S G BeginQuery (Begins (as_slot s) a_query (as_stamp (clock G.txns)))
  -- request E11
  began_relaxed :
      (s : ℕ) → Free S G.txns s → last_number G.txns ≢ last_word → ((r : ℕ) → r < S.slots → T (live_settled (txn G.txns r)) → ⊥)
      → Way S G BeginRelaxed (Begins (as_slot s) a_relaxed (as_stamp first_stamp))
  read_own : (n s x : ℕ) → Updater S G n s shared_lock x → T (holds_exclusive (lock G.locks x) s) → Way S G (Read n x) (ReadsOwn (as_slot s) (as_item x))
  read_newest : (n s x : ℕ) → Updater S G n s shared_lock x → T (holds_shared (lock G.locks x) s) → Way S G (Read n x) (ReadsNewest (as_slot s) (as_item x))
  read_shared :
      (n s x : ℕ) → Updater S G n s shared_lock x → (T (holds (lock G.locks x) s) → ⊥) → (lock G.locks x).exclusive ≡ 0
      → Way S G (Read n x) (TakesShared (as_slot s) (as_item x))
  read_settled :
      (n s x : ℕ) → Caller S G n s → T (live_settled (txn G.txns s)) → x < S.items → T (holds_exclusive (lock G.locks x) s)
      → Way S G (Read n x) (ReadsOwn (as_slot s) (as_item x))
  read_version :
      (n s x : ℕ) → Caller S G n s → T (is_reader (txn G.txns s)) → x < S.items → (T (holds_exclusive (lock G.locks x) s) → ⊥)
      → held_back S G.txns G.locks x s ≡ false → Way S G (Read n x) (ReadsVersion (as_slot s) (as_item x))
  wrote_own :
      (n s x v : ℕ) → Updater S G n s exclusive_lock x → T (holds_exclusive (lock G.locks x) s)
      → Way S G (Write n x v) (Replaces (as_slot s) (as_item x) v)
  wrote_settled :
      (n s x v : ℕ) → Caller S G n s → T (live_settled (txn G.txns s)) → x < S.items → T (holds_exclusive (lock G.locks x) s)
      → Way S G (Write n x v) (Replaces (as_slot s) (as_item x) v)
  wrote_taken :
      (n s x v : ℕ) → Updater S G n s exclusive_lock x → T (holds_shared (lock G.locks x) s) ⊎ (T (holds (lock G.locks x) s) → ⊥)
      → ((r : ℕ) → r ≢ s → T (holds (lock G.locks x) r) → ⊥) → exclusives_of S G.locks s ≢ S.quota
      → Way S G (Write n x v) (TakesExclusive (as_slot s) (as_item x) v)
  committed_update :
      (n s : ℕ) → Caller S G n s → T (live_update (txn G.txns s)) → (txn G.txns s).awaited_lock ≡ no_lock → clock G.txns ≢ last_word
      → exclusives_of S G.locks s ≢ 0 → Way S G (Commit n) (Commits (as_slot s))
  committed_empty :
      (n s : ℕ) → Caller S G n s → T (live_update (txn G.txns s)) → (txn G.txns s).awaited_lock ≡ no_lock
      → exclusives_of S G.locks s ≡ 0 → Way S G (Commit n) (CommitsEmpty (as_slot s))
  committed_settled : (n s : ℕ) → Caller S G n s → T (live_settled (txn G.txns s)) → Way S G (Commit n) (CommitsSettled (as_slot s))
  committed_query : (n s : ℕ) → Caller S G n s → T (any_query (txn G.txns s)) → Way S G (Commit n) (Ends (as_slot s))
  aborted_update : (n s : ℕ) → Caller S G n s → T (live_update (txn G.txns s)) → Way S G (Abort n) (Aborts (as_slot s))
  aborted_settled : (n s : ℕ) → Caller S G n s → T (live_settled (txn G.txns s)) → Way S G (Abort n) (AbortsSettled (as_slot s))
  aborted_query : (n s : ℕ) → Caller S G n s → T (any_query (txn G.txns s)) → Way S G (Abort n) (Ends (as_slot s))
  settled_update :
      (n s : ℕ) → Caller S G n s → T (live_update (txn G.txns s)) → (txn G.txns s).awaited_lock ≡ no_lock → clock G.txns ≢ last_word
      → ((q : ℕ) → q < S.slots → T (live_relaxed (txn G.txns q)) → ⊥) → Way S G (Settle n) (Settles (as_slot s))
