-- Document 01, "What comes back": when each code is answered, row by row of the table, and in which order they are tested. `step` is
-- proved to answer so.
use Rattle.std.specs.Prelude.{ℕ, ◌≤◌, ◌<◌, ◌≡◌, ◌≢◌, ◌⊎◌, false, List, [], ◌∷◌, T}
use Rattle.names.specs.declared.Sizes.{Sizes}
use Rattle.names.specs.Sizes.{last_word}
use Rattle.rules.specs.Tables.{Tables, last_number, clock, txn, no_lock, shared_lock, exclusive_lock}
use Rattle.rules.specs.Tables.{live, live_update, any_query, live_settled, live_relaxed, by_start, Lock, lock, holds_shared, holds_exclusive, exclusives_of}
use Rattle.rules.specs.Waits.{rank_for, blocks, noted, waits_for, Walk}
use Rattle.rules.specs.Good.{Good}
use Rattle.rules.specs.Answers.{Call, BeginUpdate, BeginQuery, Read, Write, Commit, Abort, Settle, BeginRelaxed, granted, code, Refusal}
use Rattle.rules.specs.Answers.{Wait, Deadlock, UnknownTransaction, UnknownItem, QueryMayNotWrite, StillWaiting}
use Rattle.rules.specs.Answers.{NoSlot, NumbersSpent, ClockSpent, BadTables, QuotaSpent, PastWriting, KeptApart}
use Rattle.rules.specs.Step.{awaits_other, holds_back}

-- the transaction with the number n lives in slot s
pub record Caller (S : Sizes) (G : Tables) (n s : ℕ) : Type 0 where
  pub inside : s < S.slots
  pub alive : T (live (txn G.txns s))
  pub name : (txn G.txns s).number ≡ n

-- s is the lowest free slot
pub record Free (S : Sizes) (t : List ℕ) (s : ℕ) : Type 0 where
  pub inside : s < S.slots
  pub free : T (live (txn t s)) → ⊥
  pub lowest : (r : ℕ) → r < s → T (live (txn t r))

-- the update n in slot s asks for a lock of kind k on the item x, and awaits nothing else
pub record Updater (S : Sizes) (G : Tables) (n s k x : ℕ) : Type 0 where
  pub caller : Caller S G n s
  pub update : T (live_update (txn G.txns s))
  pub known : x < S.items
  pub free : awaits_other G.txns s k x ≡ false

-- the call names the transaction n
abbrev pub Names : Call → ℕ → Type 0
Names BeginUpdate n = ⊥
Names BeginQuery n = ⊥
Names (Read m x) n = m ≡ n
Names (Write m x v) n = m ≡ n
Names (Commit m) n = m ≡ n
Names (Abort m) n = m ≡ n
Names (Settle m) n = m ≡ n
Names BeginRelaxed n = ⊥

-- the call asks for a lock of kind k on item x, if its caller is an update
abbrev pub Wants : Call → ℕ → ℕ → Type 0
Wants BeginUpdate k x = ⊥
Wants BeginQuery k x = ⊥
Wants (Read m y) k x = (k ≡ shared_lock) × (y ≡ x)
Wants (Write m y v) k x = (k ≡ exclusive_lock) × (y ≡ x)
Wants (Commit m) k x = ⊥
Wants (Abort m) k x = ⊥
Wants (Settle m) k x = ⊥
Wants BeginRelaxed k x = ⊥

-- the call is a settle
abbrev pub IsSettle : Call → Type 0
IsSettle c = (n : ℕ) × (c ≡ Settle n)

-- the caller lives in slot s
pub record CallerIn (c : Call) (S : Sizes) (G : Tables) (s : ℕ) : Type 0 where
  pub inside : s < S.slots
  pub alive : T (live (txn G.txns s))
  pub named : Names c (txn G.txns s).number

-- slot s needs a further lock for one of kind k: it does not hold the item exclusively, nor shares it and only reads
abbrev pub NeedsLock : Lock → ℕ → ℕ → Type 0
NeedsLock h k s = (T (holds_exclusive h s) → ⊥) × (k ≡ shared_lock → T (holds_shared h s) → ⊥)

-- "conflict": slot s is an update and another holder's lock, or an earlier waiter's wanted one, conflicts with its request for a lock
-- of kind k on item x. Request E4: "A call that needs no further lock is granted as before."
pub record ConflictIn (c : Call) (S : Sizes) (G : Tables) (s k x : ℕ) : Type 0 where
  pub caller : CallerIn c S G s
  pub update : T (live_update (txn G.txns s))
  pub wants : Wants c k x
  pub further : NeedsLock (lock G.locks x) k s
  pub other : ℕ
  pub other_inside : other < S.slots
  pub other_blocks : T (blocks G.txns G.locks k x (rank_for S G.txns G.locks s x) s other)

-- request E6: slot s reads by a start an item that it does not hold itself, and another one past its writing, whose stamp is at most
-- its own, holds it exclusively
pub record HeldBackIn (c : Call) (S : Sizes) (G : Tables) (s x : ℕ) : Type 0 where
  pub caller : CallerIn c S G s
  pub reader : T (by_start (txn G.txns s))
  pub wants : Wants c shared_lock x
  pub not_own : T (holds_exclusive (lock G.locks x) s) → ⊥
  pub other : ℕ
  pub other_inside : other < S.slots
  pub other_holds : T (holds_back G.txns G.locks x s other)

-- "walk from the caller, waiting transaction to holder, back to the caller", its wait noted and the ranks moved
abbrev pub Circle : Sizes → Tables → ℕ → ℕ → ℕ → Type 0
Circle S G s k x = Walk (waits_for (noted S G.txns G.locks s k x) G.locks) s s

-- ---- the column "when"
unfoldable pub When : Sizes → Call → Tables → Refusal → Type 0
-- "conflict, no circle"; request E6: "Queries and such readers now can wait"
When S c G Wait =
    ((s : ℕ) × (k : ℕ) × (x : ℕ) × ConflictIn c S G s k x × (Circle S G s k x → ⊥)) ⊎ ((s : ℕ) × (x : ℕ) × HeldBackIn c S G s x)
-- "conflict, a circle would close"
When S c G Deadlock = (s : ℕ) × (k : ℕ) × (x : ℕ) × ConflictIn c S G s k x × Circle S G s k x
-- "no live row has that number (0 included)"
When S c G UnknownTransaction = (s : ℕ) → CallerIn c S G s → ⊥
-- "item above 63"
When S c G UnknownItem = (k : ℕ) × (x : ℕ) × Wants c k x × (S.items ≤ x)
-- "write by a query"; request E6: a settle "5 for a query"; request E11: relaxed or not
When S c G QueryMayNotWrite =
    (s : ℕ) × CallerIn c S G s × T (any_query (txn G.txns s)) × (((x : ℕ) × Wants c exclusive_lock x) ⊎ IsSettle c)
-- "caller awaits, and this is neither abort nor its awaited call"
When S c G StillWaiting =
    (s : ℕ) × CallerIn c S G s × ((txn G.txns s).awaited_lock ≢ no_lock)
    × (Wants c (txn G.txns s).awaited_lock (txn G.txns s).awaited_item → ⊥)
-- "begin with 16 live", 32 since request E5
When S c G NoSlot = (s : ℕ) → s < S.slots → T (live (txn G.txns s))
-- "begin with last number 4,294,967,295"
When S c G NumbersSpent = last_number G.txns ≡ last_word
-- "update commit at clock 4,294,967,295", and since request E6 a settle. Request E7: an update "that holds no exclusive lock .. cannot get
-- code 9" at its commit
When S c G ClockSpent =
    (s : ℕ) × CallerIn c S G s × T (live_update (txn G.txns s)) × (clock G.txns ≡ last_word)
    × ((exclusives_of S G.locks s ≢ 0) ⊎ IsSettle c)
-- "tables not good"
When S c G BadTables = Good S G → ⊥
-- request E2: "An update that holds 32 items exclusively and writes a further one"
When S c G QuotaSpent =
    (s : ℕ) × (x : ℕ) × CallerIn c S G s × T (live_update (txn G.txns s)) × Wants c exclusive_lock x
    × (exclusives_of S G.locks s ≡ S.quota) × (T (holds_exclusive (lock G.locks x) s) → ⊥)
-- request E6: "12 if already past its writing"; "writes only what it already holds; any other write gets code 12"
When S c G PastWriting =
    (s : ℕ) × CallerIn c S G s × T (live_settled (txn G.txns s))
    × (((x : ℕ) × Wants c exclusive_lock x × (T (holds_exclusive (lock G.locks x) s) → ⊥)) ⊎ IsSettle c)
-- request E11: "Ending the writing (E6) while a relaxed query lives, or beginning one while a transaction is past its writing"
When S c G KeptApart =
    (IsSettle c × ((q : ℕ) × (q < S.slots) × T (live_relaxed (txn G.txns q))))
    ⊎ ((c ≡ BeginRelaxed) × ((s : ℕ) × (s < S.slots) × T (live_settled (txn G.txns s))))

-- ---- "Order: 10; then for begin 7, 8; for read and write 3, 4, 5, 6, then 2 or 1; for commit 3, 6, 9; for abort 3."
-- Request E2: the test of 11 "comes after 6 and before the conflict." Request E6: 12 is "tested before 11"; of a settle "10, 3, 5 for a
-- query, 12 if already past its writing, 6, 9". Request E11: 13 is "tested last"
unfoldable pub then_tested : Call → List Refusal
then_tested BeginUpdate = NoSlot ∷ NumbersSpent ∷ []
then_tested BeginQuery = NoSlot ∷ NumbersSpent ∷ []
then_tested (Read n x) =
    UnknownTransaction ∷ UnknownItem ∷ QueryMayNotWrite ∷ StillWaiting ∷ PastWriting ∷ QuotaSpent ∷ Deadlock ∷ Wait ∷ []
then_tested (Write n x v) =
    UnknownTransaction ∷ UnknownItem ∷ QueryMayNotWrite ∷ StillWaiting ∷ PastWriting ∷ QuotaSpent ∷ Deadlock ∷ Wait ∷ []
then_tested (Commit n) = UnknownTransaction ∷ StillWaiting ∷ ClockSpent ∷ []
then_tested (Abort n) = UnknownTransaction ∷ []
then_tested (Settle n) = UnknownTransaction ∷ QueryMayNotWrite ∷ PastWriting ∷ StillWaiting ∷ ClockSpent ∷ KeptApart ∷ []
then_tested BeginRelaxed = NoSlot ∷ NumbersSpent ∷ KeptApart ∷ []

unfoldable pub order : Call → List Refusal
order c = BadTables ∷ then_tested c

-- k is the code of the first refusal in the list whose condition holds, or 0 where none holds
unfoldable pub Answered : Sizes → Call → Tables → List Refusal → ℕ → Type 0
Answered S c G [] k = k ≡ granted
Answered S c G (r ∷ rs) k = (When S c G r × (k ≡ code r)) ⊎ ((When S c G r → ⊥) × Answered S c G rs k)
