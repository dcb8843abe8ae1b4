-- What is promised of `step`, a statement for each sentence: this is what docs/PROMISES.md cites. Each is proved for all sizes (in the
-- file of proofs/ that is named beside it), where a row may grow for those with at least as many places as slots.
use Rattle.std.specs.Prelude.{ℕ, suc, ◌+◌, ◌≤◌, ◌<◌, ◌≡◌, ◌≢◌, ◌⊎◌, ◌↔◌, Bool, true, false, cond, ◌&&◌, ◌||◌, not, List, [], ◌∷◌, length, get_or, T, eqb, ltb}
use Rattle.std.specs.Int.Bits.{bit_or}
use Rattle.names.specs.declared.Sizes.{Sizes}
use Rattle.rules.specs.Words.{some_below, bit}
use Rattle.rules.specs.Tables.{Tables, clock, Txn, txn, with_rank, with_later_for, live, live_update, live_settled, live_relaxed, by_start, is_reader}
use Rattle.rules.specs.Tables.{Reader, up_to, outside, reader_in, readers, no_lock, shared_lock, exclusive_lock, Lock, lock, holds, holds_shared, holds_exclusive}
use Rattle.rules.specs.Versions.{Version, no_version, versions_of, hidden_at, hidden_now, sees, place, choice, revealed}
use Rattle.rules.specs.Waits.{awaits_on, waiters_on, rank_for, raised, blocks, waits_for, Walk}
use Rattle.rules.specs.Good.{Good}
use Rattle.rules.specs.Locks.{Asked, to_read, to_write, wanted}
use Rattle.rules.specs.Answers.{Call, Read, Write, Commit, Abort, Outcome, says, granted, code, Wait, Deadlock, StillWaiting}
use Rattle.rules.specs.Step.{step, holds_back, held_back, writes_further, with_txns, asking_joins, joining, read_noted, counted, with_new, committed, settled_committed, ended, settled_aborted}
use Rattle.rules.specs.Conditions.{Caller, CallerIn, Updater, Names, Wants, NeedsLock, Circle, order, Answered}
use Rattle.rules.specs.Changed.{AwaitedChanged, Granted}

-- the code that a call is answered, and the tables that it leaves
abbrev pub code_of : Sizes → Call → Tables → ℕ
code_of S c G = (step S c G).answer.code

abbrev pub after : Sizes → Call → Tables → Tables
after S c G = (step S c G).after

-- ==== every call on any tables

-- "Show once that no second outcome fits" (Steps)
abbrev pub OneOutcome : Sizes → Type 0
OneOutcome S = (c : Call) (G : Tables) → (o : Outcome) × (o ≡ step S c G) × ((p : Outcome) → p ≡ step S c G → p ≡ o)

-- "each refusal under its stated condition and no other", in the document's order (Answered)
abbrev pub CodeExactly : Sizes → Type 0
CodeExactly S = (c : Call) (G : Tables) (k : ℕ) → (code_of S c G ≡ k) ↔ Answered S c G (order c) k

-- "a refusal changes no word, .." (Refused)
abbrev pub RefusedUnchanged : Sizes → Type 0
RefusedUnchanged S = (c : Call) (G : Tables) → code_of S c G ≢ granted → code_of S c G ≢ code Wait → after S c G ≡ G

-- the rank of a row after slot s has come into the line of item x; one that stood there already leaves all as they are
abbrev pub coming : Sizes → Tables → ℕ → ℕ → Txn → ℕ
coming S G s x q = cond (awaits_on x (txn G.txns s)) q.rank (raised x (rank_for S G.txns G.locks s x) q)

-- ".. only a wait is noted down": "only the caller's awaited fields", since request E4 the ranks behind it, and since request E11 the sets
-- that it joins. Request E6: so waits an update that still writes, and the waits of those who read by a start "change no word" (Refused)
pub record Noted (S : Sizes) (c : Call) (G : Tables) : Type 0 where
  pub slot : ℕ
  pub lock_kind : ℕ
  pub item : ℕ
  pub caller : CallerIn c S G slot
  pub update : T (live_update (txn G.txns slot))
  pub wants : Wants c lock_kind item
  pub txns :
      AwaitedChanged S slot lock_kind item (rank_for S G.txns G.locks slot item)
      (bit_or (txn G.txns slot).later_for (asking_joins S G.txns lock_kind item)) (coming S G slot item) G.txns (after S c G).txns
  pub locks : (after S c G).locks ≡ G.locks
  pub versions : (after S c G).versions ≡ G.versions

abbrev pub WaitWords : Sizes → Type 0
WaitWords S =
    (c : Call) (G : Tables) → code_of S c G ≡ code Wait
    → Noted S c G ⊎ (((s : ℕ) × CallerIn c S G s × T (by_start (txn G.txns s))) × (after S c G ≡ G))

-- "What is not named is 0.": beside a refusal's code (Refused)
abbrev pub RefusedZeros : Sizes → Type 0
RefusedZeros S =
    (c : Call) (G : Tables) → code_of S c G ≢ granted
    → (step S c G).answer ≡ record { code = code_of S c G; value = 0; number = 0; looked = 0 }

-- "0 granted": its four numbers, and exactly the words that the document names (Outcomes)
abbrev pub GrantedChanges : Sizes → Type 0
GrantedChanges S = (c : Call) (G : Tables) → code_of S c G ≡ granted → Granted S G c (step S c G)

-- "Every call on good tables leaves good tables." (Keeps)
abbrev pub StaysGood : Sizes → Type 0
StaysGood S = (c : Call) (G : Tables) → Good S G → Good S (after S c G)

-- ==== an update's read or write

-- the call by which the transaction n asks to read the item x, or to write v there
abbrev pub asking : Asked → ℕ → ℕ → ℕ → Call
asking to_read n x v = Read n x
asking to_write n x v = Write n x v

-- "an update's read or write that passes the earlier tests": n in slot s is an update, the item is known, nothing else is awaited, and
-- the quota of request E2 leaves room for a write
pub record Passes (S : Sizes) (G : Tables) (a : Asked) (n s x : ℕ) : Type 0 where
  pub asks : Updater S G n s (wanted a) x
  pub room : a ≡ to_write → writes_further S G.locks s x ≡ false

-- a further lock is needed, and another holder's lock or an earlier waiter's wanted one conflicts
abbrev pub Conflicting : Sizes → Tables → Asked → ℕ → ℕ → Type 0
Conflicting S G a s x =
    NeedsLock (lock G.locks x) (wanted a) s
    × ((b : ℕ) × (b < S.slots) × T (blocks G.txns G.locks (wanted a) x (rank_for S G.txns G.locks s x) s b))

-- ".. is granted exactly when no other holder's lock conflicts, ..", nor, since request E4, an earlier waiter's wanted one: it is answered
-- the code k exactly where Q holds (Granted)
abbrev pub AnsweredWhere : Sizes → ℕ → (Tables → Asked → ℕ → ℕ → Type 0) → Type 0
AnsweredWhere S k Q =
    (G : Tables) (a : Asked) (n s x v : ℕ) → Good S G → Passes S G a n s x → (code_of S (asking a n x v) G ≡ k) ↔ Q G a s x

abbrev pub GrantedExactly : Sizes → Type 0
GrantedExactly S = AnsweredWhere S granted (λ G a s x. Conflicting S G a s x → ⊥)

-- ".. and refused as a deadlock exactly when its wait would close a circle of waits"
abbrev pub DeadlockExactly : Sizes → Type 0
DeadlockExactly S = AnsweredWhere S (code Deadlock) (λ G a s x. Conflicting S G a s x × Circle S G s (wanted a) x)

abbrev pub WaitExactly : Sizes → Type 0
WaitExactly S = AnsweredWhere S (code Wait) (λ G a s x. Conflicting S G a s x × (Circle S G s (wanted a) x → ⊥))

-- "A taken exclusive lock clears the caller's shared bit and sets the working value.": what a granted call leaves the slot s (Held)
abbrev pub HoldsFor : Asked → ℕ → Lock → ℕ → Type 0
HoldsFor to_read v h s = T (holds h s)
HoldsFor to_write v h s = T (holds_exclusive h s) × (T (holds_shared h s) → ⊥) × (h.working ≡ v)

abbrev pub GrantedHolds : Sizes → Type 0
GrantedHolds S =
    (G : Tables) (a : Asked) (n s x v : ℕ) → Caller S G n s → T (live_update (txn G.txns s))
    → code_of S (asking a n x v) G ≡ granted → HoldsFor a v (lock (after S (asking a n x v) G).locks x) s

-- ==== waiting

-- the same row, but for the rank and, since request E11, the sets to which it belongs
abbrev pub SameButRank : Txn → Txn → Type 0
SameButRank q r = q ≡ with_later_for (with_rank r q.rank) q.later_for

-- "A waiting transaction stays so until it makes the same kind of call on the same item again and is granted, or is aborted": else its
-- row stays as it is but for its rank and its sets, whoever calls (Waiting)
abbrev pub StaysWaiting : Sizes → Type 0
StaysWaiting S =
    (c : Call) (G : Tables) (s : ℕ) → Good S G → s < S.slots → (txn G.txns s).awaited_lock ≢ no_lock
    → SameButRank (txn (after S c G).txns s) (txn G.txns s)
    ⊎ ((Names c (txn G.txns s).number × Wants c (txn G.txns s).awaited_lock (txn G.txns s).awaited_item × (code_of S c G ≡ granted))
    ⊎ (c ≡ Abort (txn G.txns s).number))

-- calls by others leave the row of a live transaction as it is, but for its rank and its sets (Waiting); how these change is `JoinsExactly`
abbrev pub OthersLeave : Sizes → Type 0
OthersLeave S =
    (c : Call) (G : Tables) (s : ℕ) → Good S G → s < S.slots → T (live (txn G.txns s))
    → (Names c (txn G.txns s).number → ⊥) → SameButRank (txn (after S c G).txns s) (txn G.txns s)

-- the awaited call made again is never a deadlock, and if it waits again no word changes but, since request E11, the sets that it joins
-- where it asks to write (Waiting)
abbrev pub RepeatedWaits : Sizes → Type 0
RepeatedWaits S =
    (c : Call) (G : Tables) (s : ℕ) → Good S G → CallerIn c S G s → (txn G.txns s).awaited_lock ≢ no_lock
    → Wants c (txn G.txns s).awaited_lock (txn G.txns s).awaited_item
    → (code_of S c G ≢ code Deadlock)
    × (code_of S c G ≡ code Wait → after S c G ≡ joining s (asking_joins S G.txns (txn G.txns s).awaited_lock (txn G.txns s).awaited_item) G)

-- ---- request E6, "Queries and such readers now can wait": waits that "change no word"

-- slot a, which reads by a start, waits for slot b: b holds it back from some item. It may ask for any item there is, and for many at once
unfoldable pub waits_silently : Sizes → Tables → ℕ → ℕ → Bool
waits_silently S G a b = by_start (txn G.txns a) && some_below S.items (λ x. holds_back G.txns G.locks x a b)

-- slot a waits for slot b: as the tables say, or silently
unfoldable pub waits_at_all : Sizes → Tables → ℕ → ℕ → Bool
waits_at_all S G a b = waits_for G.txns G.locks a b || waits_silently S G a b

-- a reader that is answered 1 waits so: no wait of a reader is left out here (Silent)
abbrev pub ReaderWaits : Sizes → Type 0
ReaderWaits S =
    (c : Call) (G : Tables) (s : ℕ) → code_of S c G ≡ code Wait → CallerIn c S G s → T (by_start (txn G.txns s))
    → (b : ℕ) × T (waits_silently S G s b)

-- such waits lead to smaller stamps: from a reader, for which no wait is noted, to one past its writing whose stamp is at most the
-- reader's start; and if the reader is past its writing too, to a smaller one, since "no other such row has it" (Silent)
pub record Descends (G : Tables) (a b : ℕ) : Type 0 where
  pub nothing_noted : (c : ℕ) → T (waits_for G.txns G.locks a c) → ⊥
  pub past : T (live_settled (txn G.txns b))
  pub at_most : (txn G.txns b).start ≤ (txn G.txns a).start
  pub smaller : T (live_settled (txn G.txns a)) → (txn G.txns b).start < (txn G.txns a).start

abbrev pub SilentDescends : Sizes → Type 0
SilentDescends S = (G : Tables) (a b : ℕ) → Good S G → T (waits_silently S G a b) → Descends G a b

-- "These waits never get code 2", and need not: document 01's "No circle of waits exists." holds with them too, whatever the readers
-- ask for (Silent)
abbrev pub NoCircleAtAll : Sizes → Type 0
NoCircleAtAll S = (G : Tables) (s : ℕ) → Good S G → Walk (waits_at_all S G) s s → ⊥

-- so no set of transactions waits on itself: in every set with a member s, some member waits for no member (Silent)
abbrev pub NoSetWaits : Sizes → Type 0
NoSetWaits S =
    (G : Tables) (among : ℕ → Bool) (s : ℕ) → Good S G → T (among s)
    → (a : ℕ) × T (among a) × ((b : ℕ) → T (among b) → T (waits_at_all S G a b) → ⊥)

-- ==== the line of waiters

-- request E4, "from 1 without gaps": the ranks of those who wait on the item x are 1, 2 and so on, to as many as they are (Ranked)
abbrev pub RanksExactly : Sizes → Type 0
RanksExactly S =
    (G : Tables) (x r : ℕ) → Good S G
    → ((1 ≤ r) × (r ≤ waiters_on S G.txns x))
    ↔ ((s : ℕ) × (s < S.slots) × T (awaits_on x (txn G.txns s)) × ((txn G.txns s).rank ≡ r))

-- "Waiters on an item now stand in the order of their first wait.": the update in slot s, whose wait for item x is noted with the answer
-- 1, and which does not share the item, stands behind all who waited there (InOrder). That whoever waits keeps its place is line/specs/InOrder
abbrev pub NewcomerLast : Sizes → Type 0
NewcomerLast S =
    (c : Call) (G : Tables) (s k x r : ℕ) → code_of S c G ≡ code Wait → CallerIn c S G s → T (live_update (txn G.txns s)) → Wants c k x
    → (T (awaits_on x (txn G.txns s)) → ⊥) → (T (holds_shared (lock G.locks x) s) → ⊥)
    → r < S.slots → r ≢ s → T (awaits_on x (txn G.txns r))
    → (txn (after S c G).txns r).rank < (txn (after S c G).txns s).rank

-- "A holder of shared that asks for exclusive stands ahead of all who hold nothing there.": of those who wait on an item one at most
-- shares it, and that one is the first (Ranked)
abbrev pub OneExchanger : Sizes → Type 0
OneExchanger S =
    (G : Tables) (x r s : ℕ) → Good S G → r < S.slots → s < S.slots → T (awaits_on x (txn G.txns r)) → T (awaits_on x (txn G.txns s))
    → T (holds_shared (lock G.locks x) r) → T (holds_shared (lock G.locks x) s) → r ≡ s

abbrev pub ExchangerFirst : Sizes → Type 0
ExchangerFirst S =
    (G : Tables) (x s : ℕ) → Good S G → s < S.slots → T (awaits_on x (txn G.txns s)) → T (holds_shared (lock G.locks x) s)
    → (txn G.txns s).rank ≡ 1

-- ==== versions

-- "The value is that of the newest version whose stamp is at most its start. .. The looked count is the place of that version in its
-- row, from 1.", and of request E11 "the newest version whose creator is not in the set": vs are the versions, q is the reader (Queries)
pub record NewestSeen (q : Reader) (vs : List Version) (k : ℕ) : Type 0 where
  pub there : k < length vs
  pub seen : T (sees q (get_or vs k no_version))
  pub newest : (j : ℕ) → j < length vs → T (sees q (get_or vs j no_version)) → k ≤ j

-- "the other live queries that are relaxed or start later; for a relaxed reader, .. all other live queries": r is such another for q
unfoldable pub may_pass : Reader → Reader → Bool
may_pass (up_to q) (up_to r) = ltb q r
may_pass (up_to q) (outside b) = true
may_pass (outside a) (up_to r) = true
may_pass (outside a) (outside b) = not (eqb a b)

-- how many of the readers qs are
unfoldable pub later : Reader → List Reader → ℕ
later q [] = 0
later q (r ∷ qs) = let rest = later q qs in cond (may_pass q r) (suc rest) rest

-- "No lock": no word changes but, since request E8, those in which a query's read is counted, and since request E11 those in which a relaxed
-- query's is noted. "It is at most 2 plus the number of live queries with a later start."; request E6 counts those past their writing among
-- them; request E11: "2 plus the other live queries that are relaxed or start later; for a relaxed reader, 2 plus all other live queries".
-- Read by a query, or by one past its writing that does not hold the item, where nobody holds it back
abbrev pub VersionReads : Sizes → Type 0
VersionReads S =
    (G : Tables) (n s x : ℕ) → Good S G → Caller S G n s → T (is_reader (txn G.txns s)) → x < S.items
    → (T (holds_exclusive (lock G.locks x) s) → ⊥) → held_back S G.txns G.locks x s ≡ false
    → let q = reader_in G.txns s in
    let vs = versions_of S G.versions x in
    (k : ℕ) × NewestSeen q vs k
    × (step S (Read n x) G
    ≡ says granted (get_or vs k no_version).value 0 (suc k) (with_txns G (counted (read_noted G.txns G.locks s x) s (suc k))))
    × (suc k ≤ 2 + later q (readers S G.txns))

-- "every row keeps its newest version and those that some live query reads, and no others": the versions vs of item x, as they are in
-- the tables G. "So .. 16 places are always enough", and in general as many as there are slots (Queries)
pub record TrimmedTo (S : Sizes) (vs : List Version) (G : Tables) (x : ℕ) : Type 0 where
  pub newest : get_or (versions_of S G.versions x) 0 no_version ≡ get_or vs 0 no_version
  pub read :
      (r : ℕ) → r < S.slots → T (is_reader (txn G.txns r))
      → choice (reader_in G.txns r) (versions_of S G.versions x) ≡ choice (reader_in G.txns r) vs
  pub no_other :
      (k : ℕ) → 0 < k → k < length (versions_of S G.versions x)
      → (r : ℕ) × (r < S.slots) × T (is_reader (txn G.txns r)) × (place (reader_in G.txns r) (versions_of S G.versions x) ≡ k)
  pub places : length (versions_of S G.versions x) ≤ S.slots

-- "after a query's end"; request E11: nothing is hidden any more from a relaxed one
abbrev pub EndTrims : Sizes → Type 0
EndTrims S =
    (G : Tables) (s : ℕ) → Good S G → s < S.slots → (x : ℕ) → x < S.items
    → TrimmedTo S (revealed s (versions_of S G.versions x)) (ended S s G) x

-- request E6: after the end of one past its writing, "either way"
abbrev pub SettledTrims : Sizes → Type 0
SettledTrims S =
    (G : Tables) (s : ℕ) → Good S G → s < S.slots → T (live_settled (txn G.txns s)) → (x : ℕ) → x < S.items
    → TrimmedTo S (with_new G.locks s (txn G.txns s).start 0 x (versions_of S G.versions x)) (settled_committed S s G) x
    × TrimmedTo S (versions_of S G.versions x) (settled_aborted S s G) x

-- "After an update's commit": with the new pair in front, where it holds the item exclusively
abbrev pub CommitTrims : Sizes → Type 0
CommitTrims S =
    (G : Tables) (s : ℕ) → Good S G → s < S.slots → T (live_update (txn G.txns s)) → (x : ℕ) → x < S.items
    → TrimmedTo S (with_new G.locks s (clock G.txns + 1) (txn G.txns s).later_for x (versions_of S G.versions x)) (committed S s G) x

-- so a query that lives through a commit chooses the very same version; request E11: a relaxed one does where the committer is in its
-- set, or did not write the item; and so it does where it has read the item
abbrev pub CommitKeeps : Sizes → Type 0
CommitKeeps S =
    (G : Tables) (s r : ℕ) → Good S G → s < S.slots → T (live_update (txn G.txns s)) → r < S.slots → T (is_reader (txn G.txns r))
    → (x : ℕ) → x < S.items
    → T (by_start (txn G.txns r))
    ⊎ (T (bit (txn G.txns s).later_for r)
    ⊎ ((T (holds_exclusive (lock G.locks x) s) → ⊥) ⊎ T (bit (txn G.txns r).items_read x)))
    → choice (reader_in G.txns r) (versions_of S (committed S s G).versions x)
    ≡ choice (reader_in G.txns r) (versions_of S G.versions x)

-- ==== request E11: relaxed queries

-- "it never gets 1 or 6" (Relaxed)
abbrev pub RelaxedNeverWaits : Sizes → Type 0
RelaxedNeverWaits S =
    (c : Call) (G : Tables) (s : ℕ) → CallerIn c S G s → T (live_relaxed (txn G.txns s))
    → (code_of S c G ≢ code Wait) × (code_of S c G ≢ code StillWaiting)

-- "An update joins when it asks to write what the query has read (granted or waiting), ..": the update in slot s, the query in slot q
abbrev pub AsksToWriteRead : Sizes → Call → Tables → ℕ → ℕ → Type 0
AsksToWriteRead S c G s q =
    (x : ℕ) × CallerIn c S G s × Wants c exclusive_lock x × ((code_of S c G ≡ granted) ⊎ (code_of S c G ≡ code Wait))
    × T (bit (txn G.txns q).items_read x)

-- ".. when the query reads what it holds exclusively, .."
abbrev pub QueryReadsHeld : Sizes → Call → Tables → ℕ → ℕ → Type 0
QueryReadsHeld S c G s q =
    (x : ℕ) × CallerIn c S G q × T (live_relaxed (txn G.txns q)) × Wants c shared_lock x × (code_of S c G ≡ granted)
    × T (holds_exclusive (lock G.locks x) s)

-- ".. or when it reads or overwrites a version whose creator is in the set.": the newest version of item x
abbrev pub MeetsHidden : Sizes → Call → Tables → ℕ → ℕ → Type 0
MeetsHidden S c G s q =
    (k : ℕ) × (x : ℕ) × CallerIn c S G s × Wants c k x × (code_of S c G ≡ granted) × T (bit (hidden_now S G.versions x) q)

-- so, of an update that lives on, and whatever is called: it is in a set afterwards exactly if it was in it, and the query lives on, or it
-- joined in one of these ways. "An asking that is answered 2 or 11 joins nothing." (Sets)
abbrev pub JoinsExactly : Sizes → Type 0
JoinsExactly S =
    (c : Call) (G : Tables) (s q : ℕ) → Good S G → s < S.slots → q < S.slots → T (live_update (txn G.txns s))
    → T (live_update (txn (after S c G).txns s))
    → T (bit (txn (after S c G).txns s).later_for q)
    ↔ ((T (bit (txn G.txns s).later_for q) × T (live_relaxed (txn (after S c G).txns q)))
    ⊎ (AsksToWriteRead S c G s q ⊎ (QueryReadsHeld S c G s q ⊎ MeetsHidden S c G s q)))

-- a version that is there afterwards was there, hidden from the same of those relaxed queries that live on; or it is new, of an update that
-- commits, and hidden from those in whose sets that update is: "a committed update outside the set stays outside" (VersionsCome)
pub record OldVersion (S : Sizes) (G G' : Tables) (x : ℕ) (v : Version) : Type 0 where
  pub place : ℕ
  pub there : place < length (versions_of S G.versions x)
  pub stamp : v.stamp ≡ (get_or (versions_of S G.versions x) place no_version).stamp
  pub value : v.value ≡ (get_or (versions_of S G.versions x) place no_version).value
  pub hidden :
      (q : ℕ) → T (bit v.hidden q) ↔ (T (bit (hidden_at (versions_of S G.versions x) place) q) × T (live_relaxed (txn G'.txns q)))

pub record NewVersion (S : Sizes) (c : Call) (G : Tables) (x : ℕ) (v : Version) : Type 0 where
  pub slot : ℕ
  pub number : ℕ
  pub caller : Caller S G number slot
  pub commits : c ≡ Commit number
  pub held : T (holds_exclusive (lock G.locks x) slot)
  pub value : v.value ≡ (lock G.locks x).working
  pub hidden : v.hidden ≡ (txn G.txns slot).later_for

abbrev pub VersionsCome : Sizes → Type 0
VersionsCome S =
    (c : Call) (G : Tables) → Good S G → (x k : ℕ) → x < S.items → k < length (versions_of S (after S c G).versions x)
    → let v = get_or (versions_of S (after S c G).versions x) k no_version in OldVersion S G (after S c G) x v ⊎ NewVersion S c G x v
