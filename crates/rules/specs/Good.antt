-- Document 01, "Tables are good when all of this holds": a field for each clause, in the document's order. The test that the calls
-- make is in Tested; the two are proved equal.
use Rattle.std.specs.Prelude.{ℕ, ◌+◌, ◌-◌, ◌*◌, ◌^◌, ◌≤◌, ◌<◌, ◌≡◌, ◌≢◌, ◌⊎◌, ◌↔◌, List, get_or, length, T}
use Rattle.names.specs.declared.Sizes.{Sizes}
use Rattle.names.specs.Sizes.{last_word}
use Rattle.rules.specs.Words.{row, bit}
use Rattle.rules.specs.Tables.{Tables, txn_words, lock_words, version_words, version_row, masks_at, reader_in}
use Rattle.rules.specs.Tables.{last_number, clock, Txn, txn, no_txn, live, live_update, live_settled, live_relaxed, may_hold, by_start, is_reader}
use Rattle.rules.specs.Tables.{an_update, a_query, a_settled, a_relaxed, no_lock, shared_lock, exclusive_lock, Lock, lock, holds, holds_shared, holds_exclusive, exclusives_of}
use Rattle.rules.specs.Versions.{no_version, versions_in, versions_of, stamp_at, hidden_at, hidden_now, sees, place}
use Rattle.rules.specs.Waits.{awaits, awaits_on, waiters_on, waits_for, Walk}

-- ---- request E8: the clauses on the read count and the weight sum of the row r
pub record GoodReads (r : Txn) : Type 0 where
  -- "both held at 4,294,967,295 once there"
  pub count_most : r.read_count ≤ last_word
  pub sum_most : r.weight_sum ≤ last_word
  -- "and both 0 for every update", past its writing or not
  pub update_count : T (may_hold r) → r.read_count ≡ 0
  pub update_sum : T (may_hold r) → r.weight_sum ≡ 0

-- ---- request E11: the clauses on the items read and the sets joined of the row r
pub record GoodNotes (S : Sizes) (r : Txn) : Type 0 where
  -- the items that are noted as read are items, and only a relaxed query has them
  pub items_most : r.items_read < 2 ^ S.items
  pub only_relaxed : (T (live_relaxed r) → ⊥) → r.items_read ≡ 0
  -- only an update is in sets; those past their writing meet no relaxed query
  pub only_updates : (T (live_update r) → ⊥) → r.later_for ≡ 0

-- ---- the clauses on the row r of slot s; t and l are the words of the transactions and of the locks
pub record GoodTxn (S : Sizes) (t l : List ℕ) (s : ℕ) (r : Txn) : Type 0 where
  -- "A free row is all zeros"
  pub free : r.number ≡ 0 → r ≡ no_txn
  -- "live numbers are .. from 1 to the last given"
  pub given : r.number ≤ last_number t
  -- "kinds and awaited locks are as listed"
  pub kind_listed : (r.kind ≡ an_update) ⊎ ((r.kind ≡ a_query) ⊎ ((r.kind ≡ a_settled) ⊎ (r.kind ≡ a_relaxed)))
  pub lock_listed : r.awaited_lock ≤ exclusive_lock
  -- "an update's start is 0, a query's is at most the clock, and a query awaits nothing"; request E6: such a row "awaits nothing; its
  -- stamp is 1 to the clock"; request E11: of a relaxed query "start 0"
  pub update_start : T (live_update r) → r.start ≡ 0
  pub relaxed_start : T (live_relaxed r) → r.start ≡ 0
  pub reader_start : T (by_start r) → r.start ≤ clock t
  pub reader_idle : T (is_reader r) → r.awaited_lock ≡ no_lock
  pub settled_start : T (live_settled r) → 1 ≤ r.start
  -- "an awaited item is below 64, and 0 where nothing is awaited"
  pub item_known : r.awaited_lock ≢ no_lock → r.awaited_item < S.items
  pub item_unused : r.awaited_lock ≡ no_lock → r.awaited_item ≡ 0
  -- request E4: the rank is "0 if it awaits nothing"
  pub rank_unused : r.awaited_lock ≡ no_lock → r.rank ≡ 0
  -- request E8
  pub reads_good : GoodReads r
  -- request E11
  pub notes_good : GoodNotes S r
  -- "who awaits shared holds nothing on that item, who awaits exclusive does not hold it exclusively"
  pub awaits_shared : r.awaited_lock ≡ shared_lock → T (holds (lock l r.awaited_item) s) → ⊥
  pub awaits_exclusive : r.awaited_lock ≡ exclusive_lock → T (holds_exclusive (lock l r.awaited_item) s) → ⊥

-- ---- request E4: the clauses on the ranks of those who wait on one item
pub record GoodRanks (S : Sizes) (t l : List ℕ) : Type 0 where
  -- "from 1 without gaps": as many ranks as waiters, from 1 on, no two the same
  pub least : (s : ℕ) → s < S.slots → T (awaits (txn t s)) → 1 ≤ (txn t s).rank
  pub most : (s : ℕ) → s < S.slots → T (awaits (txn t s)) → (txn t s).rank ≤ waiters_on S t (txn t s).awaited_item
  pub apart :
      (x r s : ℕ) → r < S.slots → s < S.slots → r ≢ s → T (awaits_on x (txn t r)) → T (awaits_on x (txn t s))
      → (txn t r).rank ≢ (txn t s).rank
  -- "A holder of shared that asks for exclusive stands ahead of all who hold nothing there."
  pub exchangers :
      (x r s : ℕ) → r < S.slots → s < S.slots → T (awaits_on x (txn t r)) → T (awaits_on x (txn t s))
      → T (holds_shared (lock l x) r) → (T (holds_shared (lock l x) s) → ⊥) → (txn t r).rank < (txn t s).rank

-- ---- the clauses on the lock h of an item
pub record GoodLock (S : Sizes) (t : List ℕ) (h : Lock) : Type 0 where
  -- "Lock holders are slots of live updates"; request E6: "such a row holds no shared lock"
  pub sharers : (s : ℕ) → T (holds_shared h s) → (s < S.slots) × T (live_update (txn t s))
  pub excluders : (s : ℕ) → T (holds_exclusive h s) → (s < S.slots) × T (may_hold (txn t s))
  -- "a row has shared holders or an exclusive one, never both"
  pub never_both : (h.shared ≡ 0) ⊎ (h.exclusive ≡ 0)
  -- "without an exclusive holder the working value is 0"
  pub no_working : h.exclusive ≡ 0 → h.working ≡ 0

-- ---- request E2: the clauses on what slot s, with the row r, holds exclusively
pub record GoodQuota (S : Sizes) (l : List ℕ) (s : ℕ) (r : Txn) : Type 0 where
  -- "Good tables show at most 32 for each update"
  pub most : T (may_hold r) → exclusives_of S l s ≤ S.quota
  -- "and one with 32 awaits no exclusive lock"
  pub full_idle : T (may_hold r) → exclusives_of S l s ≡ S.quota → r.awaited_lock ≢ exclusive_lock

-- ---- the clauses on the words r of an item's version row
pub record GoodVersions (S : Sizes) (t r : List ℕ) : Type 0 where
  -- "A version count is 1 to 16", to 32 since request E5
  pub count_least : 1 ≤ get_or r 0 0
  pub count_most : get_or r 0 0 ≤ S.places
  -- "unused pairs are zero", and so are the words of whom they are hidden from
  pub unused : (k : ℕ) → 2 * get_or r 0 0 < k → k < masks_at S → get_or r k 0 ≡ 0
  pub unhidden : (k : ℕ) → get_or r 0 0 ≤ k → get_or r (masks_at S + k) 0 ≡ 0
  -- "stamps fall strictly"
  pub fall : (i j : ℕ) → i < j → j < length (versions_in S r) → stamp_at (versions_in S r) j < stamp_at (versions_in S r) i
  -- request E11: who overwrites a version whose creator is in a set joins it, so whatever is newer than a hidden version is hidden too
  pub nest :
      (i j : ℕ) → i < j → j < length (versions_in S r)
      → (q : ℕ) → T (bit (hidden_at (versions_in S r) j) q) → T (bit (hidden_at (versions_in S r) i) q)
  -- and it is from relaxed queries that versions are hidden
  pub from_relaxed : (k q : ℕ) → T (bit (hidden_at (versions_in S r) k) q) → (q < S.slots) × T (live_relaxed (txn t q))
  -- "the first is at most the clock"
  pub first : stamp_at (versions_in S r) 0 ≤ clock t
  -- "the last is at most every live query's start"; request E6 counts those past their writing as queries here, and of request E11 the
  -- last is hidden from no relaxed one: every reader may read the last
  pub last :
      (s : ℕ) → s < S.slots → T (is_reader (txn t s))
      → T (sees (reader_in t s) (get_or (versions_in S r) (length (versions_in S r) - 1) no_version))
  -- "A version that is not the newest is there exactly if some live query reads it."
  pub reads :
      (k : ℕ) → 0 < k
      → (k < length (versions_in S r)) ↔ ((s : ℕ) × (s < S.slots) × T (is_reader (txn t s)) × (place (reader_in t s) (versions_in S r) ≡ k))

-- ---- request E6: the clauses on those past their writing
pub record GoodSettled (S : Sizes) (G : Tables) : Type 0 where
  -- "no other such row has it": their stamps are distinct
  pub apart :
      (r s : ℕ) → r < S.slots → s < S.slots → r ≢ s → T (live_settled (txn G.txns r)) → T (live_settled (txn G.txns s))
      → (txn G.txns r).start ≢ (txn G.txns s).start
  -- "and every version of an item it holds has a lower one"
  pub above :
      (s x : ℕ) → s < S.slots → x < S.items → T (live_settled (txn G.txns s)) → T (holds_exclusive (lock G.locks x) s)
      → stamp_at (versions_of S G.versions x) 0 < (txn G.txns s).start

-- ---- request E11: the clauses on relaxed queries, and on the sets of later updates that they have
pub record GoodSets (S : Sizes) (G : Tables) : Type 0 where
  -- "Ending the writing while a relaxed query lives, or beginning one while a transaction is past its writing, gets code 13": so the two
  -- are never there together
  pub apart :
      (r s : ℕ) → r < S.slots → s < S.slots → T (live_settled (txn G.txns r)) → T (live_relaxed (txn G.txns s)) → ⊥
  -- sets are those of relaxed queries
  pub of_relaxed :
      (s q : ℕ) → s < S.slots → T (bit (txn G.txns s).later_for q) → (q < S.slots) × T (live_relaxed (txn G.txns q))
  -- "An update joins when it asks to write what the query has read .., when the query reads what it holds exclusively, or when it reads
  -- or overwrites a version whose creator is in the set.": so who holds an item exclusively is in the sets of those who have read it
  pub holds_read :
      (x s q : ℕ) → x < S.items → q < S.slots → T (holds_exclusive (lock G.locks x) s) → T (bit (txn G.txns q).items_read x)
      → T (bit (txn G.txns s).later_for q)
  -- and who holds it, either way, in those from which its newest version is hidden
  pub holds_hidden :
      (x s q : ℕ) → x < S.items → T (holds (lock G.locks x) s) → T (bit (hidden_now S G.versions x) q)
      → T (bit (txn G.txns s).later_for q)

pub record Good (S : Sizes) (G : Tables) : Type 0 where
  -- "The sizes are exact."
  pub txns_exact : length G.txns ≡ txn_words S
  pub locks_exact : length G.locks ≡ lock_words S
  pub versions_exact : length G.versions ≡ version_words S
  -- "Last number and clock are at most 4,294,967,295."
  pub last_most : last_number G.txns ≤ last_word
  pub clock_most : clock G.txns ≤ last_word
  -- "A free row is all zeros; live numbers are distinct and .."
  pub txn_good : (s : ℕ) → s < S.slots → GoodTxn S G.txns G.locks s (txn G.txns s)
  pub distinct :
      (r s : ℕ) → r < S.slots → s < S.slots → r ≢ s → T (live (txn G.txns s))
      → (txn G.txns r).number ≢ (txn G.txns s).number
  -- "Lock holders are .."
  pub lock_good : (x : ℕ) → x < S.items → GoodLock S G.txns (lock G.locks x)
  -- request E2: "Good tables show at most 32 for each update, .."
  pub quota_good : (s : ℕ) → s < S.slots → GoodQuota S G.locks s (txn G.txns s)
  -- "A version count is .."
  pub versions_good : (x : ℕ) → x < S.items → GoodVersions S G.txns (row (version_row S) x G.versions)
  -- request E4
  pub ranks_good : GoodRanks S G.txns G.locks
  -- request E6
  pub settled_good : GoodSettled S G
  -- request E11
  pub sets_good : GoodSets S G
  -- "No circle of waits exists."
  pub no_circle : (s : ℕ) → Walk (waits_for G.txns G.locks) s s → ⊥
