-- Which words a call changes, and that no other does: said of the words before and after. `step` is proved to change exactly these
-- (Promises: GrantedChanges, WaitWords).
use Rattle.std.specs.Prelude.{ℕ, suc, ◌+◌, ◌*◌, ◌^◌, ◌≤◌, ◌<◌, ◌≡◌, ◌≢◌, ◌⊎◌, false, cond, List, ◌∷◌, length, get_or, T}
use Rattle.std.specs.Int.Bits.{bit_or}
use Rattle.names.specs.declared.Sizes.{Sizes}
use Rattle.names.specs.Words.{held_at_last}
use Rattle.names.specs.Layout.{last_number_at, clock_at, txn_row, txn_lock_at, txn_item_at, txn_rank_at, txn_count_at, txn_sum_at, txn_items_read_at, txn_later_for_at}
use Rattle.rules.specs.Words.{row, with_bit, without_bit}
use Rattle.rules.specs.Tables.{Tables, txn_at, lock_row, version_row, last_number, clock, Txn, txn, no_txn, new_txn, no_lock, an_update, a_query, a_settled, a_relaxed}
use Rattle.rules.specs.Tables.{shared_lock, exclusive_lock, live_update, live_query, live_settled, live_relaxed, reader_in, readers, Lock, lock, set_lock, holds, holds_shared, holds_exclusive, exclusives_of, released, unshared}
use Rattle.rules.specs.Waits.{awaits, lowered}
use Rattle.rules.specs.Versions.{Version, versions_of, newest, place, choice, row_of, kept, revealed}
use Rattle.rules.specs.Answers.{Call, BeginUpdate, BeginQuery, Read, Write, Commit, Abort, Settle, BeginRelaxed, Outcome, says, granted}
use Rattle.rules.specs.Step.{held_back, begun, grant_joins, read_noted, counted, locked_anew, replaced, shared_too, taken, with_txns, with_locks, with_new, committed, settled_committed, ended, aborted, settled_aborted, settled}
use Rattle.rules.specs.Conditions.{Caller, Free, Updater}

-- ---- what is said of two lists of words, t before and t' after
-- word j is none of the words of row s
abbrev pub Elsewhere : ℕ → ℕ → Type 0
Elsewhere s j = (j < txn_at s) ⊎ (txn_at s + txn_row ≤ j)

-- row s is r afterwards, and no other word changes
pub record RowChanged (s : ℕ) (r : Txn) (t t' : List ℕ) : Type 0 where
  pub size : length t' ≡ length t
  pub here : txn t' s ≡ r
  pub others : (j : ℕ) → Elsewhere s j → get_or t' j 0 ≡ get_or t j 0

-- word w is v and row s is r afterwards, and no other word changes
pub record WordAndRowChanged (w v s : ℕ) (r : Txn) (t t' : List ℕ) : Type 0 where
  pub size : length t' ≡ length t
  pub word : get_or t' w 0 ≡ v
  pub here : txn t' s ≡ r
  pub others : (j : ℕ) → j ≢ w → Elsewhere s j → get_or t' j 0 ≡ get_or t j 0

-- word j is in none of the n first rows the word at the place k; it is the rank of none
abbrev pub NoWord : ℕ → ℕ → ℕ → Type 0
NoWord k n j = (r : ℕ) → r < n → j ≢ txn_at r + k

abbrev pub NoRank : ℕ → ℕ → Type 0
NoRank n j = NoWord txn_rank_at n j

-- request E4: the awaited fields of row s are k, x and the rank p afterwards, the ranks of the other rows are those that f gives; request
-- E11: the sets to which s belongs are m; and no other word changes
pub record AwaitedChanged (S : Sizes) (s k x p m : ℕ) (f : Txn → ℕ) (t t' : List ℕ) : Type 0 where
  pub size : length t' ≡ length t
  pub awaited_lock : get_or t' (txn_at s + txn_lock_at) 0 ≡ k
  pub awaited_item : get_or t' (txn_at s + txn_item_at) 0 ≡ x
  pub rank : get_or t' (txn_at s + txn_rank_at) 0 ≡ p
  pub later_for : get_or t' (txn_at s + txn_later_for_at) 0 ≡ m
  pub ranks : (r : ℕ) → r < S.slots → r ≢ s → get_or t' (txn_at r + txn_rank_at) 0 ≡ f (txn t r)
  pub others :
      (j : ℕ) → j ≢ txn_at s + txn_lock_at → j ≢ txn_at s + txn_item_at → j ≢ txn_at s + txn_later_for_at → NoRank S.slots j
      → get_or t' j 0 ≡ get_or t j 0

-- row s is r afterwards, of the other rows the words at the place k are those that f gives, and no other word changes; the same of ranks
pub record RowAndWordsChanged (k : ℕ) (S : Sizes) (s : ℕ) (r : Txn) (f : Txn → ℕ) (t t' : List ℕ) : Type 0 where
  pub size : length t' ≡ length t
  pub here : txn t' s ≡ r
  pub words : (q : ℕ) → q < S.slots → q ≢ s → get_or t' (txn_at q + k) 0 ≡ f (txn t q)
  pub others : (j : ℕ) → Elsewhere s j → NoWord k S.slots j → get_or t' j 0 ≡ get_or t j 0

abbrev pub RowAndRanksChanged : Sizes → ℕ → Txn → (Txn → ℕ) → List ℕ → List ℕ → Type 0
RowAndRanksChanged S s r f t t' = RowAndWordsChanged txn_rank_at S s r f t t'

-- the rank of a row after slot s has left its line; one that stood in none leaves all as they are
abbrev pub leaving : List ℕ → ℕ → Txn → ℕ
leaving t s q = cond (awaits (txn t s)) (lowered (txn t s).awaited_item (txn t s).rank q) q.rank

-- request E8: the read count of row s is n and its weight sum w afterwards, and no other word changes
pub record ReadsChanged (s n w : ℕ) (t t' : List ℕ) : Type 0 where
  pub size : length t' ≡ length t
  pub count : get_or t' (txn_at s + txn_count_at) 0 ≡ n
  pub sum : get_or t' (txn_at s + txn_sum_at) 0 ≡ w
  pub others : (j : ℕ) → j ≢ txn_at s + txn_count_at → j ≢ txn_at s + txn_sum_at → get_or t' j 0 ≡ get_or t j 0

-- the lock of item x is h afterwards, and no other word changes
pub record LockChanged (x : ℕ) (h : Lock) (l l' : List ℕ) : Type 0 where
  pub size : length l' ≡ length l
  pub here : lock l' x ≡ h
  pub others : (j : ℕ) → (j < lock_row * x) ⊎ (lock_row * x + lock_row ≤ j) → get_or l' j 0 ≡ get_or l j 0

-- every lock is without slot s afterwards, and a lock that s does not hold keeps every word
pub record LocksReleased (S : Sizes) (s : ℕ) (l l' : List ℕ) : Type 0 where
  pub size : length l' ≡ length l
  pub each : (x : ℕ) → x < S.items → lock l' x ≡ released s (lock l x)
  pub others :
      (x k : ℕ) → x < S.items → k < lock_row → (T (holds (lock l x) s) → ⊥) → get_or l' (lock_row * x + k) 0 ≡ get_or l (lock_row * x + k) 0

-- request E6: no lock is shared by slot s afterwards, and a lock that s does not share keeps every word
pub record SharesGone (S : Sizes) (s : ℕ) (l l' : List ℕ) : Type 0 where
  pub size : length l' ≡ length l
  pub each : (x : ℕ) → x < S.items → lock l' x ≡ unshared s (lock l x)
  pub others :
      (x k : ℕ) → x < S.items → k < lock_row → (T (holds_shared (lock l x) s) → ⊥) → get_or l' (lock_row * x + k) 0 ≡ get_or l (lock_row * x + k) 0

-- ---- the calls' own
-- the row that a begin writes
abbrev pub newcomer : Tables → ℕ → ℕ → Txn
newcomer G k q = new_txn (last_number G.txns + 1) k q

-- "The lowest free slot gets last number plus 1.": two places in the transactions, and nothing else at all
pub record Begun (s k q : ℕ) (G G' : Tables) : Type 0 where
  pub txns : WordAndRowChanged last_number_at (last_number G.txns + 1) s (newcomer G k q) G.txns G'.txns
  pub locks : G'.locks ≡ G.locks
  pub versions : G'.versions ≡ G.versions

-- request E8: a query's read, which looked at k versions, is counted: two words of its row, and nothing else at all
pub record Counted (s k : ℕ) (G G' : Tables) : Type 0 where
  pub txns :
      ReadsChanged s (held_at_last ((txn G.txns s).read_count + 1)) (held_at_last ((txn G.txns s).weight_sum + k)) G.txns G'.txns
  pub locks : G'.locks ≡ G.locks
  pub versions : G'.versions ≡ G.versions

-- request E11: a relaxed query's read of item x, which looked at k versions, is counted too; the item is noted as read, and who holds it
-- exclusively joins its set; and nothing else at all
pub record RelaxedCounted (s x k : ℕ) (G G' : Tables) : Type 0 where
  pub size : length G'.txns ≡ length G.txns
  pub count : get_or G'.txns (txn_at s + txn_count_at) 0 ≡ held_at_last ((txn G.txns s).read_count + 1)
  pub sum : get_or G'.txns (txn_at s + txn_sum_at) 0 ≡ held_at_last ((txn G.txns s).weight_sum + k)
  pub items : get_or G'.txns (txn_at s + txn_items_read_at) 0 ≡ with_bit (txn G.txns s).items_read x
  pub joins :
      (b : ℕ) → T (holds_exclusive (lock G.locks x) b)
      → get_or G'.txns (txn_at b + txn_later_for_at) 0 ≡ bit_or (txn G.txns b).later_for (2 ^ s)
  pub others :
      (j : ℕ) → j ≢ txn_at s + txn_count_at → j ≢ txn_at s + txn_sum_at → j ≢ txn_at s + txn_items_read_at
      → ((b : ℕ) → T (holds_exclusive (lock G.locks x) b) → j ≢ txn_at b + txn_later_for_at) → get_or G'.txns j 0 ≡ get_or G.txns j 0
  pub locks : G'.locks ≡ G.locks
  pub versions : G'.versions ≡ G.versions

-- how many versions slot s looks at where it reads the item x, and which it reads
abbrev pub looked_at : Sizes → Tables → ℕ → ℕ → ℕ
looked_at S G s x = suc (place (reader_in G.txns s) (versions_of S G.versions x))

abbrev pub chosen : Sizes → Tables → ℕ → ℕ → Version
chosen S G s x = choice (reader_in G.txns s) (versions_of S G.versions x)

-- the sets to which slot s belongs after it was granted a further lock of kind k on item x
abbrev pub sets_after : Sizes → Tables → ℕ → ℕ → ℕ → ℕ
sets_after S G s k x = bit_or (txn G.txns s).later_for (grant_joins S G k x)

-- "A grant clears the awaited fields.", the sets to which s belongs are m, and the lock of item x is h
pub record Locked (S : Sizes) (s x m : ℕ) (h : Lock) (G G' : Tables) : Type 0 where
  pub txns : AwaitedChanged S s no_lock 0 0 m (leaving G.txns s) G.txns G'.txns
  pub locks : LockChanged x h G.locks G'.locks
  pub versions : G'.versions ≡ G.versions

-- "Abort removes locks, working values and the row"
pub record Aborted (S : Sizes) (s : ℕ) (G G' : Tables) : Type 0 where
  pub txns : RowAndRanksChanged S s no_txn (leaving G.txns s) G.txns G'.txns
  pub locks : LocksReleased S s G.locks G'.locks
  pub versions : G'.versions ≡ G.versions

-- "An update takes clock plus 1 .." "Its locks, working values and row go." A row gets a new pair in front where s holds the item
-- exclusively, and keeps every word elsewhere
pub record Committed (S : Sizes) (s : ℕ) (G G' : Tables) : Type 0 where
  pub txns : WordAndRowChanged clock_at (clock G.txns + 1) s no_txn G.txns G'.txns
  pub locks : LocksReleased S s G.locks G'.locks
  pub size : length G'.versions ≡ length G.versions
  pub written :
      (x : ℕ) → x < S.items → T (holds_exclusive (lock G.locks x) s)
      → row (version_row S) x G'.versions
      ≡ row_of S
      (kept (readers S G.txns)
      (record { stamp = clock G.txns + 1; value = (lock G.locks x).working; hidden = (txn G.txns s).later_for }
      ∷ versions_of S G.versions x))
  pub others :
      (x j : ℕ) → x < S.items → j < version_row S → (T (holds_exclusive (lock G.locks x) s) → ⊥)
      → get_or G'.versions (version_row S * x + j) 0 ≡ get_or G.versions (version_row S * x + j) 0

-- "A query only ends.": its row goes, and the versions that none but it read
pub record Ended (S : Sizes) (s : ℕ) (G G' : Tables) : Type 0 where
  pub txns : RowChanged s no_txn G.txns G'.txns
  pub locks : G'.locks ≡ G.locks
  pub size : length G'.versions ≡ length G.versions
  pub each :
      (x : ℕ) → x < S.items
      → row (version_row S) x G'.versions ≡ row_of S (kept (readers S G'.txns) (versions_of S G.versions x))

-- request E11: with a relaxed query its set goes, too: the bit of its slot, of every update and of every version
pub record RelaxedEnded (S : Sizes) (s : ℕ) (G G' : Tables) : Type 0 where
  pub txns : RowAndWordsChanged txn_later_for_at S s no_txn (λ (r : Txn). without_bit r.later_for s) G.txns G'.txns
  pub locks : G'.locks ≡ G.locks
  pub size : length G'.versions ≡ length G.versions
  pub each :
      (x : ℕ) → x < S.items
      → row (version_row S) x G'.versions ≡ row_of S (kept (readers S G'.txns) (revealed s (versions_of S G.versions x)))

-- request E6, "the update takes clock plus 1 as its stamp, the clock moves there, .. and its shared locks go. Its row then has kind 2 and
-- that stamp as start."
pub record Settled (S : Sizes) (s : ℕ) (G G' : Tables) : Type 0 where
  pub txns :
      WordAndRowChanged clock_at (clock G.txns + 1) s (new_txn (txn G.txns s).number a_settled (clock G.txns + 1)) G.txns G'.txns
  pub locks : SharesGone S s G.locks G'.locks
  pub versions : G'.versions ≡ G.versions

-- the end of one past its writing: its row and its locks go, and of the versions, those of item x being f x before, what none but it
-- read
pub record SettledEnded (S : Sizes) (s : ℕ) (f : ℕ → List Version) (G G' : Tables) : Type 0 where
  pub txns : RowChanged s no_txn G.txns G'.txns
  pub locks : LocksReleased S s G.locks G'.locks
  pub size : length G'.versions ≡ length G.versions
  pub each : (x : ℕ) → x < S.items → row (version_row S) x G'.versions ≡ row_of S (kept (readers S G'.txns) (f x))

-- ---- every granted call: its four numbers, the tables afterwards, and which words of them are others than before
pub data Granted (S : Sizes) (G : Tables) : Call → Outcome → Type 0 where
  -- "begin: number is the new number"
  update_begins :
      (s : ℕ) → Free S G.txns s → Begun s an_update 0 G (begun an_update 0 s G)
      → Granted S G BeginUpdate (says granted 0 (last_number G.txns + 1) 0 (begun an_update 0 s G))
  query_begins :
      (s : ℕ) → Free S G.txns s → Begun s a_query (clock G.txns) G (begun a_query (clock G.txns) s G)
      → Granted S G BeginQuery (says granted 0 (last_number G.txns + 1) 0 (begun a_query (clock G.txns) s G))
  -- request E11
  relaxed_begins :
      (s : ℕ) → Free S G.txns s → Begun s a_relaxed 0 G (begun a_relaxed 0 s G)
      → Granted S G BeginRelaxed (says granted 0 (last_number G.txns + 1) 0 (begun a_relaxed 0 s G))
  -- "own working value": no word changes
  own_read :
      (n x s : ℕ) → Updater S G n s shared_lock x → T (holds_exclusive (lock G.locks x) s)
      → Granted S G (Read n x) (says granted (lock G.locks x).working 0 0 G)
  -- "newest value": no word changes
  shared_read :
      (n x s : ℕ) → Updater S G n s shared_lock x → T (holds_shared (lock G.locks x) s)
      → Granted S G (Read n x) (says granted (newest S G.versions x) 0 1 G)
  -- "take shared, newest value"
  shared_taken :
      (n x s : ℕ) → Updater S G n s shared_lock x → (T (holds (lock G.locks x) s) → ⊥)
      → Locked S s x (sets_after S G s shared_lock x) (shared_too (lock G.locks x) s) G
      (locked_anew S s shared_lock x (shared_too (lock G.locks x) s) G)
      → Granted S G (Read n x)
      (says granted (newest S G.versions x) 0 1 (locked_anew S s shared_lock x (shared_too (lock G.locks x) s) G))
  -- request E6, "sees its own working values": no word changes
  settled_own_read :
      (n x s : ℕ) → Caller S G n s → T (live_settled (txn G.txns s)) → x < S.items → T (holds_exclusive (lock G.locks x) s)
      → Granted S G (Read n x) (says granted (lock G.locks x).working 0 0 G)
  -- "the newest version whose stamp is at most its start": a query's read is counted
  query_reads :
      (n x s : ℕ) → Caller S G n s → T (live_query (txn G.txns s)) → x < S.items → held_back S G.txns G.locks x s ≡ false
      → Counted s (looked_at S G s x) G (with_txns G (counted G.txns s (looked_at S G s x)))
      → Granted S G (Read n x)
      (says granted (chosen S G s x).value 0 (looked_at S G s x) (with_txns G (counted G.txns s (looked_at S G s x))))
  -- request E11, "The query reads the newest version whose creator is not in the set"
  relaxed_reads :
      (n x s : ℕ) → Caller S G n s → T (live_relaxed (txn G.txns s)) → x < S.items
      → RelaxedCounted s x (looked_at S G s x) G (with_txns G (counted (read_noted G.txns G.locks s x) s (looked_at S G s x)))
      → Granted S G (Read n x)
      (says granted (chosen S G s x).value 0 (looked_at S G s x)
      (with_txns G (counted (read_noted G.txns G.locks s x) s (looked_at S G s x))))
  -- request E6, "reads by that stamp": no word changes
  settled_reads :
      (n x s : ℕ) → Caller S G n s → T (live_settled (txn G.txns s)) → x < S.items
      → (T (holds_exclusive (lock G.locks x) s) → ⊥) → held_back S G.txns G.locks x s ≡ false
      → Granted S G (Read n x) (says granted (chosen S G s x).value 0 (looked_at S G s x) G)
  -- "replace the working value": the transactions and the versions are the very same lists
  value_replaced :
      (n x v s : ℕ) → Updater S G n s exclusive_lock x → T (holds_exclusive (lock G.locks x) s)
      → LockChanged x (replaced (lock G.locks x) v) G.locks (set_lock G.locks x (replaced (lock G.locks x) v))
      → Granted S G (Write n x v) (says granted 0 0 0 (with_locks G G.txns (set_lock G.locks x (replaced (lock G.locks x) v))))
  -- request E6, "writes only what it already holds"
  settled_replaced :
      (n x v s : ℕ) → Caller S G n s → T (live_settled (txn G.txns s)) → x < S.items → T (holds_exclusive (lock G.locks x) s)
      → LockChanged x (replaced (lock G.locks x) v) G.locks (set_lock G.locks x (replaced (lock G.locks x) v))
      → Granted S G (Write n x v) (says granted 0 0 0 (with_locks G G.txns (set_lock G.locks x (replaced (lock G.locks x) v))))
  -- "exchange for exclusive"
  shared_exchanged :
      (n x v s : ℕ) → Updater S G n s exclusive_lock x → T (holds_shared (lock G.locks x) s)
      → Locked S s x (sets_after S G s exclusive_lock x) (taken (lock G.locks x) s v) G
      (locked_anew S s exclusive_lock x (taken (lock G.locks x) s v) G)
      → Granted S G (Write n x v) (says granted 0 0 0 (locked_anew S s exclusive_lock x (taken (lock G.locks x) s v) G))
  -- "take exclusive"
  exclusive_taken :
      (n x v s : ℕ) → Updater S G n s exclusive_lock x → (T (holds (lock G.locks x) s) → ⊥)
      → Locked S s x (sets_after S G s exclusive_lock x) (taken (lock G.locks x) s v) G
      (locked_anew S s exclusive_lock x (taken (lock G.locks x) s v) G)
      → Granted S G (Write n x v) (says granted 0 0 0 (locked_anew S s exclusive_lock x (taken (lock G.locks x) s v) G))
  -- "update commit: number is the stamp"
  update_commits :
      (n s : ℕ) → Caller S G n s → T (live_update (txn G.txns s)) → exclusives_of S G.locks s ≢ 0 → Committed S s G (committed S s G)
      → Granted S G (Commit n) (says granted 0 (clock G.txns + 1) 0 (committed S s G))
  -- request E7: "commits without a new stamp, answers the present clock": no clock and no version row changes
  empty_commits :
      (n s : ℕ) → Caller S G n s → T (live_update (txn G.txns s)) → exclusives_of S G.locks s ≡ 0 → Aborted S s G (aborted S s G)
      → Granted S G (Commit n) (says granted 0 (clock G.txns) 0 (aborted S s G))
  -- "A query only ends."; request E8: "answers the sum as value and the count as looked"
  query_commits :
      (n s : ℕ) → Caller S G n s → T (live_query (txn G.txns s)) → Ended S s G (ended S s G)
      → Granted S G (Commit n) (says granted (txn G.txns s).weight_sum 0 (txn G.txns s).read_count (ended S s G))
  -- request E11
  relaxed_commits :
      (n s : ℕ) → Caller S G n s → T (live_relaxed (txn G.txns s)) → RelaxedEnded S s G (ended S s G)
      → Granted S G (Commit n) (says granted (txn G.txns s).weight_sum 0 (txn G.txns s).read_count (ended S s G))
  -- request E6: "Its commit puts versions under that stamp, answers it and takes no new one"
  settled_commits :
      (n s : ℕ) → Caller S G n s → T (live_settled (txn G.txns s))
      → SettledEnded S s (λ x. with_new G.locks s (txn G.txns s).start 0 x (versions_of S G.versions x)) G (settled_committed S s G)
      → Granted S G (Commit n) (says granted 0 (txn G.txns s).start 0 (settled_committed S s G))
  update_aborts :
      (n s : ℕ) → Caller S G n s → T (live_update (txn G.txns s)) → Aborted S s G (aborted S s G)
      → Granted S G (Abort n) (says granted 0 0 0 (aborted S s G))
  -- request E6: "its abort trims rows as a query's end does"
  settled_aborts :
      (n s : ℕ) → Caller S G n s → T (live_settled (txn G.txns s))
      → SettledEnded S s (λ x. versions_of S G.versions x) G (settled_aborted S s G)
      → Granted S G (Abort n) (says granted 0 0 0 (settled_aborted S s G))
  -- request E6: "the stamp is answered as number"
  update_settles :
      (n s : ℕ) → Caller S G n s → T (live_update (txn G.txns s)) → Settled S s G (settled S s G)
      → Granted S G (Settle n) (says granted 0 (clock G.txns + 1) 0 (settled S s G))
  -- "for a query is the same as commit"
  query_aborts :
      (n s : ℕ) → Caller S G n s → T (live_query (txn G.txns s)) → Ended S s G (ended S s G)
      → Granted S G (Abort n) (says granted (txn G.txns s).weight_sum 0 (txn G.txns s).read_count (ended S s G))
  relaxed_aborts :
      (n s : ℕ) → Caller S G n s → T (live_relaxed (txn G.txns s)) → RelaxedEnded S s G (ended S s G)
      → Granted S G (Abort n) (says granted (txn G.txns s).weight_sum 0 (txn G.txns s).read_count (ended S s G))
