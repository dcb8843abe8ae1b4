-- The test of all tables: the clauses of Good, in the same order, as it is computed.
use Rattle.std.specs.Prelude.{ℕ, suc, ◌+◌, ◌-◌, ◌*◌, ◌^◌, Bool, true, ◌&&◌, ◌||◌, not, cond, List, [], ◌∷◌, get_or, take, drop, length, eqb, leb, ltb}
use Rattle.std.specs.Int.Bits.{bit_or}
use Rattle.names.specs.declared.Sizes.{Sizes}
use Rattle.names.specs.Sizes.{last_word}
use Rattle.rules.specs.Words.{implies, every, every_below, every_row, contains}
use Rattle.rules.specs.Tables.{Tables, txn_words, lock_words, version_words, version_row, masks_at, Reader, readers}
use Rattle.rules.specs.Tables.{last_number, clock, Txn, txn, live, live_update, live_settled, live_relaxed, may_hold, by_start, is_reader}
use Rattle.rules.specs.Tables.{some_settled, some_relaxed, relaxed_in, have_read}
use Rattle.rules.specs.Tables.{a_relaxed, no_lock, shared_lock, exclusive_lock, Lock, lock, holds, holds_shared, holds_exclusive, exclusives_of}
use Rattle.rules.specs.Versions.{Version, no_version, versions_in, versions_of, stamp_at, hidden_at, sees, read_by_some}
use Rattle.rules.specs.Waits.{awaits, awaits_on, waiters_on, no_circle}

-- "The sizes are exact."
unfoldable pub sizes_exact : Sizes → Tables → Bool
sizes_exact S G =
    eqb (length G.txns) (txn_words S) && (eqb (length G.locks) (lock_words S) && eqb (length G.versions) (version_words S))

-- "Last number and clock are at most 4,294,967,295."
unfoldable pub tops_most : List ℕ → Bool
tops_most t = leb (last_number t) last_word && leb (clock t) last_word

-- ---- one row of the transactions
-- "A free row is all zeros": its words but for the number
unfoldable pub all_zero : Txn → Bool
all_zero r =
    eqb r.kind 0
    && (eqb r.start 0
    && (eqb r.awaited_lock 0
    && (eqb r.awaited_item 0
    && (eqb r.rank 0
    && (eqb r.read_count 0 && (eqb r.weight_sum 0 && (eqb r.items_read 0 && eqb r.later_for 0)))))))

unfoldable pub free_zero : Txn → Bool
free_zero r = implies (not (live r)) (all_zero r)

-- "kinds and awaited locks are as listed"
unfoldable pub listed : Txn → Bool
listed r = leb r.kind a_relaxed && leb r.awaited_lock exclusive_lock

-- "an update's start is 0, a query's is at most the clock, and a query awaits nothing"; request E6: such a row "awaits nothing; its
-- stamp is 1 to the clock"; request E11: of a relaxed query "start 0"
unfoldable pub start_good : ℕ → Txn → Bool
start_good now r =
    implies (live_update r || live_relaxed r) (eqb r.start 0)
    && (implies (by_start r) (leb r.start now)
    && (implies (is_reader r) (eqb r.awaited_lock no_lock) && implies (live_settled r) (leb 1 r.start)))

-- "an awaited item is below 64, and 0 where nothing is awaited"; request E4: the rank is "0 if it awaits nothing"
unfoldable pub awaited_good : Sizes → Txn → Bool
awaited_good S r = cond (eqb r.awaited_lock no_lock) (eqb r.awaited_item 0 && eqb r.rank 0) (ltb r.awaited_item S.items)

-- request E8: the count and the sum are "held at 4,294,967,295 once there, and both 0 for every update"
unfoldable pub reads_good : Txn → Bool
reads_good r =
    leb r.read_count last_word
    && (leb r.weight_sum last_word && implies (may_hold r) (eqb r.read_count 0 && eqb r.weight_sum 0))

-- request E11: only a relaxed query has read items, and only an update is in sets
unfoldable pub notes_good : Sizes → Txn → Bool
notes_good S r =
    ltb r.items_read (2 ^ S.items)
    && (implies (not (live_relaxed r)) (eqb r.items_read 0) && implies (not (live_update r)) (eqb r.later_for 0))

-- "who awaits shared holds nothing on that item, who awaits exclusive does not hold it exclusively"
unfoldable pub awaiter_good : ℕ → Txn → Lock → Bool
awaiter_good s r h =
    implies (eqb r.awaited_lock shared_lock) (not (holds h s))
    && implies (eqb r.awaited_lock exclusive_lock) (not (holds_exclusive h s))

-- "live numbers are .. from 1 to the last given", and the row's other clauses
unfoldable pub txn_good : Sizes → List ℕ → List ℕ → ℕ → Txn → Bool
txn_good S t l s r =
    free_zero r
    && (leb r.number (last_number t)
    && (listed r
    && (start_good (clock t) r
    && (awaited_good S r && (reads_good r && (notes_good S r && awaiter_good s r (lock l r.awaited_item)))))))

-- "live numbers are distinct"
unfoldable pub distinct : Sizes → List ℕ → Bool
distinct S t =
    every_below S.slots (λ s. every_below s (λ r. implies (live (txn t s)) (not (eqb (txn t r).number (txn t s).number))))

-- ---- one lock
-- "Lock holders are slots of live updates"; request E6: "such a row holds no shared lock"
unfoldable pub holders_live : Sizes → List ℕ → Lock → Bool
holders_live S t h =
    ltb h.shared (2 ^ S.slots)
    && (leb h.exclusive S.slots
    && every_below S.slots (λ s. implies (holds_shared h s) (live_update (txn t s)) && implies (holds_exclusive h s) (may_hold (txn t s))))

-- "a row has shared holders or an exclusive one, never both; without an exclusive holder the working value is 0"
unfoldable pub lock_good : Sizes → List ℕ → Lock → Bool
lock_good S t h =
    holders_live S t h
    && ((eqb h.shared 0 || eqb h.exclusive 0) && implies (eqb h.exclusive 0) (eqb h.working 0))

-- ---- request E2: what one slot holds exclusively, n items
-- "at most 32 for each update"
unfoldable pub quota_most : Sizes → ℕ → Txn → Bool
quota_most S n r = implies (may_hold r) (leb n S.quota)

-- "and one with 32 awaits no exclusive lock"
unfoldable pub full_idle : Sizes → ℕ → Txn → Bool
full_idle S n r = implies (may_hold r && eqb n S.quota) (not (eqb r.awaited_lock exclusive_lock))

unfoldable pub quota_good : Sizes → List ℕ → ℕ → Txn → Bool
quota_good S l s r = quota_most S (exclusives_of S l s) r && full_idle S (exclusives_of S l s) r

-- ---- request E4: the ranks
-- "from 1 without gaps": the rank of slot s, if it waits, is one of as many as wait on its item
unfoldable pub rank_within : Sizes → List ℕ → ℕ → Bool
rank_within S t s =
    let r = txn t s in
    let within = leb 1 r.rank && leb r.rank (waiters_on S t r.awaited_item) in
    implies (awaits r) within

-- slots r and s on one item have two ranks, and one that shares the item stands ahead of one that does not. What follows of waiters is
-- bound by `let`, here and above, so that it is computed only where somebody waits
unfoldable pub ranks_apart : List ℕ → List ℕ → ℕ → ℕ → Bool
ranks_apart t l r s =
    let x = (txn t r).awaited_item in
    let beside = awaits_on x (txn t s) in
    let apart =
    not (eqb (txn t r).rank (txn t s).rank)
    && implies (holds_shared (lock l x) r && not (holds_shared (lock l x) s)) (ltb (txn t r).rank (txn t s).rank) in
    implies (awaits (txn t r) && beside) apart

unfoldable pub ranks_good : Sizes → List ℕ → List ℕ → Bool
ranks_good S t l =
    every_below S.slots (λ s. rank_within S t s && every_below S.slots (λ r. implies (not (eqb r s)) (ranks_apart t l r s)))

-- ---- one row of versions
-- "stamps fall strictly"
unfoldable pub falls : List Version → Bool
falls [] = true
falls (v ∷ []) = true
falls (v ∷ w ∷ vs) = let older = falls (w ∷ vs) in ltb w.stamp v.stamp && older

-- request E11: whatever is newer than a hidden version is hidden too
unfoldable pub nests : List Version → Bool
nests [] = true
nests (v ∷ []) = true
nests (v ∷ w ∷ vs) = let older = nests (w ∷ vs) in contains v.hidden w.hidden && older

-- "the last is at most every live query's start", and that of those past their writing, and hidden from no relaxed query
unfoldable pub last_seen : List Reader → List Version → Bool
last_seen qs vs = every (λ q. sees q (get_or vs (length vs - 1) no_version)) qs

-- "A version that is not the newest is there exactly if some live query reads it.": those from place k on
unfoldable pub all_read : List Reader → List Version → ℕ → List Version → Bool
all_read qs vs k [] = true
all_read qs vs k (v ∷ rest) = let older = all_read qs vs (suc k) rest in (eqb k 0 || read_by_some qs vs k) && older

-- "A version count is 1 to 16 (32 since request E5), unused pairs are zero, stamps fall strictly, the first is at most the clock, the last .."
-- The readers are qs, the slots of the relaxed queries m
unfoldable pub versions_good : Sizes → ℕ → List Reader → ℕ → List ℕ → Bool
versions_good S now qs m r =
    leb 1 (get_or r 0 0)
    && (leb (get_or r 0 0) S.places
    && (every (λ w. eqb w 0) (drop (1 + 2 * get_or r 0 0) (take (masks_at S) r))
    && (every (λ w. eqb w 0) (drop (masks_at S + get_or r 0 0) r)
    && (let vs = versions_in S r in
    falls vs
    && (nests vs
    && (contains m (hidden_at vs 0) && (leb (stamp_at vs 0) now && (last_seen qs vs && all_read qs vs 0 vs))))))))

-- request E11: who holds the item x, whose lock is h and whose newest version is hidden from m, is in the sets of these, and if it holds
-- it exclusively of those who have read it
unfoldable pub holders_joined : Sizes → List ℕ → ℕ → Lock → ℕ → Bool
holders_joined S t x h m =
    let all = bit_or (have_read S t x) m in
    every_below S.slots
    (λ s.
    implies (holds_exclusive h s) (contains (txn t s).later_for all) && implies (holds_shared h s) (contains (txn t s).later_for m))

-- ---- request E6: those past their writing
-- "no other such row has it": slots r and s
unfoldable pub stamps_apart : List ℕ → ℕ → ℕ → Bool
stamps_apart t r s =
    implies (live_settled (txn t r) && live_settled (txn t s)) (not (eqb (txn t r).start (txn t s).start))

-- "and every version of an item it holds has a lower one": slot s, item x. What follows of those past their writing is bound by `let`,
-- so that it is computed only for them
unfoldable pub stamp_above : Sizes → Tables → ℕ → ℕ → Bool
stamp_above S G s x =
    let above = ltb (stamp_at (versions_of S G.versions x) 0) (txn G.txns s).start in
    implies (holds_exclusive (lock G.locks x) s) above

unfoldable pub settled_good : Sizes → Tables → Bool
settled_good S G =
    every_below S.slots
    (λ s.
    let above = every_below S.items (stamp_above S G s) in
    every_below s (λ r. stamps_apart G.txns r s) && implies (live_settled (txn G.txns s)) above)

-- ---- request E11: no relaxed query beside one past its writing, and sets are those of relaxed queries
unfoldable pub sets_good : Sizes → List ℕ → Bool
sets_good S t =
    not (some_settled S t && some_relaxed S t) && every_below S.slots (λ s. contains (relaxed_in S t) (txn t s).later_for)

-- ---- "Tables are good when all of this holds."
unfoldable pub good : Sizes → Tables → Bool
good S G =
    sizes_exact S G
    && (tops_most G.txns
    && (every_below S.slots (λ s. txn_good S G.txns G.locks s (txn G.txns s))
    && (distinct S G.txns
    && (every_below S.items (λ x. lock_good S G.txns (lock G.locks x))
    && (every_below S.slots (λ s. quota_good S G.locks s (txn G.txns s))
    && ((let qs = readers S G.txns in
    let m = relaxed_in S G.txns in
    every_row S.items (version_row S)
    (λ x r.
    versions_good S (clock G.txns) qs m r && holders_joined S G.txns x (lock G.locks x) (hidden_at (versions_in S r) 0))
    0
    G.versions)
    && (ranks_good S G.txns G.locks
    && (settled_good S G && (sets_good S G.txns && no_circle S G.txns G.locks)))))))))
