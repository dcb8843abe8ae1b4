-- Document 01, "Three lent tables of 64-bit words". A table is the list of its words; rows are read and written through
-- the records below. Where a word stands in its row is said in names/specs/Layout.
use Rattle.std.specs.Prelude.{ℕ, zero, suc, ◌+◌, ◌*◌, Bool, ◌&&◌, ◌||◌, not, cond, List, [], ◌∷◌, get_or, set, drop, replicate, eqb}
use Rattle.names.specs.declared.Sizes.{Sizes}
pub use Rattle.names.specs.Layout.{an_update, a_query, a_settled, a_relaxed, no_lock, shared_lock, exclusive_lock, lock_row}
use Rattle.names.specs.Layout.{last_number_at, clock_at, txn_head, txn_number_at, txn_kind_at, txn_start_at, txn_lock_at, txn_item_at, txn_rank_at, txn_count_at, txn_sum_at}
use Rattle.names.specs.Layout.{txn_items_read_at, txn_later_for_at, txn_row}
use Rattle.names.specs.Layout.{lock_shared_at, lock_exclusive_at, lock_working_at, version_hidden_at}
use Rattle.rules.specs.Words.{some_below, count_below, first_from, map_rows, bit, without_bit, slots_that}

pub record Tables : Type 0 where
  pub txns : List ℕ
  pub locks : List ℕ
  pub versions : List ℕ

abbrev pub tables : List ℕ → List ℕ → List ℕ → Tables
tables t l v = record { txns = t; locks = l; versions = v }

-- ---- the words of a row that begins at b
-- the place k words behind b
abbrev pub behind : ℕ → ℕ → ℕ
behind b zero = b
behind b (suc k) = b + suc k

-- n words from the k-th on, read as a list; words written there
abbrev pub words_from : List ℕ → ℕ → ℕ → ℕ → List ℕ
words_from l b k zero = []
words_from l b k (suc n) = get_or l (behind b k) 0 ∷ words_from l b (suc k) n

abbrev pub put_from : List ℕ → ℕ → ℕ → List ℕ → List ℕ
put_from l b k [] = l
put_from l b k (w ∷ ws) = put_from (set l (behind b k) w) b (suc k) ws

-- ---- "Transactions ..: last number given; clock (stamp of the latest update commit); then 16 rows", 32 since request E5. Since request
-- E6 the clock is the stamp that was given last, at a commit or at a settle
abbrev pub last_number : List ℕ → ℕ
last_number t = get_or t last_number_at 0

abbrev pub clock : List ℕ → ℕ
clock t = get_or t clock_at 0

abbrev pub txn_at : ℕ → ℕ
txn_at s = txn_head + txn_row * s

abbrev pub txn_words : Sizes → ℕ
txn_words S = txn_at S.slots

-- "number (0 is free), kind (0 update, 1 query), start stamp (0 for an update), awaited lock (0 none, 1 shared, 2 exclusive),
-- awaited item (0 if none)"; request E4: "a word for its rank on the awaited item"; request E6: "kind 2 and that stamp as start";
-- request E8: "Each transaction row gains a read count and a weight sum"; request E11: the items that a relaxed query has read, bit x
-- for item x, and the relaxed queries for which an update is a later one, bit q for slot q
pub record Txn : Type 0 where
  pub number : ℕ
  pub kind : ℕ
  pub start : ℕ
  pub awaited_lock : ℕ
  pub awaited_item : ℕ
  pub rank : ℕ
  pub read_count : ℕ
  pub weight_sum : ℕ
  pub items_read : ℕ
  pub later_for : ℕ

-- the words of a row as a transaction, and back
abbrev pub txn_in : List ℕ → Txn
txn_in ws =
    record {
      number = get_or ws txn_number_at 0;
      kind = get_or ws txn_kind_at 0;
      start = get_or ws txn_start_at 0;
      awaited_lock = get_or ws txn_lock_at 0;
      awaited_item = get_or ws txn_item_at 0;
      rank = get_or ws txn_rank_at 0;
      read_count = get_or ws txn_count_at 0;
      weight_sum = get_or ws txn_sum_at 0;
      items_read = get_or ws txn_items_read_at 0;
      later_for = get_or ws txn_later_for_at 0;
    }

abbrev pub txn_words_of : Txn → List ℕ
txn_words_of r =
    r.number
    ∷ r.kind
    ∷ r.start
    ∷ r.awaited_lock
    ∷ r.awaited_item
    ∷ r.rank
    ∷ r.read_count
    ∷ r.weight_sum
    ∷ r.items_read
    ∷ r.later_for
    ∷ []

-- the row of slot s, read and written
unfoldable pub txn : List ℕ → ℕ → Txn
txn t s = txn_in (words_from t (txn_at s) 0 txn_row)

unfoldable pub set_txn : List ℕ → ℕ → Txn → List ℕ
set_txn t s r = put_from t (txn_at s) 0 (txn_words_of r)

-- the awaited fields alone: the lock, the item and the rank
unfoldable pub set_awaited : List ℕ → ℕ → ℕ → ℕ → ℕ → List ℕ
set_awaited t s k x p = set (set (set t (txn_at s + txn_lock_at) k) (txn_at s + txn_item_at) x) (txn_at s + txn_rank_at) p

-- request E8: the read count and the weight sum alone
unfoldable pub set_reads : List ℕ → ℕ → ℕ → ℕ → List ℕ
set_reads t s n w = set (set t (txn_at s + txn_count_at) n) (txn_at s + txn_sum_at) w

-- request E11: the items read alone, and the sets alone to which the transaction belongs
unfoldable pub set_items_read : List ℕ → ℕ → ℕ → List ℕ
set_items_read t s w = set t (txn_at s + txn_items_read_at) w

unfoldable pub set_later_for : List ℕ → ℕ → ℕ → List ℕ
set_later_for t s w = set t (txn_at s + txn_later_for_at) w

-- a row with another word at the place k, so with another rank, or in other sets
abbrev pub with_word : ℕ → Txn → ℕ → Txn
with_word k r w = txn_in (set (txn_words_of r) k w)

abbrev pub with_rank : Txn → ℕ → Txn
with_rank r p = with_word txn_rank_at r p

abbrev pub with_later_for : Txn → ℕ → Txn
with_later_for r m = with_word txn_later_for_at r m

-- one word of each row alone, that at the place k: in each of the first n rows the one that f gives
unfoldable pub reworded : ℕ → ℕ → (Txn → ℕ) → List ℕ → List ℕ
reworded k zero f t = t
reworded k (suc n) f t = set (reworded k n f t) (txn_at n + k) (f (txn t n))

-- the ranks alone
abbrev pub reranked : ℕ → (Txn → ℕ) → List ℕ → List ℕ
reranked n f t = reworded txn_rank_at n f t

-- the row of one that begins, with its number, its kind and its start, and a free row
abbrev pub new_txn : ℕ → ℕ → ℕ → Txn
new_txn n k q =
    record {
      number = n;
      kind = k;
      start = q;
      awaited_lock = no_lock;
      awaited_item = 0;
      rank = 0;
      read_count = 0;
      weight_sum = 0;
      items_read = 0;
      later_for = 0;
    }

abbrev pub no_txn : Txn
no_txn = new_txn 0 0 0

unfoldable pub live : Txn → Bool
live r = not (eqb r.number 0)

unfoldable pub live_update : Txn → Bool
live_update r = live r && eqb r.kind an_update

unfoldable pub live_query : Txn → Bool
live_query r = live r && eqb r.kind a_query

-- request E6: an update past its writing. An update that still writes is `live_update`
unfoldable pub live_settled : Txn → Bool
live_settled r = live r && eqb r.kind a_settled

-- request E11: a relaxed query
unfoldable pub live_relaxed : Txn → Bool
live_relaxed r = live r && eqb r.kind a_relaxed

-- a query of either kind: "A relaxed query is a query for code 5 and for E8's counts"
unfoldable pub query_kind : ℕ → Bool
query_kind k = eqb k a_query || eqb k a_relaxed

unfoldable pub any_query : Txn → Bool
any_query r = live r && query_kind r.kind

-- who may hold an item exclusively: an update, past its writing or not
unfoldable pub may_hold : Txn → Bool
may_hold r = live_update r || live_settled r

-- who reads versions: queries, relaxed or not, and those past their writing. "Version rules and the bound on looked count such readers as
-- queries."
unfoldable pub is_reader : Txn → Bool
is_reader r = live r && not (eqb r.kind an_update)

-- who reads by a start. Request E11: "their rules on starts leave it out", the relaxed query
unfoldable pub by_start : Txn → Bool
by_start r = live r && (eqb r.kind a_query || eqb r.kind a_settled)

-- the slot of the live transaction with the number n, or the number of slots where there is none
unfoldable pub slot_of : Sizes → List ℕ → ℕ → ℕ
slot_of S t n = first_from (λ s. live (txn t s) && eqb (txn t s).number n) 0 S.slots

-- the lowest free slot, or the number of slots where there is none
unfoldable pub free_slot : Sizes → List ℕ → ℕ
free_slot S t = first_from (λ s. not (live (txn t s))) 0 S.slots

-- request E11, "Settle while a relaxed query lives, or beginning one while a transaction is past its writing": some slot has one
unfoldable pub some_settled : Sizes → List ℕ → Bool
some_settled S t = some_below S.slots (λ s. live_settled (txn t s))

unfoldable pub some_relaxed : Sizes → List ℕ → Bool
some_relaxed S t = some_below S.slots (λ s. live_relaxed (txn t s))

-- the word of the slots of all relaxed queries; of those that have read the item x
unfoldable pub relaxed_in : Sizes → List ℕ → ℕ
relaxed_in S t = slots_that S.slots (λ s. live_relaxed (txn t s))

unfoldable pub have_read : Sizes → List ℕ → ℕ → ℕ
have_read S t x = slots_that S.slots (λ s. bit (txn t s).items_read x)

-- ---- how a version is chosen: up to a start, or, request E11, outside of the set of the relaxed query in this slot
pub data Reader : Type 0 where
  up_to : ℕ → Reader
  outside : ℕ → Reader

-- the reader in slot s
unfoldable pub reader_in : List ℕ → ℕ → Reader
reader_in t s = cond (eqb (txn t s).kind a_relaxed) (outside s) (up_to (txn t s).start)

-- the readers in n slots from slot s on; all of them
unfoldable pub readers_from : List ℕ → ℕ → ℕ → List Reader
readers_from t s zero = []
readers_from t s (suc n) =
    let rest = readers_from t (suc s) n in
    cond (is_reader (txn t s)) (reader_in t s ∷ rest) rest

unfoldable pub readers : Sizes → List ℕ → List Reader
readers S t = readers_from t 0 S.slots

-- ---- "Locks, 192 words: 64 rows of 3: shared holders (bit i for slot i), exclusive holder (slot plus 1, 0 for none), working value."
pub record Lock : Type 0 where
  pub shared : ℕ
  pub exclusive : ℕ
  pub working : ℕ

abbrev pub lock_words : Sizes → ℕ
lock_words S = lock_row * S.items

-- the words of a row as a lock, and back
abbrev pub lock_in : List ℕ → Lock
lock_in r = record { shared = get_or r lock_shared_at 0; exclusive = get_or r lock_exclusive_at 0; working = get_or r lock_working_at 0 }

abbrev pub lock_words_of : Lock → List ℕ
lock_words_of h = h.shared ∷ h.exclusive ∷ h.working ∷ []

-- the row of item x, read and written
unfoldable pub lock : List ℕ → ℕ → Lock
lock l x = lock_in (words_from l (lock_row * x) 0 lock_row)

unfoldable pub set_lock : List ℕ → ℕ → Lock → List ℕ
set_lock l x h = put_from l (lock_row * x) 0 (lock_words_of h)

unfoldable pub holds_shared : Lock → ℕ → Bool
holds_shared h s = bit h.shared s

unfoldable pub holds_exclusive : Lock → ℕ → Bool
holds_exclusive h s = eqb h.exclusive (suc s)

unfoldable pub holds : Lock → ℕ → Bool
holds h s = holds_shared h s || holds_exclusive h s

-- request E2, "holds 32 items exclusively": how many items slot s holds so
unfoldable pub exclusives_of : Sizes → List ℕ → ℕ → ℕ
exclusives_of S l s = count_below S.items (λ x. holds_exclusive (lock l x) s)

-- a lock without the slot s: "Its locks, working values .. go"
unfoldable pub released : ℕ → Lock → Lock
released s h =
    cond (holds_exclusive h s)
    (record { shared = without_bit h.shared s; exclusive = 0; working = 0 })
    (record { shared = without_bit h.shared s; exclusive = h.exclusive; working = h.working })

unfoldable pub release : Sizes → ℕ → List ℕ → List ℕ
release S s l = map_rows S.items lock_row (λ x r. lock_words_of (released s (lock_in r))) 0 l

-- request E6, "and its shared locks go"
abbrev pub unshared : ℕ → Lock → Lock
unshared s h = record { shared = without_bit h.shared s; exclusive = h.exclusive; working = h.working }

unfoldable pub unshare : Sizes → ℕ → List ℕ → List ℕ
unshare S s l = map_rows S.items lock_row (λ x r. lock_words_of (unshared s (lock_in r))) 0 l

-- ---- "Versions ..: 64 rows ..: a count, then 16 pairs of stamp and value, newest first, unused pairs zero.", and of request E5 "so the
-- version table has 64 rows of 65 words". Request E11: behind them, for each pair, from whom it is hidden, so rows of 97 words
abbrev pub masks_at : Sizes → ℕ
masks_at S = version_hidden_at S.places

abbrev pub version_row : Sizes → ℕ
version_row S = masks_at S + S.places

abbrev pub version_words : Sizes → ℕ
version_words S = version_row S * S.items

-- ---- "Fresh tables hold zeros, but each version row has count 1 with the pair (0, 0)."

-- a version table with the count 1 in every row
abbrev pub with_counts : Sizes → List ℕ → List ℕ
with_counts S v = map_rows S.items (version_row S) (λ x r. 1 ∷ drop 1 r) 0 v

unfoldable pub fresh : Sizes → Tables
fresh S =
    record {
      txns = replicate (txn_words S) 0;
      locks = replicate (lock_words S) 0;
      versions = with_counts S (replicate (version_words S) 0);
    }
