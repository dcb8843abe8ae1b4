-- Where each word stands: the head and the rows of the transactions, the rows of the locks and of the versions, and what the
-- words of a kind and of an awaited lock mean. names/src/layout.rt has the same for the code.
use Rattle.std.specs.Prelude.{ℕ, ◌+◌, ◌*◌}

-- ---- "Transactions ..: last number given; clock (stamp of the latest update commit); then 16 rows", of six words since request E4, of
-- eight since request E8 and of ten since request E11, and 32 rows since request E5. Since request E6 the clock is the stamp that was
-- given last, at a commit or at a settle
abbrev pub last_number_at : ℕ
last_number_at = 0

abbrev pub clock_at : ℕ
clock_at = 1

abbrev pub txn_head : ℕ
txn_head = 2

-- in a row: "number (0 is free), kind (0 update, 1 query), start stamp (0 for an update), awaited lock (0 none, 1 shared,
-- 2 exclusive), awaited item (0 if none)"
abbrev pub txn_number_at : ℕ
txn_number_at = 0

abbrev pub txn_kind_at : ℕ
txn_kind_at = 1

abbrev pub txn_start_at : ℕ
txn_start_at = 2

abbrev pub txn_lock_at : ℕ
txn_lock_at = 3

abbrev pub txn_item_at : ℕ
txn_item_at = 4

-- request E4: "its rank on the awaited item, from 1 without gaps, 0 if it awaits nothing"
abbrev pub txn_rank_at : ℕ
txn_rank_at = 5

-- request E8: "a read count and a weight sum"
abbrev pub txn_count_at : ℕ
txn_count_at = 6

abbrev pub txn_sum_at : ℕ
txn_sum_at = 7

-- request E11, "what this needs is kept in the tables": which items a relaxed query has read, bit x for item x; and for which relaxed
-- queries an update is a later one, bit q for slot q
abbrev pub txn_items_read_at : ℕ
txn_items_read_at = 8

abbrev pub txn_later_for_at : ℕ
txn_later_for_at = 9

abbrev pub txn_row : ℕ
txn_row = 10

-- the kinds
abbrev pub an_update : ℕ
an_update = 0

abbrev pub a_query : ℕ
a_query = 1

-- request E6, "Its row then has kind 2": an update past its writing
abbrev pub a_settled : ℕ
a_settled = 2

-- request E11, "in its row kind 3, start 0": a relaxed query
abbrev pub a_relaxed : ℕ
a_relaxed = 3

-- the locks that are awaited
abbrev pub no_lock : ℕ
no_lock = 0

abbrev pub shared_lock : ℕ
shared_lock = 1

abbrev pub exclusive_lock : ℕ
exclusive_lock = 2

-- ---- "Locks, 192 words: 64 rows of 3: shared holders (bit i for slot i), exclusive holder (slot plus 1, 0 for none), working
-- value."
abbrev pub lock_shared_at : ℕ
lock_shared_at = 0

abbrev pub lock_exclusive_at : ℕ
lock_exclusive_at = 1

abbrev pub lock_working_at : ℕ
lock_working_at = 2

abbrev pub lock_row : ℕ
lock_row = 3

-- ---- "Versions ..: 64 rows ..: a count, then 16 pairs of stamp and value", 32 since request E5 ("64 rows of 65 words"): the first
-- pair's places; the others stand a pair's words further each
abbrev pub version_count_at : ℕ
version_count_at = 0

abbrev pub version_stamp_at : ℕ
version_stamp_at = 1

abbrev pub version_value_at : ℕ
version_value_at = 2

abbrev pub version_pair : ℕ
version_pair = 2

-- request E11: behind all pairs a word for each, from whom that version is hidden, bit q for the relaxed query in slot q; n is how many
-- pairs a row has room for
abbrev pub version_hidden_at : ℕ → ℕ
version_hidden_at n = version_stamp_at + version_pair * n
