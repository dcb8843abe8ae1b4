-- What one pass over the transaction rows sees: their shape, the live updates, those that wait, the relaxed queries and their sets.
use Rattle.std.specs.Prelude.{ℕ, zero, suc, Bool, ◌&&◌, ◌||◌, not, List, eqb, leb, ltb}
use Rattle.std.specs.Int.Bits.{bit_or}
use Rattle.names.specs.declared.Sizes.{Sizes}
use Rattle.names.specs.Sizes.{base, last_word}
use Rattle.rules.specs.Words.{implies, every_below, slots_that}
use Rattle.rules.specs.Tables.{last_number, clock, Txn, txn, live, live_update, live_settled, relaxed_in, a_query, no_lock, exclusive_lock}
use Rattle.rules.specs.Tested.{tops_most, free_zero, listed, start_good, awaited_good, reads_good, notes_good}
use Rattle.shapes.specs.declared.Seen.{Seen}
use Rattle.shapes.specs.declared.Row.{Row}

-- the clauses on a row that the locks have no part in
unfoldable pub row_good : Sizes → List ℕ → Txn → Bool
row_good S t r =
    free_zero r
    && (leb r.number (last_number t) && (listed r && (start_good (clock t) r && (awaited_good S r && (reads_good r && notes_good S r)))))

unfoldable pub rows_good : Sizes → List ℕ → Bool
rows_good S t = tops_most t && every_below S.slots (λ s. row_good S t (txn t s))

-- the or of what n rows have
unfoldable pub or_below : ℕ → (ℕ → ℕ) → ℕ
or_below zero f = 0
or_below (suc n) f = bit_or (or_below n f) (f n)

-- a live update that awaits a lock
unfoldable pub waits : Txn → Bool
waits r = live_update r && not (eqb r.awaited_lock no_lock)

unfoldable pub updates_in : Sizes → List ℕ → ℕ
updates_in S t = slots_that S.slots (λ s. live_update (txn t s))

unfoldable pub waiting_in : Sizes → List ℕ → ℕ
waiting_in S t = slots_that S.slots (λ s. waits (txn t s))

unfoldable pub settled_in : Sizes → List ℕ → ℕ
settled_in S t = slots_that S.slots (λ s. live_settled (txn t s))

-- request E11: the sets in which somebody is
unfoldable pub later_in : Sizes → List ℕ → ℕ
later_in S t = or_below S.slots (λ s. (txn t s).later_for)

abbrev pub seen : Sizes → List ℕ → Seen
seen S t =
    record {
      ok = rows_good S t;
      updates = updates_in S t;
      waiting = waiting_in S t;
      settled = settled_in S t;
      relaxed = relaxed_in S t;
      later = later_in S t;
    }

-- ---- a row as the code tests it
-- the words of a row as the rules' record
abbrev pub txn_of : Row → Txn
txn_of r =
    record {
      number = r.number;
      kind = r.kind;
      start = r.start;
      awaited_lock = r.wanted;
      awaited_item = r.item;
      rank = r.rank;
      read_count = r.count;
      weight_sum = r.sum;
      items_read = r.read;
      later_for = r.later;
    }

-- a word with a bit for each item
abbrev pub every_item : ℕ
every_item = 18446744073709551615

abbrev pub free_ok : Txn → Bool
free_ok r =
    eqb r.kind 0
    && eqb r.start 0
    && eqb r.awaited_lock 0
    && (eqb r.awaited_item 0 && eqb r.rank 0)
    && (eqb r.read_count 0 && eqb r.weight_sum 0)
    && (eqb r.items_read 0 && eqb r.later_for 0)

abbrev pub update_ok : ℕ → Txn → Bool
update_ok last r =
    leb r.number last
    && eqb r.start 0
    && leb r.awaited_lock exclusive_lock
    && ltb r.awaited_item base.items
    && (not (eqb r.awaited_lock no_lock) || (eqb r.awaited_item 0 && eqb r.rank 0))
    && (eqb r.read_count 0 && eqb r.weight_sum 0 && eqb r.items_read 0)

abbrev pub query_ok : ℕ → ℕ → Txn → Bool
query_ok last now r =
    leb r.number last
    && eqb r.kind a_query
    && leb r.start now
    && eqb r.awaited_lock no_lock
    && (eqb r.awaited_item 0 && eqb r.rank 0)
    && (leb r.read_count last_word && leb r.weight_sum last_word && (eqb r.items_read 0 && eqb r.later_for 0))

abbrev pub relaxed_ok : ℕ → Txn → Bool
relaxed_ok last r =
    leb r.number last
    && eqb r.start 0
    && eqb r.awaited_lock no_lock
    && (eqb r.awaited_item 0 && eqb r.rank 0)
    && (leb r.read_count last_word && leb r.weight_sum last_word && (leb r.items_read every_item && eqb r.later_for 0))

abbrev pub settled_ok : ℕ → ℕ → Txn → Bool
settled_ok last now r =
    leb r.number last
    && (leb 1 r.start && leb r.start now)
    && eqb r.awaited_lock no_lock
    && (eqb r.awaited_item 0 && eqb r.rank 0)
    && (eqb r.read_count 0 && eqb r.weight_sum 0 && (eqb r.items_read 0 && eqb r.later_for 0))

-- no slot below i has the number n; the number of slot i is that of no slot below, if it is one
unfoldable pub apart_from : List ℕ → ℕ → ℕ → Bool
apart_from t i n = every_below i (λ r. not (eqb (txn t r).number n))

unfoldable pub distinct_at : List ℕ → ℕ → Bool
distinct_at t s = every_below s (λ r. implies (live (txn t s)) (not (eqb (txn t r).number (txn t s).number)))
