-- Transactions that can be searched, and tables of which only the first one or two matter.
use Rattle.std.specs.Prelude.{ℕ, ◌≤◌, ◌<◌, ◌≡◌, List, [], length}
use Rattle.names.specs.Sizes.{base, last_word}
use Rattle.rules.specs.Tables.{Tables, tables, txn_words, last_number, clock, txn, an_update}

-- rows that can be searched: their number, and what the numbers are at most
pub record Searchable (t : List ℕ) : Type 0 where
  pub size : length t ≡ txn_words base
  pub last : last_number t ≤ last_word
  pub now : clock t ≤ last_word
  pub given : (s : ℕ) → s < base.slots → (txn t s).number ≤ last_word

-- a free row has no kind of its own
pub record FreeRows (t : List ℕ) : Type 0 where
  pub unkind : (b : ℕ) → b < base.slots → (txn t b).number ≡ 0 → (txn t b).kind ≡ an_update

-- tables of which nothing but the transactions is looked at; nothing but the transactions and the locks
abbrev pub of_txns : List ℕ → Tables
of_txns t = tables t [] []

abbrev pub of_locks : List ℕ → List ℕ → Tables
of_locks t l = tables t l []
