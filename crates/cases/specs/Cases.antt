-- A case: a call and three tables as numbers.
use Rattle.std.specs.Prelude.{ℕ, ◌+◌, ◌*◌, ◌≡◌, Bool, ◌&&◌, List, eqb, leb, length, get_or, take, drop}
use Rattle.names.specs.Sizes.{base}
use Rattle.rules.specs.Tables.{Tables, tables, txn_words, lock_words, version_words}
use Rattle.rules.specs.Answers.{Call}
use Rattle.call_words.specs.Calls.{fields, known_kind, call_in}

-- ---- sizes

-- the numbers before the words: the call's four, and three lengths. An answer has as many: its four numbers, and the lengths
abbrev pub head_numbers : ℕ
head_numbers = 7

-- the longest tables that a case may give: eight words over the right sizes
abbrev pub txns_room : ℕ
txns_room = txn_words base + 8

abbrev pub locks_room : ℕ
locks_room = lock_words base + 8

abbrev pub versions_room : ℕ
versions_room = version_words base + 8

-- the numbers of the longest case
abbrev pub most_numbers : ℕ
most_numbers = head_numbers + txns_room + locks_room + versions_room

-- the bytes of a number: at most 20 digits, and a byte beside it
abbrev pub number_bytes : ℕ
number_bytes = 21

-- the bytes of the longest answer
abbrev pub longest_answer : ℕ
longest_answer = number_bytes * most_numbers

-- ---- what the numbers give

-- kind, number, item, value
unfoldable pub call_of : List ℕ → Call
call_of ns = call_in (fields (get_or ns 0 0) (get_or ns 1 0) (get_or ns 2 0) (get_or ns 3 0))

-- the three lengths
abbrev pub txns_length : List ℕ → ℕ
txns_length ns = get_or ns 4 0

abbrev pub locks_length : List ℕ → ℕ
locks_length ns = get_or ns 5 0

abbrev pub versions_length : List ℕ → ℕ
versions_length ns = get_or ns 6 0

-- then the words of the three tables
unfoldable pub tables_of : List ℕ → Tables
tables_of ns =
    tables
    (take (txns_length ns) (drop head_numbers ns))
    (take (locks_length ns) (drop (head_numbers + txns_length ns) ns))
    (take (versions_length ns) (drop (head_numbers + txns_length ns + locks_length ns) ns))

-- a kind, tables of at most eight words over their sizes, and as many words as the lengths say
unfoldable pub is_case : List ℕ → Bool
is_case ns =
    leb head_numbers (length ns)
    && leb (txns_length ns) txns_room
    && leb (locks_length ns) locks_room
    && leb (versions_length ns) versions_room
    && (known_kind (get_or ns 0 0) && eqb (head_numbers + txns_length ns + locks_length ns + versions_length ns) (length ns))

-- three tables that the words fill
pub record Fits (ns t l v : List ℕ) : Type 0 where
  pub txns : length t ≡ txns_length ns
  pub locks : length l ≡ locks_length ns
  pub versions : length v ≡ versions_length ns
  pub all : head_numbers + length t + length l + length v ≡ length ns
