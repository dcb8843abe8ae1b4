-- Request E8: trials of what is counted of reads, and of counts and sums on both sides of the limit. T1 is an update, Q1, Q2, .. are queries.
use Rattle.std.specs.Prelude.{ℕ, ◌-◌, List, [], ◌∷◌, set}
use Rattle.names.specs.declared.Sizes.{Sizes}
use Rattle.names.specs.Sizes.{last_word}
use Rattle.names.specs.Layout.{last_number_at}
use Rattle.rules.specs.Tables.{Tables, tables, set_txn, a_query, no_lock, fresh}
use Rattle.rules.specs.Answers.{BeginUpdate, BeginQuery, Read, Write, Commit, Abort, Settle}
use Rattle.plays.specs.Plays.{Line, ◌⇒◌}

-- AB. T1 writes x. Q2 reads x: looked 1. T1 reads y, and settles; it reads y by its stamp. Q3 reads x: 1, an item that there is not: 4, and
-- writes: 5. T1 commits: no sum and no count. Q3 reads x, and Q2 again, as it was: looked 2. Q3 aborts: it read once, and that weighs 1. Q2
-- commits: twice, and these weigh 3. Q4 reads nothing.
unfoldable pub trial_a_b : List Line
trial_a_b =
    (BeginUpdate ⇒ (0, 0, 1, 0))
    ∷ (Write 1 5 51 ⇒ (0, 0, 0, 0))
    ∷ (BeginQuery ⇒ (0, 0, 2, 0))
    ∷ (Read 2 5 ⇒ (0, 0, 0, 1))
    ∷ (Read 1 6 ⇒ (0, 0, 0, 1))
    ∷ (Settle 1 ⇒ (0, 0, 1, 0))
    ∷ (Read 1 6 ⇒ (0, 0, 0, 1))
    ∷ (BeginQuery ⇒ (0, 0, 3, 0))
    ∷ (Read 3 5 ⇒ (1, 0, 0, 0))
    ∷ (Read 3 64 ⇒ (4, 0, 0, 0))
    ∷ (Write 3 5 53 ⇒ (5, 0, 0, 0))
    ∷ (Commit 1 ⇒ (0, 0, 1, 0))
    ∷ (Read 3 5 ⇒ (0, 51, 0, 1))
    ∷ (Read 2 5 ⇒ (0, 0, 0, 2))
    ∷ (Abort 3 ⇒ (0, 1, 0, 1))
    ∷ (Commit 2 ⇒ (0, 3, 0, 2))
    ∷ (BeginQuery ⇒ (0, 0, 4, 0))
    ∷ (Commit 4 ⇒ (0, 0, 0, 0))
    ∷ []

-- tables in which Q1 lives, which read n times, and that weighs w
unfoldable pub read_so_far : ℕ → ℕ → Sizes → Tables
read_so_far n w S =
    tables
    (set_txn (set (fresh S).txns last_number_at 1) 0
    (record {
      number = 1;
      kind = a_query;
      start = 0;
      awaited_lock = no_lock;
      awaited_item = 0;
      rank = 0;
      read_count = n;
      weight_sum = w;
      items_read = 0;
      later_for = 0;
    }))
    (fresh S).locks
    (fresh S).versions

-- AC. The count is the limit less 2, the sum the limit less 3. Q1 reads x: looked 1, and again when T2 has written it: looked 2. Now both are
-- there, and one read more changes neither.
unfoldable pub below_limit : Sizes → Tables
below_limit S = read_so_far (last_word - 2) (last_word - 3) S

unfoldable pub trial_a_c : List Line
trial_a_c =
    (BeginUpdate ⇒ (0, 0, 2, 0))
    ∷ (Write 2 5 52 ⇒ (0, 0, 0, 0))
    ∷ (Read 1 5 ⇒ (0, 0, 0, 1))
    ∷ (Commit 2 ⇒ (0, 0, 1, 0))
    ∷ (Read 1 5 ⇒ (0, 0, 0, 2))
    ∷ (Read 1 5 ⇒ (0, 0, 0, 2))
    ∷ (Commit 1 ⇒ (0, last_word, 0, last_word))
    ∷ []

-- AD. The same, without the last two reads: the count is the limit less 1, the sum the limit less 2.
unfoldable pub trial_a_d : List Line
trial_a_d = (Read 1 5 ⇒ (0, 0, 0, 1)) ∷ (Commit 1 ⇒ (0, last_word - 2, 0, last_word - 1)) ∷ []

-- AE. The sum is the limit less 1, and a weight of 2 is one too many: it is held there.
unfoldable pub at_limit : Sizes → Tables
at_limit S = read_so_far (last_word - 1) (last_word - 1) S

unfoldable pub trial_a_e : List Line
trial_a_e =
    (BeginUpdate ⇒ (0, 0, 2, 0))
    ∷ (Write 2 5 52 ⇒ (0, 0, 0, 0))
    ∷ (Commit 2 ⇒ (0, 0, 1, 0))
    ∷ (Read 1 5 ⇒ (0, 0, 0, 2))
    ∷ (Abort 1 ⇒ (0, last_word, 0, last_word))
    ∷ []

-- AF. One more than the limit is in no good tables.
unfoldable pub beyond_limit : Sizes → Tables
beyond_limit S = read_so_far last_word 4294967296 S

unfoldable pub trial_a_f : List Line
trial_a_f = (Read 1 5 ⇒ (10, 0, 0, 0)) ∷ []
