-- Document 01, "Trials on both sides of each limit": the starred ones. T1, T2, .. are the transactions 1, 2, ..
use Rattle.std.specs.Prelude.{ℕ, zero, suc, List, [], ◌∷◌, ◌++◌, set}
use Rattle.names.specs.declared.Sizes.{Sizes}
use Rattle.names.specs.Sizes.{last_word}
use Rattle.rules.specs.Tables.{Tables, tables, fresh, version_row}
use Rattle.rules.specs.Answers.{BeginUpdate, BeginQuery, Read, Write, Commit, Abort}
use Rattle.plays.specs.Plays.{Line, ◌⇒◌, Trial, any_end}
use Rattle.starred_row.specs.FullRow.{trial_i, full_row}
use Rattle.starred_quotas.specs.Quotas.{trial_q, trial_r}
use Rattle.starred_waiters.specs.Waiters.{nobody_stands, second_stands, trial_s, trial_t, exchanger_ahead, trial_u, closed_up_line, trial_v}
use Rattle.starred_settled.specs.Settled.{end_x_y, end_a_a, trial_x, trial_y, trial_a_a}
use Rattle.starred_weighed.specs.Weighed.{trial_a_b, below_limit, trial_a_c, trial_a_d, at_limit, trial_a_e, beyond_limit, trial_a_f}
use Rattle.starred_relaxed.specs.Relaxed.{trial_a_g, trial_a_h, trial_a_i, trial_a_j, trial_a_k}

-- "A. The run above.", and of request E8 "trial A's `commit 2` now prints `0 3 0 2`"
unfoldable pub trial_a : List Line
trial_a =
    (BeginUpdate ⇒ (0, 0, 1, 0))
    ∷ (Write 1 5 77 ⇒ (0, 0, 0, 0))
    ∷ (BeginQuery ⇒ (0, 0, 2, 0))
    ∷ (Read 2 5 ⇒ (0, 0, 0, 1))
    ∷ (Commit 1 ⇒ (0, 0, 1, 0))
    ∷ (Read 2 5 ⇒ (0, 0, 0, 2))
    ∷ (Commit 2 ⇒ (0, 3, 0, 2))
    ∷ (Read 2 5 ⇒ (3, 0, 0, 0))
    ∷ []

-- "B. Fresh, query, read item 63: granted, 0, looked 1; item 64: code 4."
unfoldable pub trial_b : List Line
trial_b = (BeginQuery ⇒ (0, 0, 1, 0)) ∷ (Read 1 63 ⇒ (0, 0, 0, 1)) ∷ (Read 1 64 ⇒ (4, 0, 0, 0)) ∷ []

-- "C. T1 writes x, T2 reads x: 1. T1 commits, T2 reads x: 0 with T1's value."
unfoldable pub trial_c : List Line
trial_c =
    (BeginUpdate ⇒ (0, 0, 1, 0))
    ∷ (BeginUpdate ⇒ (0, 0, 2, 0))
    ∷ (Write 1 7 42 ⇒ (0, 0, 0, 0))
    ∷ (Read 2 7 ⇒ (1, 0, 0, 0))
    ∷ (Commit 1 ⇒ (0, 0, 1, 0))
    ∷ (Read 2 7 ⇒ (0, 42, 0, 1))
    ∷ []

-- "D. T1 reads x, then writes x: granted."
unfoldable pub trial_d : List Line
trial_d = (BeginUpdate ⇒ (0, 0, 1, 0)) ∷ (Read 1 9 ⇒ (0, 0, 0, 1)) ∷ (Write 1 9 5 ⇒ (0, 0, 0, 0)) ∷ []

-- "E. T1 and T2 read x. T1 writes x: 1. T2 writes x: 2. T2 aborts. T1 writes x: 0."
unfoldable pub trial_e : List Line
trial_e =
    (BeginUpdate ⇒ (0, 0, 1, 0))
    ∷ (BeginUpdate ⇒ (0, 0, 2, 0))
    ∷ (Read 1 3 ⇒ (0, 0, 0, 1))
    ∷ (Read 2 3 ⇒ (0, 0, 0, 1))
    ∷ (Write 1 3 8 ⇒ (1, 0, 0, 0))
    ∷ (Write 2 3 9 ⇒ (2, 0, 0, 0))
    ∷ (Abort 2 ⇒ (0, 0, 0, 0))
    ∷ (Write 1 3 8 ⇒ (0, 0, 0, 0))
    ∷ []

-- "F. T2 awaits x: its commit, its read of y and its other kind of call on x: 6."
unfoldable pub trial_f : List Line
trial_f =
    (BeginUpdate ⇒ (0, 0, 1, 0))
    ∷ (BeginUpdate ⇒ (0, 0, 2, 0))
    ∷ (Write 1 3 8 ⇒ (0, 0, 0, 0))
    ∷ (Read 2 3 ⇒ (1, 0, 0, 0))
    ∷ (Commit 2 ⇒ (6, 0, 0, 0))
    ∷ (Read 2 4 ⇒ (6, 0, 0, 0))
    ∷ (Write 2 3 1 ⇒ (6, 0, 0, 0))
    ∷ []

-- "G. 16 live: begin gives 7; one aborts; begin gives number 17.", and of request E5 "32 live, G to number 33": with as many live as slots
unfoldable pub begins : ℕ → ℕ → List Line
begins n zero = []
begins n (suc k) = (BeginUpdate ⇒ (0, 0, n, 0)) ∷ begins (suc n) k

unfoldable pub trial_g : Sizes → List Line
trial_g S =
    begins 1 S.slots
    ++ ((BeginUpdate ⇒ (7, 0, 0, 0)) ∷ (Abort 5 ⇒ (0, 0, 0, 0)) ∷ (BeginUpdate ⇒ (0, 0, suc S.slots, 0)) ∷ [])

-- "H. A query writes: 5; writes item 64: 4."
unfoldable pub trial_h : List Line
trial_h = (BeginQuery ⇒ (0, 0, 1, 0)) ∷ (Write 1 3 8 ⇒ (5, 0, 0, 0)) ∷ (Write 1 64 8 ⇒ (4, 0, 0, 0)) ∷ []

-- "J. Clock spent: update commit 9 and it lives on; query commit 0." Request E7: "Trial J's update now writes first"; who writes nothing commits
unfoldable pub trial_j : List Line
trial_j =
    (BeginUpdate ⇒ (0, 0, 1, 0))
    ∷ (Write 1 0 5 ⇒ (0, 0, 0, 0))
    ∷ (BeginQuery ⇒ (0, 0, 2, 0))
    ∷ (Commit 1 ⇒ (9, 0, 0, 0))
    ∷ (Read 1 0 ⇒ (0, 5, 0, 0))
    ∷ (Commit 2 ⇒ (0, 0, 0, 0))
    ∷ (BeginUpdate ⇒ (0, 0, 3, 0))
    ∷ (Read 3 1 ⇒ (0, 0, 0, 1))
    ∷ (Commit 3 ⇒ (0, 0, last_word, 0))
    ∷ []

unfoldable pub clock_spent : Sizes → Tables
clock_spent S = tables (set (fresh S).txns 1 last_word) (fresh S).locks (fresh S).versions

-- "K. An aborted write is never read."
unfoldable pub trial_k : List Line
trial_k =
    (BeginUpdate ⇒ (0, 0, 1, 0))
    ∷ (Write 1 3 8 ⇒ (0, 0, 0, 0))
    ∷ (Abort 1 ⇒ (0, 0, 0, 0))
    ∷ (BeginUpdate ⇒ (0, 0, 2, 0))
    ∷ (Read 2 3 ⇒ (0, 0, 0, 1))
    ∷ (BeginQuery ⇒ (0, 0, 3, 0))
    ∷ (Read 3 3 ⇒ (0, 0, 0, 1))
    ∷ []

-- "L. A version count of 0: code 10."
unfoldable pub trial_l : List Line
trial_l = (BeginUpdate ⇒ (10, 0, 0, 0)) ∷ []

unfoldable pub uncounted : Sizes → Tables
uncounted S = tables (fresh S).txns (fresh S).locks (set (fresh S).versions (version_row S) 0)

-- ---- the list of them, and of those of requests E2, E4, E6, E7, E8 and E11; the ends of C, E and F are those of E4. A keeper of the sizes S
unfoldable pub trials : Sizes → List Trial
trials S =
    (record { from = fresh S; script = trial_a; end = any_end })
    ∷ (record { from = fresh S; script = trial_b; end = any_end })
    ∷ (record { from = fresh S; script = trial_c; end = nobody_stands })
    ∷ (record { from = fresh S; script = trial_d; end = any_end })
    ∷ (record { from = fresh S; script = trial_e; end = nobody_stands })
    ∷ (record { from = fresh S; script = trial_f; end = second_stands })
    ∷ (record { from = fresh S; script = trial_g S; end = any_end })
    ∷ (record { from = fresh S; script = trial_h; end = any_end })
    ∷ (record { from = fresh S; script = trial_i S; end = full_row S })
    ∷ (record { from = clock_spent S; script = trial_j; end = any_end })
    ∷ (record { from = fresh S; script = trial_k; end = any_end })
    ∷ (record { from = uncounted S; script = trial_l; end = any_end })
    ∷ (record { from = fresh S; script = trial_q S; end = any_end })
    ∷ (record { from = fresh S; script = trial_r S; end = any_end })
    ∷ (record { from = fresh S; script = trial_s; end = nobody_stands })
    ∷ (record { from = fresh S; script = trial_t; end = exchanger_ahead })
    ∷ (record { from = fresh S; script = trial_u; end = closed_up_line })
    ∷ (record { from = fresh S; script = trial_v; end = second_stands })
    ∷ (record { from = fresh S; script = trial_x; end = end_x_y S })
    ∷ (record { from = fresh S; script = trial_y; end = end_x_y S })
    ∷ (record { from = fresh S; script = trial_a_a; end = end_a_a S })
    ∷ (record { from = fresh S; script = trial_a_b; end = any_end })
    ∷ (record { from = below_limit S; script = trial_a_c; end = any_end })
    ∷ (record { from = below_limit S; script = trial_a_d; end = any_end })
    ∷ (record { from = at_limit S; script = trial_a_e; end = any_end })
    ∷ (record { from = beyond_limit S; script = trial_a_f; end = any_end })
    ∷ (record { from = fresh S; script = trial_a_g; end = any_end })
    ∷ (record { from = fresh S; script = trial_a_h; end = any_end })
    ∷ (record { from = fresh S; script = trial_a_i; end = any_end })
    ∷ (record { from = fresh S; script = trial_a_j; end = any_end })
    ∷ (record { from = fresh S; script = trial_a_k; end = any_end })
    ∷ []
