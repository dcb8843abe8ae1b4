-- Request E6: trials of updates that end their writing and then only check; request E7: of updates that write nothing. T1, T2, .. are the
-- transactions 1, 2, .., Q3 a query.
use Rattle.std.specs.Prelude.{ℕ, Bool, ◌&&◌, List, [], ◌∷◌, eqb, length}
use Rattle.names.specs.declared.Sizes.{Sizes}
use Rattle.rules.specs.Tables.{Tables, clock}
use Rattle.rules.specs.Versions.{versions_of}
use Rattle.rules.specs.Answers.{BeginUpdate, BeginQuery, Read, Write, Commit, Abort, Settle}
use Rattle.plays.specs.Plays.{Line, ◌⇒◌}

-- at the end the clock is c, and the item x has so many versions
unfoldable pub clock_and_row : ℕ → ℕ → ℕ → Sizes → Tables → Bool
clock_and_row c x m S G = eqb (clock G.txns) c && eqb (length (versions_of S G.versions x)) m

-- X and Y end at the clock 2, and of y one version is left; AA ends at the clock 3, and of x one is left
unfoldable pub end_x_y : Sizes → Tables → Bool
end_x_y S G = clock_and_row 2 6 1 S G

unfoldable pub end_a_a : Sizes → Tables → Bool
end_a_a S G = clock_and_row 3 5 1 S G

-- X. T1 writes x and reads y, and settles: stamp 1. T2 writes y, which T1 shares no more, and commits: 2. T1 reads y as it was, and its own x;
-- it writes x again, y: 12, settles again: 12. Q3 reads y: what T2 wrote; x: 1, and another item meanwhile. T1 commits: 1. Q3 reads x: what
-- T1 wrote last.
unfoldable pub trial_x : List Line
trial_x =
    (BeginUpdate ⇒ (0, 0, 1, 0))
    ∷ (Write 1 5 51 ⇒ (0, 0, 0, 0))
    ∷ (Read 1 6 ⇒ (0, 0, 0, 1))
    ∷ (Settle 1 ⇒ (0, 0, 1, 0))
    ∷ (BeginUpdate ⇒ (0, 0, 2, 0))
    ∷ (Write 2 6 62 ⇒ (0, 0, 0, 0))
    ∷ (Commit 2 ⇒ (0, 0, 2, 0))
    ∷ (Read 1 6 ⇒ (0, 0, 0, 2))
    ∷ (Read 1 5 ⇒ (0, 51, 0, 0))
    ∷ (Write 1 5 55 ⇒ (0, 0, 0, 0))
    ∷ (Write 1 6 66 ⇒ (12, 0, 0, 0))
    ∷ (Settle 1 ⇒ (12, 0, 0, 0))
    ∷ (BeginQuery ⇒ (0, 0, 3, 0))
    ∷ (Read 3 6 ⇒ (0, 62, 0, 1))
    ∷ (Read 3 5 ⇒ (1, 0, 0, 0))
    ∷ (Read 3 7 ⇒ (0, 0, 0, 1))
    ∷ (Settle 3 ⇒ (5, 0, 0, 0))
    ∷ (Commit 1 ⇒ (0, 0, 1, 0))
    ∷ (Read 3 5 ⇒ (0, 55, 0, 1))
    ∷ []

-- Y. T1 writes x and T2 writes y; both settle, T1 under stamp 1 and T2 under 2. T2 reads x: 1; T1 reads y: the starting zero. T2 commits first: 2.
-- T1 reads y as it was. Q3 reads y: what T2 wrote; x: 1. T1 aborts, and what only it would have read is gone. Q3 reads x: the starting zero.
unfoldable pub trial_y : List Line
trial_y =
    (BeginUpdate ⇒ (0, 0, 1, 0))
    ∷ (BeginUpdate ⇒ (0, 0, 2, 0))
    ∷ (Write 1 5 51 ⇒ (0, 0, 0, 0))
    ∷ (Write 2 6 62 ⇒ (0, 0, 0, 0))
    ∷ (Settle 1 ⇒ (0, 0, 1, 0))
    ∷ (Settle 2 ⇒ (0, 0, 2, 0))
    ∷ (Read 2 5 ⇒ (1, 0, 0, 0))
    ∷ (Read 1 6 ⇒ (0, 0, 0, 1))
    ∷ (Commit 2 ⇒ (0, 0, 2, 0))
    ∷ (Read 1 6 ⇒ (0, 0, 0, 2))
    ∷ (BeginQuery ⇒ (0, 0, 3, 0))
    ∷ (Read 3 6 ⇒ (0, 62, 0, 1))
    ∷ (Read 3 5 ⇒ (1, 0, 0, 0))
    ∷ (Abort 1 ⇒ (0, 0, 0, 0))
    ∷ (Read 3 5 ⇒ (0, 0, 0, 1))
    ∷ []

-- AA. T1 commits at once: the clock, 0. T2 reads x, T3 has to wait to write it. T2 commits: 0. T3 writes x and commits: 1. T4 writes y and settles:
-- 2. T5 reads x and commits: 2. T6 writes another item and commits: 3. T7 commits at once: 3. T4 commits: 2.
unfoldable pub trial_a_a : List Line
trial_a_a =
    (BeginUpdate ⇒ (0, 0, 1, 0))
    ∷ (Commit 1 ⇒ (0, 0, 0, 0))
    ∷ (BeginUpdate ⇒ (0, 0, 2, 0))
    ∷ (BeginUpdate ⇒ (0, 0, 3, 0))
    ∷ (Read 2 5 ⇒ (0, 0, 0, 1))
    ∷ (Write 3 5 53 ⇒ (1, 0, 0, 0))
    ∷ (Commit 2 ⇒ (0, 0, 0, 0))
    ∷ (Write 3 5 53 ⇒ (0, 0, 0, 0))
    ∷ (Commit 3 ⇒ (0, 0, 1, 0))
    ∷ (BeginUpdate ⇒ (0, 0, 4, 0))
    ∷ (Write 4 6 64 ⇒ (0, 0, 0, 0))
    ∷ (Settle 4 ⇒ (0, 0, 2, 0))
    ∷ (BeginUpdate ⇒ (0, 0, 5, 0))
    ∷ (Read 5 5 ⇒ (0, 53, 0, 1))
    ∷ (Commit 5 ⇒ (0, 0, 2, 0))
    ∷ (BeginUpdate ⇒ (0, 0, 6, 0))
    ∷ (Write 6 7 76 ⇒ (0, 0, 0, 0))
    ∷ (Commit 6 ⇒ (0, 0, 3, 0))
    ∷ (BeginUpdate ⇒ (0, 0, 7, 0))
    ∷ (Commit 7 ⇒ (0, 0, 3, 0))
    ∷ (Commit 4 ⇒ (0, 0, 2, 0))
    ∷ []
