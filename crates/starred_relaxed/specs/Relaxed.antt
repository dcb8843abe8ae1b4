-- Request E11: trials of relaxed queries, one for each way to join, and of code 13. R1, R2, .. are relaxed queries.
use Rattle.std.specs.Prelude.{List, [], ◌∷◌}
use Rattle.rules.specs.Answers.{BeginUpdate, BeginQuery, Read, Write, Commit, Settle, BeginRelaxed}
use Rattle.plays.specs.Plays.{Line, ◌⇒◌}

-- AG. The run of examples/dashboard.txt, cut short: a strict query and a relaxed one; what the first update commits, the relaxed one sees; the
-- second writes what it has read, and all that this one commits is hidden from it.
unfoldable pub trial_a_g : List Line
trial_a_g =
    (BeginUpdate ⇒ (0, 0, 1, 0))
    ∷ (Write 1 5 1001 ⇒ (0, 0, 0, 0))
    ∷ (Write 1 6 2001 ⇒ (0, 0, 0, 0))
    ∷ (Commit 1 ⇒ (0, 0, 1, 0))
    ∷ (BeginQuery ⇒ (0, 0, 2, 0))
    ∷ (BeginRelaxed ⇒ (0, 0, 3, 0))
    ∷ (BeginUpdate ⇒ (0, 0, 4, 0))
    ∷ (Write 4 5 1002 ⇒ (0, 0, 0, 0))
    ∷ (Commit 4 ⇒ (0, 0, 2, 0))
    ∷ (Read 2 5 ⇒ (0, 1001, 0, 2))
    ∷ (Read 3 5 ⇒ (0, 1002, 0, 1))
    ∷ (BeginUpdate ⇒ (0, 0, 5, 0))
    ∷ (Write 5 5 1003 ⇒ (0, 0, 0, 0))
    ∷ (Write 5 6 2003 ⇒ (0, 0, 0, 0))
    ∷ (Commit 5 ⇒ (0, 0, 3, 0))
    ∷ (Read 3 6 ⇒ (0, 2001, 0, 2))
    ∷ (Read 3 5 ⇒ (0, 1002, 0, 2))
    ∷ []

-- AH. An update asks to write what R1 has read, and is granted: it joins. Another waits for the same, and joins. Both items of the first stay hidden.
unfoldable pub trial_a_h : List Line
trial_a_h =
    (BeginRelaxed ⇒ (0, 0, 1, 0))
    ∷ (Read 1 5 ⇒ (0, 0, 0, 1))
    ∷ (BeginUpdate ⇒ (0, 0, 2, 0))
    ∷ (Write 2 6 62 ⇒ (0, 0, 0, 0))
    ∷ (Write 2 5 52 ⇒ (0, 0, 0, 0))
    ∷ (BeginUpdate ⇒ (0, 0, 3, 0))
    ∷ (Write 3 5 53 ⇒ (1, 0, 0, 0))
    ∷ (Commit 2 ⇒ (0, 0, 1, 0))
    ∷ (Read 1 6 ⇒ (0, 0, 0, 2))
    ∷ (Write 3 5 53 ⇒ (0, 0, 0, 0))
    ∷ (Write 3 7 73 ⇒ (0, 0, 0, 0))
    ∷ (Commit 3 ⇒ (0, 0, 2, 0))
    ∷ (Read 1 7 ⇒ (0, 0, 0, 2))
    ∷ (Read 1 5 ⇒ (0, 0, 0, 2))
    ∷ (Commit 1 ⇒ (0, 7, 0, 4))
    ∷ []

-- AI. R1 reads what an update holds exclusively: the update joins.
unfoldable pub trial_a_i : List Line
trial_a_i =
    (BeginRelaxed ⇒ (0, 0, 1, 0))
    ∷ (BeginUpdate ⇒ (0, 0, 2, 0))
    ∷ (Write 2 5 52 ⇒ (0, 0, 0, 0))
    ∷ (Write 2 6 62 ⇒ (0, 0, 0, 0))
    ∷ (Read 1 5 ⇒ (0, 0, 0, 1))
    ∷ (Commit 2 ⇒ (0, 0, 1, 0))
    ∷ (Read 1 6 ⇒ (0, 0, 0, 2))
    ∷ (BeginRelaxed ⇒ (0, 0, 3, 0))
    ∷ (Read 3 6 ⇒ (0, 62, 0, 1))
    ∷ (Commit 1 ⇒ (0, 3, 0, 2))
    ∷ []

-- AJ. An update reads a version whose creator has joined: it joins. So does one that overwrites such a version.
unfoldable pub trial_a_j : List Line
trial_a_j =
    (BeginRelaxed ⇒ (0, 0, 1, 0))
    ∷ (Read 1 5 ⇒ (0, 0, 0, 1))
    ∷ (BeginUpdate ⇒ (0, 0, 2, 0))
    ∷ (Write 2 5 52 ⇒ (0, 0, 0, 0))
    ∷ (Write 2 6 62 ⇒ (0, 0, 0, 0))
    ∷ (Commit 2 ⇒ (0, 0, 1, 0))
    ∷ (BeginUpdate ⇒ (0, 0, 3, 0))
    ∷ (Read 3 6 ⇒ (0, 62, 0, 1))
    ∷ (Write 3 7 73 ⇒ (0, 0, 0, 0))
    ∷ (Commit 3 ⇒ (0, 0, 2, 0))
    ∷ (Read 1 7 ⇒ (0, 0, 0, 2))
    ∷ (BeginUpdate ⇒ (0, 0, 4, 0))
    ∷ (Write 4 6 64 ⇒ (0, 0, 0, 0))
    ∷ (Write 4 8 84 ⇒ (0, 0, 0, 0))
    ∷ (Commit 4 ⇒ (0, 0, 3, 0))
    ∷ (Read 1 8 ⇒ (0, 0, 0, 2))
    ∷ (Commit 1 ⇒ (0, 5, 0, 3))
    ∷ []

-- AK. Code 13 both ways, and tested last.
unfoldable pub trial_a_k : List Line
trial_a_k =
    (BeginUpdate ⇒ (0, 0, 1, 0))
    ∷ (BeginRelaxed ⇒ (0, 0, 2, 0))
    ∷ (Settle 1 ⇒ (13, 0, 0, 0))
    ∷ (Settle 2 ⇒ (5, 0, 0, 0))
    ∷ (Commit 2 ⇒ (0, 0, 0, 0))
    ∷ (Settle 1 ⇒ (0, 0, 1, 0))
    ∷ (BeginRelaxed ⇒ (13, 0, 0, 0))
    ∷ (Settle 1 ⇒ (12, 0, 0, 0))
    ∷ (Commit 1 ⇒ (0, 0, 1, 0))
    ∷ (BeginRelaxed ⇒ (0, 0, 3, 0))
    ∷ []
