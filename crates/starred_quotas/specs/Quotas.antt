-- Request E2, "Add trials with 32 and 33.": an update with 31, 32 and 33 items. T1, T2, .. are the transactions 1, 2, ..
use Rattle.std.specs.Prelude.{ℕ, zero, suc, ◌-◌, List, [], ◌∷◌, ◌++◌}
use Rattle.names.specs.declared.Sizes.{Sizes}
use Rattle.rules.specs.Answers.{BeginUpdate, Read, Write, Commit, Abort}
use Rattle.plays.specs.Plays.{Line, ◌⇒◌}

-- T1 writes the items x, x + 1, .., as many as said
unfoldable pub writes : ℕ → ℕ → List Line
writes x zero = []
writes x (suc k) = (Write 1 x 7 ⇒ (0, 0, 0, 0)) ∷ writes (suc x) k

-- Q. T1 writes 32 items: each 0. Its 33rd: 11. It writes one of the 32 again: 0, and reads it: its own value. It reads another item: 0,
-- and writes that: 11, since a shared lock is none of the 32. It commits, and T2 writes what was the 33rd: 0.
unfoldable pub trial_q : Sizes → List Line
trial_q S =
    (BeginUpdate ⇒ (0, 0, 1, 0))
    ∷ (writes 0 S.quota
    ++ ((Write 1 32 5 ⇒ (11, 0, 0, 0))
    ∷ (Write 1 0 9 ⇒ (0, 0, 0, 0))
    ∷ (Read 1 0 ⇒ (0, 9, 0, 0))
    ∷ (Read 1 40 ⇒ (0, 0, 0, 1))
    ∷ (Write 1 40 5 ⇒ (11, 0, 0, 0))
    ∷ (Commit 1 ⇒ (0, 0, 1, 0))
    ∷ (BeginUpdate ⇒ (0, 0, 2, 0))
    ∷ (Write 2 32 5 ⇒ (0, 0, 0, 0))
    ∷ []))

-- R. T2 holds x exclusively. T1 with 31 items writes x: 1, and again: 1. T2 commits, T1 writes x: 0, with 32 now. T3 holds y exclusively.
-- T1 writes y: 11, not 1. T3 awaits an item of T1, T1 writes y: 11, not 2; it reads y: 2. T3 aborts, T1 writes y: 11, reads y: 0.
unfoldable pub trial_r : Sizes → List Line
trial_r S =
    (BeginUpdate ⇒ (0, 0, 1, 0))
    ∷ (writes 0 (S.quota - 1)
    ++ ((BeginUpdate ⇒ (0, 0, 2, 0))
    ∷ (Write 2 50 8 ⇒ (0, 0, 0, 0))
    ∷ (Write 1 50 7 ⇒ (1, 0, 0, 0))
    ∷ (Write 1 50 7 ⇒ (1, 0, 0, 0))
    ∷ (Commit 2 ⇒ (0, 0, 1, 0))
    ∷ (Write 1 50 7 ⇒ (0, 0, 0, 0))
    ∷ (BeginUpdate ⇒ (0, 0, 3, 0))
    ∷ (Write 3 60 8 ⇒ (0, 0, 0, 0))
    ∷ (Write 1 60 7 ⇒ (11, 0, 0, 0))
    ∷ (Read 3 0 ⇒ (1, 0, 0, 0))
    ∷ (Write 1 60 7 ⇒ (11, 0, 0, 0))
    ∷ (Read 1 60 ⇒ (2, 0, 0, 0))
    ∷ (Abort 3 ⇒ (0, 0, 0, 0))
    ∷ (Write 1 60 7 ⇒ (11, 0, 0, 0))
    ∷ (Read 1 60 ⇒ (0, 0, 0, 1))
    ∷ []))
