-- Request E4: trials of the line of those who wait. T1, T2, .. are the transactions 1, 2, .., in slots 0, 1, ..
use Rattle.std.specs.Prelude.{ℕ, Bool, ◌&&◌, List, [], ◌∷◌, eqb}
use Rattle.rules.specs.Tables.{Tables, txn}
use Rattle.rules.specs.Answers.{BeginUpdate, Read, Write, Commit, Abort}
use Rattle.plays.specs.Plays.{Line, ◌⇒◌}

-- slot s stands at rank p
unfoldable pub stands : ℕ → ℕ → Tables → Bool
stands s p G = eqb (txn G.txns s).rank p

-- at the end of trials E and F: "from 1 without gaps, 0 if it awaits nothing"
unfoldable pub nobody_stands : Tables → Bool
nobody_stands G = stands 0 0 G && stands 1 0 G

unfoldable pub second_stands : Tables → Bool
second_stands G = stands 0 0 G && stands 1 1 G

-- S. T1 reads x, T2 writes x: 1. T3 reads x: 1, behind T2; T1 reads x again: 0. T1 commits, T3 reads x: 1, T2 writes x: 0. T2 commits, T3
-- reads x: 0 with T2's value.
unfoldable pub trial_s : List Line
trial_s =
    (BeginUpdate ⇒ (0, 0, 1, 0))
    ∷ (BeginUpdate ⇒ (0, 0, 2, 0))
    ∷ (BeginUpdate ⇒ (0, 0, 3, 0))
    ∷ (Read 1 5 ⇒ (0, 0, 0, 1))
    ∷ (Write 2 5 52 ⇒ (1, 0, 0, 0))
    ∷ (Read 3 5 ⇒ (1, 0, 0, 0))
    ∷ (Read 1 5 ⇒ (0, 0, 0, 1))
    ∷ (Commit 1 ⇒ (0, 0, 0, 0))
    ∷ (Read 3 5 ⇒ (1, 0, 0, 0))
    ∷ (Write 2 5 52 ⇒ (0, 0, 0, 0))
    ∷ (Commit 2 ⇒ (0, 0, 1, 0))
    ∷ (Read 3 5 ⇒ (0, 52, 0, 1))
    ∷ []

-- T. T1 and T2 read x, T3 writes x: 1. T1 writes x: 1, ahead of T3, which stands at rank 2 then.
unfoldable pub trial_t : List Line
trial_t =
    (BeginUpdate ⇒ (0, 0, 1, 0))
    ∷ (BeginUpdate ⇒ (0, 0, 2, 0))
    ∷ (BeginUpdate ⇒ (0, 0, 3, 0))
    ∷ (Read 1 5 ⇒ (0, 0, 0, 1))
    ∷ (Read 2 5 ⇒ (0, 0, 0, 1))
    ∷ (Write 3 5 53 ⇒ (1, 0, 0, 0))
    ∷ (Write 1 5 51 ⇒ (1, 0, 0, 0))
    ∷ []

unfoldable pub exchanger_ahead : Tables → Bool
exchanger_ahead G = stands 0 1 G && (stands 1 0 G && stands 2 2 G)

-- U. T1 writes x; T2, T3 and T4 read x: 1. T3 aborts: T2 stands at rank 1, T4 at rank 2.
unfoldable pub trial_u : List Line
trial_u =
    (BeginUpdate ⇒ (0, 0, 1, 0))
    ∷ (BeginUpdate ⇒ (0, 0, 2, 0))
    ∷ (BeginUpdate ⇒ (0, 0, 3, 0))
    ∷ (BeginUpdate ⇒ (0, 0, 4, 0))
    ∷ (Write 1 5 51 ⇒ (0, 0, 0, 0))
    ∷ (Read 2 5 ⇒ (1, 0, 0, 0))
    ∷ (Read 3 5 ⇒ (1, 0, 0, 0))
    ∷ (Read 4 5 ⇒ (1, 0, 0, 0))
    ∷ (Abort 3 ⇒ (0, 0, 0, 0))
    ∷ []

unfoldable pub closed_up_line : Tables → Bool
closed_up_line G = stands 1 1 G && (stands 2 0 G && stands 3 2 G)

-- V. T1 reads x, T2 writes x: 1. T3 writes y and reads x: 1, for T2 alone, which waits ahead. T1 writes y: 2, a circle of three that the
-- holders alone do not make.
unfoldable pub trial_v : List Line
trial_v =
    (BeginUpdate ⇒ (0, 0, 1, 0))
    ∷ (BeginUpdate ⇒ (0, 0, 2, 0))
    ∷ (BeginUpdate ⇒ (0, 0, 3, 0))
    ∷ (Read 1 5 ⇒ (0, 0, 0, 1))
    ∷ (Write 2 5 52 ⇒ (1, 0, 0, 0))
    ∷ (Write 3 6 63 ⇒ (0, 0, 0, 0))
    ∷ (Read 3 5 ⇒ (1, 0, 0, 0))
    ∷ (Write 1 6 61 ⇒ (2, 0, 0, 0))
    ∷ []
