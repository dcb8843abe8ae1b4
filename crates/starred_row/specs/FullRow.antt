-- Document 01, "Trials on both sides of each limit": trial I, of all sizes with as many places as slots.
use Rattle.std.specs.Prelude.{ℕ, zero, suc, ◌+◌, ◌-◌, Bool, List, [], ◌∷◌, ◌++◌, get_or, eqb}
use Rattle.names.specs.declared.Sizes.{Sizes}
use Rattle.rules.specs.Tables.{Tables}
use Rattle.rules.specs.Answers.{BeginUpdate, BeginQuery, Read, Write, Commit}
use Rattle.plays.specs.Plays.{Line, ◌⇒◌}

-- "I. A query at each stamp 0 to 14, an update writing item 0 after each: row 0 has count 16, and the first query looks at 16.", and of
-- request E5 "trial I to a count of 32": k queries and updates, the first number being n + 1, the clock c
unfoldable pub turns : ℕ → ℕ → ℕ → List Line
turns n c zero = []
turns n c (suc k) =
    (BeginQuery ⇒ (0, 0, n + 1, 0))
    ∷ (BeginUpdate ⇒ (0, 0, n + 2, 0))
    ∷ (Write (n + 2) 0 (c + 100) ⇒ (0, 0, 0, 0))
    ∷ (Commit (n + 2) ⇒ (0, 0, c + 1, 0))
    ∷ turns (n + 2) (c + 1) k

unfoldable pub trial_i : Sizes → List Line
trial_i S = turns 0 0 (S.slots - 1) ++ ((Read 1 0 ⇒ (0, 0, 0, S.slots)) ∷ [])

unfoldable pub full_row : Sizes → Tables → Bool
full_row S G = eqb (get_or G.versions 0 0) S.places
