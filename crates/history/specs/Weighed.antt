-- Request E8, "Support wants the weighted reading ..: the first version in a row weighs 1, the second 2, the nth n, summed over a query's
-- reads since begin and divided by their number": what a query's end answers, told by the answers to its reads.
use Rattle.std.specs.Prelude.{ℕ, ◌+◌, Bool, false, ◌&&◌, cond, List, [], ◌∷◌, ◌≡◌, ◌⊎◌, eqb}
use Rattle.names.specs.declared.Sizes.{Sizes}
use Rattle.names.specs.declared.Answer.{Answer}
use Rattle.names.specs.Answers.{found}
use Rattle.names.specs.Words.{held_at_last}
use Rattle.rules.specs.Tables.{fresh}
use Rattle.rules.specs.Answers.{Call, BeginUpdate, BeginQuery, Read, Write, Commit, Abort, Settle, BeginRelaxed, granted}
use Rattle.rules.specs.Step.{step}
use Rattle.history.specs.Runs.{Event, run, end_of}

-- the call asks to read for the transaction n
unfoldable pub asks_to_read : ℕ → Call → Bool
asks_to_read n BeginUpdate = false
asks_to_read n BeginQuery = false
asks_to_read n (Read m x) = eqb m n
asks_to_read n (Write m x v) = false
asks_to_read n (Commit m) = false
asks_to_read n (Abort m) = false
asks_to_read n (Settle m) = false
asks_to_read n BeginRelaxed = false

-- a read is granted to n. A wait and a refusal are none
unfoldable pub granted_read : ℕ → Event → Bool
granted_read n e = asks_to_read n e.call && eqb e.answer.code granted

-- it counts 1, and weighs as much as it looked at: the place of the version in its row, from 1
unfoldable pub counts : ℕ → Event → ℕ
counts n e = cond (granted_read n e) 1 0

unfoldable pub weighs : ℕ → Event → ℕ
weighs n e = cond (granted_read n e) e.answer.looked 0

-- f of each event, summed up
unfoldable pub sum_over : (Event → ℕ) → List Event → ℕ
sum_over f [] = 0
sum_over f (e ∷ es) = f e + sum_over f es

-- after the calls `before` from fresh tables a query begins under the number n, relaxed (request E11) or not, the calls cs follow, and then
-- its commit or its abort is granted: "answers the sum as value and the count as looked", over the reads that were granted to it, "both held
-- at 4,294,967,295 once there"
unfoldable pub EndWeighs : Sizes → Type 0
EndWeighs S =
    (before cs : List Call) (n : ℕ) (b c : Call) → (b ≡ BeginQuery) ⊎ (b ≡ BeginRelaxed) → (c ≡ Commit n) ⊎ (c ≡ Abort n)
    → let o = step S b (end_of S before (fresh S)) in
    o.answer.code ≡ granted → o.answer.number ≡ n
    → let es = run S cs o.after in
    let a = (step S c (end_of S cs o.after)).answer in
    a.code ≡ granted → a ≡ found (held_at_last (sum_over (weighs n) es)) (held_at_last (sum_over (counts n) es))
