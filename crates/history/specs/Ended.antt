-- "Transaction numbers .. are never given twice": an ended one is unknown for ever.
use Rattle.std.specs.Prelude.{ℕ, List, ◌≡◌, ◌⊎◌, T}
use Rattle.names.specs.declared.Sizes.{Sizes}
use Rattle.rules.specs.Tables.{fresh}
use Rattle.rules.specs.Answers.{Call, Commit, Abort, granted, code, UnknownTransaction}
use Rattle.rules.specs.Step.{step}
use Rattle.history.specs.Runs.{run, end_of, Every}
use Rattle.history.specs.Happened.{names}

-- after the calls `before` from fresh tables a commit or an abort of n is granted. In whatever follows, every call that names n is
-- answered 3
unfoldable pub EndedForEver : Sizes → Type 0
EndedForEver S =
    (before cs : List Call) (n : ℕ) (c : Call) → (c ≡ Commit n) ⊎ (c ≡ Abort n)
    → let o = step S c (end_of S before (fresh S)) in
    o.answer.code ≡ granted
    → Every (λ e. T (names n e.call) → e.answer.code ≡ code UnknownTransaction) (run S cs o.after)
