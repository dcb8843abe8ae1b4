-- The second count is asked for where it stands.
use borrow.Author.Rules.{rules}
use Prim.Native.Nat.{◌≤◌}
use mathlib.Core.Path.{sym, ◌∙◌}
use native.Mathlib.Omega.{arith}
use Rattle.journal.specs.Words.{greatest}
use Rattle.judge.proofs.Speaking.{stand}
use Rattle.judging.proofs.Counting.{calls-short, calls_there}
use Rattle.judging.proofs.counted.Counts.first_is.Goals as goal

pub returns-then-not-calls_stand : goal.returns-then-not-calls_stand
returns-then-not-calls_stand c =
    let a = c.args in
    record { result_bound = omega arith; by_index = λ file h e. calls-short file a.self h a.n e (sym c.calls_stand.ensures ∙ c.if-not-calls_stand.true) }

pub overflow_mul-place : goal.overflow_mul-place
overflow_mul-place c =
    let f : c.args.self.size ≤ greatest = search rules in
    omega (arith, (stand _ _ (sym c.calls_stand.ensures ∙ c.if-not-calls_stand.false)), f)

pub overflow_add-place : goal.overflow_add-place
overflow_add-place c =
    let f : c.args.self.size ≤ greatest = search rules in
    omega (arith, (stand _ _ (sym c.calls_stand.ensures ∙ c.if-not-calls_stand.false)), f)

pub returns : goal.returns
returns c =
    let a = c.args in
    record { result_bound = omega arith; by_index = λ file h e. calls_there file a.self h a.n e (stand _ _ (sym c.calls_stand.ensures ∙ c.if-not-calls_stand.false)) }
