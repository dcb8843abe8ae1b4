-- Test by test.
use mathlib.Core.Path.{ap, ◌∙◌}
use Rattle.cases.proofs.Cased.{rest_of, short_case, long-txns, long-locks, long-versions, fitting}
use Rattle.cases.proofs.is_case.Goals as goal

pub returns-then-numbers-lt-HEAD : goal.returns-then-numbers-lt-HEAD
returns-then-numbers-lt-HEAD c = short_case c.args.numbers.now c.if-numbers-lt-HEAD.true

pub returns-then-txns : goal.returns-then-txns
returns-then-txns c =
    long-txns (c.args.numbers.now) c.if-numbers-lt-HEAD.false c.if-txns.true

pub returns-then-locks : goal.returns-then-locks
returns-then-locks c =
    long-locks (c.args.numbers.now) c.if-numbers-lt-HEAD.false c.if-txns.false c.if-locks.true

pub returns-then-versions : goal.returns-then-versions
returns-then-versions c =
    long-versions (c.args.numbers.now) c.if-numbers-lt-HEAD.false c.if-txns.false c.if-locks.false c.if-versions.true

pub returns : goal.returns
returns c =
    ap (rest_of (c.args.numbers.now)) c.known_kind.ensures ∙ fitting (c.args.numbers.now) c.if-numbers-lt-HEAD.false c.if-txns.false c.if-locks.false c.if-versions.false
