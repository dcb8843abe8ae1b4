use mathlib.Core.Path.{◌≡◌}
use Rattle.names.specs.Sizes.{base}
use Rattle.std.proofs.Common.{rules}
use Rattle.rules.specs.Words.{slots_that}
use Rattle.rules.specs.Tables.{txn}
use Rattle.rules.specs.Waits.{ahead}
use Rattle.waiting.proofs.Marks.{ahead_of}
use Rattle.waiting.proofs.ahead.Goals as goal

pub returns : goal.returns
returns c =
    let a = c.args in
    let e : c.those_below.result ≡ slots_that base.slots (λ b. ahead a.item.0 a.wanted a.rank (txn a.txns.now b)) = c.those_below.ensures _ (search rules) in
    ahead_of a.txns.now a.wanted a.item.0 a.rank c.told-txns e
