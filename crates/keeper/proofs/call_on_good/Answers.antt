-- What is done of the judged deed.
use Rattle.rules.specs.Tables.{tables}
use Rattle.keeper.proofs.Admitted.{judged_able, judged-done}
use Rattle.keeper.proofs.call_on_good.Goals as goal

pub done-requires : goal.done-requires
done-requires c =
    let a = c.args in
    (c.requires, judged_able (tables a.txns.now a.locks.now a.versions.now) c.requires a.call c.judged-deed.ensures)

pub returns : goal.returns
returns c =
    let a = c.args in
    judged-done (tables a.txns.now a.locks.now a.versions.now) c.requires a.call c.judged-deed.ensures c.done.ensures
