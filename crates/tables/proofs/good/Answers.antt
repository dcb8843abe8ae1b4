-- Tables of other sizes are not good.
use Rattle.tables.proofs.Whole.{fails}
use Rattle.tables.proofs.good.Goals as goal

pub returns-in_default : goal.returns-in_default
returns-in_default c = fails _ _ _ (λ p. c.in_default.ensures.cases p.txns_exact)

pub returns-in_default-as_array : goal.returns-in_default-as_array
returns-in_default-as_array c = fails _ _ _ (λ p. c.in_default-as_array.ensures.cases p.locks_exact)

pub returns-in_default-as_array-2 : goal.returns-in_default-as_array-2
returns-in_default-as_array-2 c = fails _ _ _ (λ p. c.in_default-as_array-2.ensures.cases p.versions_exact)
