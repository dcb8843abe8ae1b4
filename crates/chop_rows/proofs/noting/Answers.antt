-- `chop_rows::noting` meets its contract.
use Rattle.chop_rows.proofs.noting.Goals as goal

pub returns : goal.returns
returns c = λ i. record { transaction = c.args.p.transaction; number = c.args.p.number; reads = c.with_item-reads.ensures i; writes = c.with_item-writes.ensures i }
