-- `chop_rows::with_item` meets its contract.
use borrow.Author.Tests.{lt-ltb, le-ltb}
use Rattle.chop_rows.proofs.with_item.Goals as goal

pub returns-then-item-lt-ITEMS : goal.returns-then-item-lt-ITEMS
returns-then-item-lt-ITEMS c = rw (lt-ltb _ _ c.if-item-lt-ITEMS.true) c.including.ensures

pub returns : goal.returns
returns c = rw (le-ltb _ _ c.if-item-lt-ITEMS.false)
