-- The bit of the slot says whether it is past its writing.
use mathlib.Core.Path.{ap, ◌∙◌}
use mathlib.Core.Bool.{Bool, ◌&&◌, not}
use lib.Dec.{eqb}
use Rattle.rules.specs.Tables.{txn}
use Rattle.stamps.proofs.Stamps.{settled-bit}
use Rattle.stamps.proofs.differs.Goals as goal

pub returns : goal.returns
unfolding txn
returns c =
    let a = c.args in
    ap (λ (b : Bool). not (b && eqb (txn a.txns.now a.slot).start a.stamp)) (c.is_settled.ensures ∙ settled-bit a.txns.now a.settled a.slot c.requires.0 c.requires.1)
