-- The shared bits without that of the slot.
use Prim.Native.Nat.{ℕ}
use mathlib.Core.Path.{ap, ◌∙◌}
use mathlib.Core.Bool.{not}
use lib.Dec.{eqb}
use Rattle.rows.specs.Founds.{lock_of}
use Rattle.cells.proofs.Others.{shares_is}
use Rattle.cells.proofs.another_shares.Goals as goal

pub returns : goal.returns
returns c = ap (λ (w : ℕ). not (eqb w 0)) c.without_bit.ensures ∙ shares_is (lock_of c.args.row) c.args.slot.0 c.requires.0
