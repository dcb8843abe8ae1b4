-- `circles::peel` meets its contract.
use mathlib.Core.Path.{◌≡◌}
use mathlib.Core.Bool.{true, false}
use native.Mathlib.Omega.{arith}
use borrow.Author.Tests.{eq-eqb, ne_eqb}
use lib.ListN.{get_or}
use lib.Bits.{bit_and}
use lib.Dec.{eqb}
use Rattle.circles.specs.Peel.{peeled}
use Rattle.words.proofs.SlotWords.{shifted}
use Rattle.circles.proofs.peel.Goals as goal

pub returns-then-waits-slot-eq0 : goal.returns-then-waits-slot-eq0
unfolding peeled
returns-then-waits-slot-eq0 c =
    let a = c.args in
    let s = shifted a.slot (omega arith) in
    let e : eqb (bit_and (get_or a.waits.now a.slot 0) a.left) 0 ≡ true = eq-eqb _ _ c.if-waits-slot-eq0.true in
    rw (s, e)

pub returns : goal.returns
unfolding peeled
returns c =
    let a = c.args in
    let e : eqb (bit_and (get_or a.waits.now a.slot 0) a.left) 0 ≡ false = ne_eqb _ _ c.if-waits-slot-eq0.false in
    rw e
