-- One row, with one version or with more.
use mathlib.Core.Path.{◌≡◌, ap}
use mathlib.Core.Bool.{Bool, true, false, ◌&&◌}
use lib.ListN.{get_or}
use lib.Dec.{eqb, leb}
use borrow.Author.Tests.{eq-eqb, ne_eqb}
use Rattle.versions.specs.Rows.{one_ok, row_ok}
use Rattle.versions.proofs.row_ok.Goals as goal

pub returns-then-row-eq1 : goal.returns-then-row-eq1
unfolding row_ok one_ok
returns-then-row-eq1 c =
    let a = c.args in
    let e : eqb (get_or a.row.now 0 0) 1 ≡ true = eq-eqb _ _ c.if-row-eq1.true in
    rw e
    (ap (λ (b : Bool). b && leb (get_or a.row.now 1 0) a.clock && leb (get_or a.row.now 1 0) (get_or a.starts.now 0 0)) c.zeros.ensures)

pub returns : goal.returns
unfolding row_ok
returns c =
    let a = c.args in
    let e : eqb (get_or a.row.now 0 0) 1 ≡ false = ne_eqb _ _ c.if-row-eq1.false in
    rw e (ap (λ (b : Bool). leb (get_or a.row.now 1 0) a.clock && b) c.many_ok.ensures)
