-- A row with another count than 1: each way out rewrites with the tests passed.
use mathlib.Core.Path.{◌≡◌, sym, ◌∙◌}
use mathlib.Core.Bool.{true, false}
use lib.ListN.{get_or}
use lib.Dec.{eqb, ltb}
use borrow.Author.Tests.{eq-eqb, ne_eqb, lt-ltb, le-ltb}
use Rattle.names.specs.Sizes.{base}
use Rattle.choices.specs.Pairs.{count_in}
use Rattle.versions.specs.Rows.{many_ok, walk_ok}
use Rattle.versions.proofs.many_ok.Goals as goal

pub returns-then-n-eq0 : goal.returns-then-n-eq0
unfolding many_ok
returns-then-n-eq0 c =
    let e : eqb (get_or c.args.row.now 0 0) 0 ≡ true = eq-eqb _ _ c.if-n-eq0.true in
    rw e

pub returns-then-n-gt-PLACES : goal.returns-then-n-gt-PLACES
unfolding many_ok
returns-then-n-gt-PLACES c =
    let r = c.args.row.now in
    let e : eqb (count_in r) 0 ≡ false = ne_eqb _ _ c.if-n-eq0.false in
    let d : ltb base.places (count_in r) ≡ true = lt-ltb _ _ c.if-n-gt-PLACES.true in
    rw (e, d)

pub returns-then-not-walk_ok : goal.returns-then-not-walk_ok
unfolding many_ok
returns-then-not-walk_ok c =
    let a = c.args in
    let r = a.row.now in
    let e : eqb (count_in r) 0 ≡ false = ne_eqb _ _ c.if-n-eq0.false in
    let d : ltb base.places (count_in r) ≡ false = le-ltb _ _ c.if-n-gt-PLACES.false in
    let f : walk_ok a.starts.now a.relaxed r (count_in r) ≡ false = sym c.walk_ok.ensures ∙ c.if-not-walk_ok.true in
    rw (e, d, f)

pub returns : goal.returns
unfolding many_ok
returns c =
    let a = c.args in
    let r = a.row.now in
    let e : eqb (count_in r) 0 ≡ false = ne_eqb _ _ c.if-n-eq0.false in
    let d : ltb base.places (count_in r) ≡ false = le-ltb _ _ c.if-n-gt-PLACES.false in
    let f : walk_ok a.starts.now a.relaxed r (count_in r) ≡ true = sym c.walk_ok.ensures ∙ c.if-not-walk_ok.false in
    rw (e, d, f) c.unused_ok.ensures
