use mathlib.Core.Path.{◌≡◌, ap}
use Prim.Native.Nat.{ℕ, ◌+◌, ◌-◌, ◌*◌, ◌<◌}
use mathlib.Core.Logic.{⊎_elim}
use mathlib.Core.Bool.{false}
use native.Mathlib.Omega.{arith}
use native.Mathlib.Nat.{eq-or-lt_of_le}
use lib.ListN.{get_or}
use lib.Dec.{leb}
use borrow.Author.Tests.{lt-leb, le-ltb}
use Rattle.names.specs.Sizes.{base}
use Rattle.names.specs.Layout.{version_stamp_at, version_pair}
use Rattle.versions.specs.Rows.{stamp_before, read_in}
use Rattle.versions.proofs.Merge.{begin, fails, next, ends}
use Rattle.versions.proofs.all_read.Goals as goal

-- the guard is not below a stamp
room : (c : goal.Else-hi-starts) → c.loop-j.p < base.slots
room c =
    let p = c.loop-j.p in
    let q = c.args.starts.now in
    let f = c.fits-row ((c.loop-j.j - 1) * version_pair + version_stamp_at) in
    let t = c.requires.2.top in
    ⊎_elim
    (λ (e : p ≡ base.slots).
    let z : get_or q p 0 ≡ get_or q base.slots 0 = ap (λ (n : ℕ). get_or q n 0) e in
    absurd (omega arith))
    (λ (l : p < base.slots). l)
    (eq-or-lt_of_le c.loop-j.invariant.first.within)

pub returns-then-starts-row : goal.returns-then-starts-row
unfolding read_in
returns-then-starts-row c =
    let a = c.args in
    let e : leb (stamp_before a.row.now a.m) (get_or a.starts.now 0 0) ≡ false = lt-leb _ _ c.if-starts-row.true in
    rw e

pub loop-j-init : goal.loop-j-init
loop-j-init c =
    let a = c.args in
    begin a.starts.now a.row.now a.m c.requires.0 (le-ltb _ _ c.if-starts-row.false)

pub returns-then-hi-starts : goal.returns-then-hi-starts
returns-then-hi-starts c =
    let a = c.args in
    let l = c.loop-j in
    fails a.starts.now a.row.now a.m l.p l.j c.requires.2 l.invariant c.if-hi-starts.true

pub skip-p-requires : goal.skip-p-requires
skip-p-requires c = (c.requires.2, omega (arith, room c))

pub loop-j-preserved : goal.loop-j-preserved
loop-j-preserved c =
    let a = c.args in
    let l = c.loop-j in
    next a.starts.now a.row.now a.m l.p l.j c.skip-p.result c.requires.2 l.invariant c.loop-j-test.true
    (omega arith) c.skip-p.ensures

pub returns : goal.returns
returns c =
    let a = c.args in
    let l = c.loop-j in
    ends a.starts.now a.row.now a.m l.p l.j c.requires.2 l.invariant (omega arith)
