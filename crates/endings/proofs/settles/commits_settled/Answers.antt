-- It leaves as whoever reads by a start, its working values become versions under its stamp, and its locks go.
use Rattle.rules.specs.Tables.{tables}
use Rattle.rules.proofs.RowKinds.{settled-starts}
use Rattle.endings.proofs.Endings.{settled-commits-done}
use Rattle.endings.proofs.Settled.{gone-commits, gone-reading, gone-committed}
use Rattle.endings.proofs.settles.commits_settled.Goals as goal

pub leaves-requires : goal.leaves-requires
leaves-requires c = let p = c.requires in (record { locks = c.args.locks.now; good = p.0 }, p.1, settled-starts _ p.2)

pub commit_all-requires : goal.commit_all-requires
commit_all-requires c =
    let a = c.args in
    let p = c.requires in
    gone-commits (tables a.txns.now a.locks.now a.versions.now) p.0 _ p.1 p.2 c.leaves.ensures c.later_for-hidden.ensures

pub returns : goal.returns
returns c =
    let a = c.args in
    let p = c.requires in
    let k = c.leaves.ensures in
    let e = c.later_for-hidden.ensures in
    let G = tables a.txns.now a.locks.now a.versions.now in
    settled-commits-done a.txns.now a.locks.now a.versions.now _ k.was e k.txns c.release.ensures
    (gone-committed G p.0 _ p.1 p.2 k e (c.commit_all.ensures _ (gone-reading G p.0 _ p.1 p.2 k e)))
    c.numbered.ensures
