-- Each deed by its own function.
use mathlib.Core.Path.{◌≡◌, subst}
use Rattle.rules.specs.Tables.{Tables, tables}
use Rattle.rules.specs.Answers.{Deed}
use Rattle.choices.proofs.Handed.{good-found}
use Rattle.done.specs.Able.{Able}
use Rattle.deeds.proofs.Deeds.{told, lockable, waitable, has_newest, holder_inside}
use Rattle.done.proofs.done.Goals as goal

-- what the deed asks, told which it is
able : (G : Tables) {d e : Deed} → Able G d → d ≡ e → Able G e
able G a e = subst (Able G) e a

pub waits-requires : goal.waits-requires
waits-requires c =
    let G = tables c.args.txns.now c.args.locks.now c.args.versions.now in
    let a = able G c.requires.1 c.in-Waits.is in
    waitable G c.requires.0 _ _ a.0 a.1

pub begins-requires : goal.begins-requires
begins-requires c =
    let G = tables c.args.txns.now c.args.locks.now c.args.versions.now in
    (able G c.requires.1 c.in-Begins.is, c.requires.0.last_most)

pub version-requires : goal.version-requires
version-requires c =
    let G = tables c.args.txns.now c.args.locks.now c.args.versions.now in
    let a = able G c.requires.1 c.in-ReadsVersion.is in
    (a.0, a.1, holder_inside G c.requires.0 _ a.1, good-found G c.requires.0 _ _ a.1 a.0 a.2)

pub own-requires : goal.own-requires
own-requires c =
    let G = tables c.args.txns.now c.args.locks.now c.args.versions.now in
    let a = able G c.requires.1 c.in-ReadsOwn.is in
    (a.0, a.1)

pub newest-requires : goal.newest-requires
newest-requires c =
    let G = tables c.args.txns.now c.args.locks.now c.args.versions.now in
    let a = able G c.requires.1 c.in-ReadsNewest.is in
    (a.0, has_newest G c.requires.0 _ a.1)

pub takes_shared-requires : goal.takes_shared-requires
takes_shared-requires c =
    let G = tables c.args.txns.now c.args.locks.now c.args.versions.now in
    let a = able G c.requires.1 c.in-TakesShared.is in
    (lockable G c.requires.0 _ _ a.0 a.1, has_newest G c.requires.0 _ a.1)

pub replaces-requires : goal.replaces-requires
replaces-requires c =
    let G = tables c.args.txns.now c.args.locks.now c.args.versions.now in
    let a = able G c.requires.1 c.in-Replaces.is in
    lockable G c.requires.0 _ _ a.0 a.1

pub takes_exclusive-requires : goal.takes_exclusive-requires
takes_exclusive-requires c =
    let G = tables c.args.txns.now c.args.locks.now c.args.versions.now in
    let a = able G c.requires.1 c.in-TakesExclusive.is in
    (lockable G c.requires.0 _ _ a.0 a.1, has_newest G c.requires.0 _ a.1)

pub commits-requires : goal.commits-requires
commits-requires c =
    let G = tables c.args.txns.now c.args.locks.now c.args.versions.now in
    let a = able G c.requires.1 c.in-Commits.is in
    (c.requires.0, a.0, a.1)

pub commits_empty-requires : goal.commits_empty-requires
commits_empty-requires c =
    let G = tables c.args.txns.now c.args.locks.now c.args.versions.now in
    able G c.requires.1 c.in-CommitsEmpty.is

pub ends-requires : goal.ends-requires
ends-requires c =
    let G = tables c.args.txns.now c.args.locks.now c.args.versions.now in
    let a = able G c.requires.1 c.in-Ends.is in
    (record { locks = G.locks; good = c.requires.0 }, a.0, a.1)

pub aborts-requires : goal.aborts-requires
aborts-requires c =
    let G = tables c.args.txns.now c.args.locks.now c.args.versions.now in
    able G c.requires.1 c.in-Aborts.is

pub settles-requires : goal.settles-requires
settles-requires c =
    let G = tables c.args.txns.now c.args.locks.now c.args.versions.now in
    (able G c.requires.1 c.in-Settles.is, c.requires.0.clock_most)

pub commits_settled-requires : goal.commits_settled-requires
commits_settled-requires c =
    let G = tables c.args.txns.now c.args.locks.now c.args.versions.now in
    let a = able G c.requires.1 c.in-CommitsSettled.is in
    (c.requires.0, a.0, a.1)

pub aborts_settled-requires : goal.aborts_settled-requires
aborts_settled-requires c =
    let G = tables c.args.txns.now c.args.locks.now c.args.versions.now in
    let a = able G c.requires.1 c.in-AbortsSettled.is in
    (c.requires.0, a.0, a.1)

pub returns-in-Waits : goal.returns-in-Waits
returns-in-Waits c =
    let G = tables c.args.txns.now c.args.locks.now c.args.versions.now in
    told G c.in-Waits.is (c.waits.ensures G.versions)

pub returns-in-ReadsOwn : goal.returns-in-ReadsOwn
returns-in-ReadsOwn c =
    let G = tables c.args.txns.now c.args.locks.now c.args.versions.now in
    told G c.in-ReadsOwn.is (c.own.ensures G.versions)

pub returns-in-ReadsNewest : goal.returns-in-ReadsNewest
returns-in-ReadsNewest c =
    let G = tables c.args.txns.now c.args.locks.now c.args.versions.now in
    told G c.in-ReadsNewest.is (c.newest.ensures G.locks)
