-- The word of those who hold a lock in conflict with a request.
use mathlib.Core.Path.{refl}
use Rattle.waiting.proofs.Blocking.{Owner, owner_some, owner_none, conflicting_all, conflicting_one, holders_of}
use Rattle.waiting.proofs.holders.Goals as goal
use Rattle.waiting.proofs.holders.Goals.{then-exclusive-ne0, else-exclusive-ne0}

pub returns-then-wanted-eq-EXCLUSIVE_LOCK : goal.returns-then-wanted-eq-EXCLUSIVE_LOCK
returns-then-wanted-eq-EXCLUSIVE_LOCK c = let a = c.args in
    let p = c.requires in
    let owner : Owner a.exclusive c.if-exclusive-ne0.all = elim c.if-exclusive-ne0.branch [
      | then-exclusive-ne0 w ↦ owner_some a.exclusive c.requires.1 w.if-exclusive-ne0.true w.all-is
      | else-exclusive-ne0 w ↦ owner_none a.exclusive w.if-exclusive-ne0.false w.all-is
    ] in
    λ v.
    holders_of (record { shared = a.shared; exclusive = a.exclusive; working = v }) a.wanted _ p.0 p.1
    (conflicting_all a.shared a.exclusive a.wanted c.if-exclusive-ne0.all c.if-wanted-eq-EXCLUSIVE_LOCK.true owner refl)

pub returns-else-wanted-eq-EXCLUSIVE_LOCK : goal.returns-else-wanted-eq-EXCLUSIVE_LOCK
returns-else-wanted-eq-EXCLUSIVE_LOCK c = let a = c.args in
    let p = c.requires in
    let owner : Owner a.exclusive c.if-exclusive-ne0.all = elim c.if-exclusive-ne0.branch [
      | then-exclusive-ne0 w ↦ owner_some a.exclusive c.requires.1 w.if-exclusive-ne0.true w.all-is
      | else-exclusive-ne0 w ↦ owner_none a.exclusive w.if-exclusive-ne0.false w.all-is
    ] in
    λ v.
    holders_of (record { shared = a.shared; exclusive = a.exclusive; working = v }) a.wanted _ p.0 p.1
    (conflicting_one a.shared a.exclusive a.wanted c.if-exclusive-ne0.all c.if-wanted-eq-EXCLUSIVE_LOCK.false owner refl)
