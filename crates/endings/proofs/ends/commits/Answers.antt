-- The clock moves, the row goes, the working values become versions, hidden from those in whose sets the committer is, the locks go.
use Prim.Native.Nat.{ℕ, ◌+◌, ◌<◌}
use mathlib.Core.Path.{◌≡◌, sym, ap, ◌∙◌, subst}
use mathlib.Core.Logic.{◌≢◌}
use mathlib.Core.List.{List}
use native.Mathlib.Omega.{arith}
use lib.ListN.{length, set, length-set}
use lib.Dec.{T}
use Rattle.names.specs.Sizes.{base}
use Rattle.rules.specs.Words.{bit}
use Rattle.rules.specs.Tables.{tables, txn_words, txn, set_txn, no_txn, clock, readers, live_relaxed, live_update, relaxed_in, lock, holds, holds_exclusive, holds_shared}
use Rattle.rules.specs.Good.{Good}
use Rattle.rules.specs.Versions.{versions_of, hidden_at, hidden_now}
use Rattle.rules.specs.Step.{committed, committed_under}
use Rattle.rules.proofs.Tests.{or_right}
use Rattle.rules.proofs.Views.{txn-top}
use Rattle.rules.proofs.RowKinds.{update-live, relaxed-live}
use Rattle.rules.proofs.Notes.{same_beside}
use Rattle.rules.proofs.Ready.{gone-relaxed}
use Rattle.rules.proofs.EqualVersions.{→relaxed}
use Rattle.rules.proofs.ChangedVersions.{committed-readers, left-readers}
use Rattle.starts.specs.Starts.{starts}
use Rattle.starts.specs.Beside.{Beside}
use Rattle.starts.proofs.Split.{readers-split}
use Rattle.rewrites.specs.Written.{Reading, Committable}
use Rattle.rewrites.proofs.Handed.{good-commits, good-reading, good-newer}
use Rattle.endings.proofs.Endings.{commits-done}
use Rattle.endings.proofs.ends.commits.Goals as goal

-- the clock is set, then the row goes
left_is : (t : List ℕ) (stamp s : ℕ) (set-clock gone : List ℕ) → gone ≡ set_txn set-clock s no_txn → set-clock ≡ set t 1 stamp → gone ≡ set_txn (set t 1 stamp) s no_txn
left_is t stamp s set-clock gone e f = e ∙ ap (λ (u : List ℕ). set_txn u s no_txn) f

-- where the neighbours are known: t, l and v are the tables as they came, now the transactions that are left
module _
    (t l v : List ℕ) (g : Good base (tables t l v)) (s : ℕ) (inside : s < base.slots) (update : T (live_update (txn t s)))
    (stamp : ℕ) (stamp-is : stamp ≡ clock t + 1) (hidden : ℕ) (hidden-is : hidden ≡ (txn t s).later_for)
    (now : List ℕ) (now-is : now ≡ set_txn (set t 1 stamp) s no_txn) (below next : ℕ) (beside : Beside (starts base now) stamp below next)
  where
    abbrev gone : List ℕ
    gone = set_txn (set t 1 stamp) s no_txn

    neighbours : Beside (starts base (set_txn (set t 1 stamp) s no_txn)) stamp below next
    neighbours = subst (λ (u : List ℕ). Beside (starts base u) stamp below next) now-is beside

    -- the committer is no query: those who read are those of before, and less than there are places
    same : readers base (set_txn (set t 1 stamp) s no_txn) ≡ readers base t
    unfolding committed committed_under
    same =
        ap (λ (m : ℕ). readers base (set_txn (set t 1 m) s no_txn)) stamp-is ∙ committed-readers base (tables t l v) g (omega arith) s inside update

    size : length (set t 1 stamp) ≡ txn_words base
    size = length-set t 1 stamp ∙ g.txns_exact

    few : length (readers base (set_txn (set t 1 stamp) s no_txn)) < base.places
    few = let a = left-readers base (set t 1 stamp) size s inside in omega arith

    -- in whose sets it is, those are relaxed queries, and stay
    known : (i : ℕ) → T (bit hidden i) → T (bit (relaxed_in base (set_txn (set t 1 stamp) s no_txn)) i)
    known i h =
        let k = g.sets_good.of_relaxed s i inside (subst (λ (n : ℕ). T (bit n i)) hidden-is h) in
        let other : i ≢ s
        = λ e. let a = (update-live (txn t s) update).1 in let d = (relaxed-live (txn t s) (subst (λ (n : ℕ). T (live_relaxed (txn t n))) e k.1)).1 in omega arith in
        →relaxed base gone i k.0
        (subst T
        (sym
        (gone-relaxed base t (set t 1 stamp) s inside size (λ r d. same_beside (txn t r) (txn (set t 1 stamp) r) (txn-top t 1 stamp r (omega arith))) i other))
        k.1)

    reading : Reading v (readers base (set_txn (set t 1 stamp) s no_txn)) stamp hidden below
    reading =
        good-reading (tables t l v) g (readers base gone) same (starts base gone) (relaxed_in base gone) (readers-split base gone) few stamp hidden below next neighbours known

    -- who holds an item is in the sets from which its newest version is hidden
    joins :
        (x : ℕ) → x < base.items → T (holds_exclusive (lock l x) s)
        → (i : ℕ) → T (bit (hidden_at (versions_of base v x) 0) i) → T (bit hidden i)
    unfolding hidden_now holds
    joins x k h i b =
        subst (λ (n : ℕ). T (bit n i)) (sym hidden-is)
        (g.sets_good.holds_hidden x s i k (or_right (holds_shared (lock l x) s) _ h) b)

    committable : Committable v l s stamp hidden below
    committable =
        good-commits (tables t l v) g (readers base gone) same (starts base gone) (relaxed_in base gone) (readers-split base gone) few stamp hidden below next neighbours known l g.locks_exact s inside
        (λ x i k. good-newer (tables t l v) g stamp x (let z = stamp-is in omega arith) i)
        joins

pub commit_all-requires : goal.commit_all-requires
commit_all-requires c =
    let a = c.args in
    let p = c.requires in
    committable a.txns.now a.locks.now a.versions.now p.0 a.slot.0 p.1 p.2 (c.clock-stamp.result.0 + 1) (ap (λ (m : ℕ). m + 1) c.clock-stamp.ensures) _ c.later_for-hidden.ensures _ (left_is _ _ _ _ _ c.leave.ensures c.set_clock.ensures) _ _ c.beside-beside.ensures

pub returns : goal.returns
returns c =
    let a = c.args in
    let p = c.requires in
    commits-done a.txns.now a.locks.now a.versions.now _ (ap (λ (m : ℕ). m + 1) c.clock-stamp.ensures) c.later_for-hidden.ensures
    (left_is _ _ _ _ _ c.leave.ensures c.set_clock.ensures) c.release.ensures
    (c.commit_all.ensures _ (reading a.txns.now a.locks.now a.versions.now p.0 a.slot.0 p.1 p.2 (c.clock-stamp.result.0 + 1) (ap (λ (m : ℕ). m + 1) c.clock-stamp.ensures) _ c.later_for-hidden.ensures _ (left_is _ _ _ _ _ c.leave.ensures c.set_clock.ensures) _ _ c.beside-beside.ensures))
    c.numbered.ensures
