-- The row goes, then what its start alone read goes from every row of versions.
use Prim.Native.Nat.{ℕ, ◌<◌}
use lib.Dec.{T}
use mathlib.Core.Path.{◌≡◌, refl, sym, subst, subst₂}
use mathlib.Core.List.{List}
use Rattle.names.specs.Sizes.{base}
use Rattle.rules.specs.Tables.{tables, set_txn, no_txn, readers, txn, by_start}
use Rattle.rules.specs.Good.{Good}
use Rattle.rules.proofs.Notes.{same_beside}
use Rattle.starts.specs.Starts.{starts}
use Rattle.starts.specs.Beside.{Beside}
use Rattle.rewrites.specs.Written.{Staying, Leavable}
use Rattle.rewrites.proofs.Handed.{good-leaves, good-staying}
use Rattle.endings.proofs.leaving.leaves.Goals as goal

-- where the neighbours are known: t and v are the tables as they came, gone are the transactions that are left, ended is the start that ended
module _
    (t l v : List ℕ) (g : Good base (tables t l v)) (s : ℕ) (inside : s < base.slots) (reads : T (by_start (txn t s)))
    (ended : ℕ) (was : ended ≡ (txn t s).start) (gone : List ℕ) (left : gone ≡ set_txn t s no_txn)
    (below next : ℕ) (known : Beside (starts base gone) ended below next)
  where
    neighbours : Beside (starts base (set_txn t s no_txn)) (txn t s).start below next
    neighbours = subst₂ (λ (t : List ℕ) (q : ℕ). Beside (starts base t) q below next) left was known

    leavable : Leavable v ended below next
    leavable =
        subst (λ (q : ℕ). Leavable v q below next) (sym was)
        (good-leaves (tables t l v) g s inside t g.txns_exact (λ r d. same_beside (txn t r) (txn t r) refl) reads below next neighbours)

    staying : Staying v (readers base (set_txn t s no_txn)) ended below next
    staying =
        subst (λ (q : ℕ). Staying v (readers base (set_txn t s no_txn)) q below next) (sym was)
        (good-staying (tables t l v) g s inside t g.txns_exact (λ r d. same_beside (txn t r) (txn t r) refl) reads below next neighbours)

pub forget_all-requires : goal.forget_all-requires
forget_all-requires c =
    let a = c.args in
    let p = c.requires in
    leavable a.txns.now p.0.locks a.versions.now p.0.good a.slot.0 p.1 p.2 _ c.start-start.ensures _ c.leave.ensures _ _ c.beside-beside.ensures

pub returns : goal.returns
returns c =
    let a = c.args in
    let p = c.requires in
    record {
      was = c.start-start.ensures;
      txns = c.leave.ensures;
      versions = c.forget_all.ensures _ (staying a.txns.now p.0.locks a.versions.now p.0.good a.slot.0 p.1 p.2 _ c.start-start.ensures _ c.leave.ensures _ _ c.beside-beside.ensures);
      beside = subst (λ (t : List ℕ). Beside (starts base t) c.start-start.result.0 c.beside-beside.result.below c.beside-beside.result.next) c.leave.ensures c.beside-beside.ensures;
    }
