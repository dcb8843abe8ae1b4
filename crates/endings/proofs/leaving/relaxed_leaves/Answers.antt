-- Its set is forgotten and its row goes; then nothing is hidden from it, and what it alone read goes from every row of versions.
use Prim.Native.Nat.{ℕ}
use mathlib.Core.Path.{◌≡◌, ap, ◌∙◌, subst}
use mathlib.Core.List.{List}
use Rattle.names.specs.Sizes.{base}
use Rattle.rules.specs.Tables.{tables, set_txn, no_txn}
use Rattle.rules.specs.Step.{forgotten}
use Rattle.starts.specs.Starts.{starts}
use Rattle.starts.specs.Ordered.{InOrder}
use Rattle.endings.proofs.Queries.{relaxed-showing, relaxed_reveals}
use Rattle.endings.proofs.leaving.relaxed_leaves.Goals as goal

-- the starts of those who stay are known: t are the transactions as they came, gone those that are left
ordered :
    (t l v : List ℕ) (s : ℕ) (now gone q : List ℕ) → now ≡ forgotten base s t → gone ≡ set_txn now s no_txn → InOrder (starts base gone) q
    → InOrder (starts base (set_txn (forgotten base s t) s no_txn)) q
ordered t l v s now gone q e f o = subst (λ (t : List ℕ). InOrder (starts base t) q) (f ∙ ap (λ (t : List ℕ). set_txn t s no_txn) e) o

pub reveal_all-requires : goal.reveal_all-requires
reveal_all-requires c =
    let a = c.args in
    let p = c.requires in
    relaxed_reveals (tables a.txns.now p.0.locks a.versions.now) p.0.good a.query.0 p.1 p.2 _
    (ordered a.txns.now p.0.locks a.versions.now a.query.0 _ _ _ c.forget.ensures c.leave.ensures c.starts_in_order-staying.ensures)

pub returns : goal.returns
returns c =
    let a = c.args in
    let p = c.requires in
    record {
      txns = c.leave.ensures ∙ ap (λ (t : List ℕ). set_txn t a.query.0 no_txn) c.forget.ensures;
      versions =
          c.reveal_all.ensures _
          (relaxed-showing (tables a.txns.now p.0.locks a.versions.now) p.0.good a.query.0 p.1 p.2 _
          (ordered a.txns.now p.0.locks a.versions.now a.query.0 _ _ _ c.forget.ensures c.leave.ensures c.starts_in_order-staying.ensures));
    }
