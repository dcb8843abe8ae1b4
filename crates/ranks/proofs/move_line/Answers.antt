use Prim.Native.Nat.{ℕ, ◌+◌, ◌<◌}
use mathlib.Core.Path.{◌≡◌, refl, sym, ap, ◌∙◌}
use mathlib.Core.List.{List}
use native.Mathlib.Omega.{arith}
use lib.ListN.{set}
use lib.Seq.{set-get_or}
use Rattle.names.specs.Sizes.{base}
use Rattle.names.specs.Layout.{txn_rank_at}
use Rattle.rules.specs.Tables.{Txn, txn_at, txn, reworded, reranked}
use Rattle.rules.proofs.Views.{word_row, txn-set_txn-other}
use Rattle.rows.proofs.Rewords.{reworded-more}
use Rattle.ranks.proofs.move_line.Goals as goal
use Rattle.ranks.proofs.move_line.Goals.{then-awaits_on, else-awaits_on}

-- a rank written is no word of the rows behind
behind : (t : List ℕ) (n w s : ℕ) → n < s → txn (set t (txn_at n + txn_rank_at) w) s ≡ txn t s
behind t n w s l = ap (λ (u : List ℕ). txn u s) (word_row txn_rank_at (omega arith) t n w) ∙ txn-set_txn-other t n _ s (λ e. omega arith)

-- a row that has the rank already
kept : (t : List ℕ) (n w : ℕ) → (txn t n).rank ≡ w → t ≡ set t (txn_at n + txn_rank_at) w
unfolding txn
kept t n w e = sym (set-get_or t (txn_at n + txn_rank_at) 0) ∙ ap (set t (txn_at n + txn_rank_at)) e

-- one row more
more :
    (f : Txn → ℕ) (before t u : List ℕ) (n w : ℕ) → t ≡ reranked n f before → w ≡ f (txn t n) → u ≡ set t (txn_at n + txn_rank_at) w
    → u ≡ reranked (n + 1) f before
more f before t u n w r d e =
    e
    ∙ ap (set t (txn_at n + txn_rank_at)) d
    ∙ ap (λ (u : List ℕ). set u (txn_at n + txn_rank_at) (f (txn u n))) r
    ∙ reworded-more txn_rank_at (omega arith) n f before

pub loop-slot-init : goal.loop-slot-init
unfolding reworded
loop-slot-init g c = (λ s h. refl, λ f m k. refl)

pub moved-to-requires : goal.moved-to-requires
moved-to-requires g c =
    let s = c.loop-slot.slot in
    let e : c.rank-place.result ≡ (txn c.args.txns.now s).rank = c.rank-place.ensures ∙ ap (λ (r : Txn). r.rank) (c.loop-slot.invariant.0 s (omega arith)) in
    let p = c.requires s c.loop-slot-test.true in
    rw e p

pub loop-slot-preserved : goal.loop-slot-preserved
loop-slot-preserved g c =
    let n = c.loop-slot.slot in
    let t = c.loop-slot.txns in
    elim c.if-awaits_on.branch [
      | then-awaits_on w ↦
          let e = w.txns-is ∙ w.set_rank.ensures in (
            λ s h. ap (λ (u : List ℕ). txn u s) e ∙ behind t n _ s (omega arith) ∙ c.loop-slot.invariant.0 s (omega arith),
            λ f m k. more f c.args.txns.now t _ n _ (c.loop-slot.invariant.1 f m k) (m (txn t n) _ (sym c.awaits_on.ensures ∙ w.if-awaits_on.true) (rw (sym w.rank-place.ensures) w.moved-to.ensures)) e,
          )
      | else-awaits_on w ↦ (
        λ s h. ap (λ (u : List ℕ). txn u s) w.txns-is ∙ c.loop-slot.invariant.0 s (omega arith),
        λ f m k. more f c.args.txns.now t _ n _ (c.loop-slot.invariant.1 f m k) refl (w.txns-is ∙ kept t n _ (k (txn t n) (sym c.awaits_on.ensures ∙ w.if-awaits_on.false))),
      )
    ]

pub returns : goal.returns
returns g c = λ f m k.
    let e : c.loop-slot.slot ≡ base.slots = omega arith in
    c.loop-slot.invariant.1 f m k ∙ ap (λ (n : ℕ). reranked n f c.args.txns.now) e
