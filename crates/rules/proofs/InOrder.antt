-- Who comes last stands last: one whose wait is noted, and who does not share the item, stands behind all who waited there.
use Prim.Native.Nat.{ℕ, suc, ◌+◌, ◌≤◌, ◌<◌}
use mathlib.Core.Path.{◌≡◌, refl, ◌∙◌, subst}
use mathlib.Core.Logic.{◌⊎◌, inl, inr}
use mathlib.Core.Bool.{Bool, true, false, ◌&&◌, cond}
use native.Mathlib.Omega.{arith}
use lib.ListN.{get_or}
use lib.Dec.{T, leb}
use borrow.Author.Tests.{lt-leb}
use Rattle.names.specs.declared.Sizes.{Sizes}
use Rattle.names.specs.Layout.{txn_rank_at}
use Rattle.rules.specs.Tables.{txn_at, Txn, txn, by_start}
use Rattle.rules.specs.Waits.{awaits_on, waiters_on, rank_for, raised}
use Rattle.rules.specs.Good.{Good}
use Rattle.rules.specs.Conditions.{CallerIn}
use Rattle.rules.specs.Promises.{after, coming, Noted, NewcomerLast}
use Rattle.rules.proofs.Tests.{is_false}
use Rattle.rules.proofs.RowKinds.{update_no_reader, start-reads}
use Rattle.rules.proofs.EqualRanks.{awaits_on→}
use Rattle.rules.proofs.Noting.{rank-last}
use Rattle.rules.proofs.Refused.{wait_good, wait_words}
use Rattle.rules.proofs.Waiting.{one_caller, one_want}

-- a rank before that of a newcomer does not rise
pub raised-before : (y p : ℕ) (r : Txn) → r.rank < p → raised y p r ≡ r.rank
unfolding raised
raised-before y p r h = go (awaits_on y r)
  where
    go : (b : Bool) → cond (b && leb p r.rank) (r.rank + 1) r.rank ≡ r.rank
    go true = rw (lt-leb p r.rank h)
    go false = refl

pub newcomer-last : (S : Sizes) → NewcomerLast S
unfolding txn
newcomer-last S c G s k x r e C up w new alone i d h = go (wait_words S c G e)
  where
    g : Good S G
    g = wait_good S c G e

    go :
        Noted S c G ⊎ (((s : ℕ) × CallerIn c S G s × T (by_start (txn G.txns s))) × (after S c G ≡ G))
        → (txn (after S c G).txns r).rank < (txn (after S c G).txns s).rank
    go (inr z) =
        let q = one_caller S G g c z.0.0 s z.0.1 C in
        absurd (update_no_reader (txn G.txns s) up (start-reads (txn G.txns s) (subst (λ (j : ℕ). T (by_start (txn G.txns j))) q z.0.2)))
    go (inl N) =
        let q : N.slot ≡ s = one_caller S G g c N.slot s N.caller C in
        let y : N.item ≡ x = (one_want c N.lock_kind k N.item x N.wants w).1 in
        let last : rank_for S G.txns G.locks s x ≡ suc (waiters_on S G.txns x) = rank-last S G.txns G.locks s x new alone in
        let its : (txn (after S c G).txns s).rank ≡ rank_for S G.txns G.locks s x =
        subst (λ (j : ℕ). get_or (after S c G).txns (txn_at j + txn_rank_at) 0 ≡ rank_for S G.txns G.locks j x) q
        (subst (λ (z : ℕ). get_or (after S c G).txns (txn_at N.slot + txn_rank_at) 0 ≡ rank_for S G.txns G.locks N.slot z) y N.txns.rank) in
        let within : (txn G.txns r).rank ≤ waiters_on S G.txns x =
        subst (λ (z : ℕ). (txn G.txns r).rank ≤ waiters_on S G.txns z) (awaits_on→ x (txn G.txns r) h).1
        (g.ranks_good.most r i (awaits_on→ x (txn G.txns r) h).0) in
        let there : (txn (after S c G).txns r).rank ≡ coming S G s x (txn G.txns r) =
        subst (λ (j : ℕ). get_or (after S c G).txns (txn_at r + txn_rank_at) 0 ≡ coming S G j x (txn G.txns r)) q
        (subst (λ (z : ℕ). get_or (after S c G).txns (txn_at r + txn_rank_at) 0 ≡ coming S G N.slot z (txn G.txns r)) y
        (N.txns.ranks r i (λ f. d (f ∙ q)))) in
        let stays : coming S G s x (txn G.txns r) ≡ (txn G.txns r).rank =
        rw (is_false (awaits_on x (txn G.txns s)) new) (raised-before x (rank_for S G.txns G.locks s x) (txn G.txns r) (omega arith)) in
        omega arith
