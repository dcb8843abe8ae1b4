-- The words of links have a circle exactly if the tables have one; where nobody awaits, there is none.
use Prim.Native.Nat.{ℕ, ◌<◌}
use mathlib.Core.Path.{◌≡◌, sym, subst}
use mathlib.Core.Logic.{◌≢◌, ◌⊎◌, inl, inr, ◌↔◌}
use mathlib.Core.Bool.{Bool}
use mathlib.Core.List.{List}
use lib.Dec.{T}
use Rattle.names.specs.Sizes.{base}
use Rattle.rules.specs.Tables.{txn, no_lock, lock}
use Rattle.rules.specs.Waits.{awaits, waits_for, Walk, no_circle}
use Rattle.rules.specs.Tested.{awaiter_good, ranks_good}
use Rattle.rules.proofs.Tests.{false_is, same?, true_is}
use Rattle.rules.proofs.Counts.{→every_below}
use Rattle.rules.proofs.Bits.{bit_none}
use Rattle.rules.proofs.EqualRanks.{awaits→, awaits_on→, Good→ranks}
use Rattle.rules.proofs.Walks.{walk_map, waits-for→, waiter_within, no-circle→, →no-circle}
use Rattle.circles.specs.Links.{linked, LinkWords, Waiting, NoCircle}
use Rattle.words.proofs.Turns.{iff_eq}
use Rattle.waiting.specs.Waiting.{Readable, Awaiting, Links, awaiters_good}
use Rattle.waiting.proofs.Linking.{awaiter_none}

module _ (t l w : List ℕ) (k : Links t l w) where
  pub links_slots : LinkWords w
  links_slots = record { size = k.size; small = λ a i. k.small a }

  -- the words are the waits of the rules
  pub links-same : (a b : ℕ) → linked w a b ≡ waits_for t l a b
  unfolding linked
  links-same a b = k.at a b

  pub links_waiting : Readable t l → (waiting : ℕ) → Awaiting t waiting → Waiting w waiting
  links_waiting o u h =
      record {
        small = h.small;
        all = λ a b x.
            let d = (waits-for→ t l a b (subst T (links-same a b) x)).0 in
            h.all a (waiter_within base t l o.txns_exact o.item_known o.inside a d) d;
      }

  pub circle-same : Readable t l → (r : Bool) → T r ↔ NoCircle w → r ≡ no_circle base t l
  unfolding NoCircle
  circle-same o r e =
      iff_eq r (no_circle base t l)
      (λ x. →no-circle base t l o.txns_exact o.item_known o.inside (λ a y. e.0 x a (walk_map (λ a b. subst T (sym (links-same a b))) y)))
      (λ x. e.1 (λ a y. no-circle→ base t l o.txns_exact o.item_known o.inside x a (walk_map (λ a b. subst T (links-same a b)) y)))

-- ---- nobody awaits a lock
module _ (t l : List ℕ) (o : Readable t l) (h : Awaiting t 0) where
  none : (s : ℕ) → s < base.slots → (txn t s).awaited_lock ≡ no_lock
  none s i = go (same? (txn t s).awaited_lock no_lock)
    where
      go : ((txn t s).awaited_lock ≡ no_lock) ⊎ ((txn t s).awaited_lock ≢ no_lock) → (txn t s).awaited_lock ≡ no_lock
      go (inl e) = e
      go (inr d) = absurd (false_is (bit_none s) (h.all s i d))

  pub none_awaits : T (awaiters_good base t l)
  unfolding awaiters_good
  none_awaits = →every_below base.slots (λ s. awaiter_good s (txn t s) (lock l (txn t s).awaited_item)) (λ s i. true_is (awaiter_none s (txn t s) (lock l (txn t s).awaited_item) (none s i)))

  pub none_ranked : T (ranks_good base t l)
  none_ranked =
      Good→ranks base t l
      (record {
        least = λ s i a. absurd (idle s i a);
        most = λ s i a. absurd (idle s i a);
        apart = λ x r s i j d a. absurd (idle r i (awaits_on→ x (txn t r) a).0);
        exchangers = λ x r s i j a. absurd (idle r i (awaits_on→ x (txn t r) a).0);
      })
    where
      idle : (s : ℕ) → s < base.slots → T (awaits (txn t s)) → ⊥
      idle s i a = awaits→ (txn t s) a (none s i)

  pub none_circles : T (no_circle base t l)
  none_circles = →no-circle base t l o.txns_exact o.item_known o.inside (λ a y. stuck y)
    where
      stuck : {a b : ℕ} → Walk (waits_for t l) a b → ⊥
      stuck (Walk.one {a} {b} e) =
          let d = (waits-for→ t l a b e).0 in
          d (none a (waiter_within base t l o.txns_exact o.item_known o.inside a d))
      stuck (Walk.more y e) = stuck y
