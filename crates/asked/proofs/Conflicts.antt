-- A wait would close a circle exactly if, once it is noted, those whom the slot waits for lead back to it.
use Prim.Native.Nat.{ℕ, ◌≤◌, ◌<◌}
use mathlib.Core.Path.{◌≡◌, refl, sym, ◌∙◌, subst}
use mathlib.Core.Logic.{◌≢◌, ◌⊎◌, inl, inr, ◌↔◌}
use mathlib.Core.Bool.{Bool, true, false}
use mathlib.Core.List.{List}
use lib.ListN.{get_or}
use lib.Dec.{T}
use Rattle.names.specs.Sizes.{base}
use Rattle.rules.specs.Tables.{tables, txn, no_lock, exclusive_lock}
use Rattle.rules.specs.Waits.{awaits_on, noted, waits_for, Walk, circle_at}
use Rattle.rules.proofs.Tests.{true_is, false_is, is_false, same?}
use Rattle.rules.proofs.Noting.{noted-known, noted-length, noted_there, noted_here}
use Rattle.rules.proofs.Deadlock.{circle_is, repeated}
use Rattle.circles.specs.Links.{Leads}
use Rattle.circles.proofs.Closing.{closes}
use Rattle.words.proofs.Turns.{iff_eq}
use Rattle.waiting.specs.Waiting.{Readable, Links}
use Rattle.waiting.proofs.Handed.{good_readable}
use Rattle.waiting.proofs.Rounds.{links-same}
use Rattle.asked.specs.Asks.{Asks}

module _ (t l : List ℕ) (s k x : ℕ) (c : Asks t l s k x) where
  abbrev after : List ℕ
  after = noted base t l s k x

  -- ---- the tables with the wait noted can be read
  module _ (new : T (awaits_on x (txn t s)) → ⊥) where
    listed : (r : ℕ) → r < base.slots → (txn after r).awaited_lock ≤ exclusive_lock
    listed r i = go (same? r s)
      where
        go : (r ≡ s) ⊎ (r ≢ s) → (txn after r).awaited_lock ≤ exclusive_lock
        go (inl q) =
            subst (λ (m : ℕ). (txn after m).awaited_lock ≤ exclusive_lock) (sym q)
            (rw (noted_here base t l s k x new c.good.txns_exact c.inside) c.listed)
        go (inr d) = rw (noted_there base t l s k x new c.good.txns_exact r i d) (c.good.txn_good r i).lock_listed

    known : (r : ℕ) → r < base.slots → (txn after r).awaited_lock ≢ no_lock → (txn after r).awaited_item < base.items
    known r i w = go (same? r s)
      where
        go : (r ≡ s) ⊎ (r ≢ s) → (txn after r).awaited_item < base.items
        go (inl q) =
            subst (λ (m : ℕ). (txn after m).awaited_item < base.items) (sym q)
            (rw (noted_here base t l s k x new c.good.txns_exact c.inside) c.known)
        go (inr d) =
            let e = noted_there base t l s k x new c.good.txns_exact r i d in
            rw e ((c.good.txn_good r i).item_known (rw e at w))

  pub noted_readable : Readable (noted base t l s k x) l
  noted_readable = go (awaits_on x (txn t s)) refl
    where
      before : Readable t l
      before = good_readable t l c.versions c.good

      go : (b : Bool) → awaits_on x (txn t s) ≡ b → Readable (noted base t l s k x) l
      go true e = subst (λ (u : List ℕ). Readable u l) (sym (noted-known base t l s k x (true_is e))) before
      go false e =
          record {
            txns_exact = noted-length base t l s k x (false_is e) ∙ before.txns_exact;
            locks_exact = before.locks_exact;
            lock_listed = listed (false_is e);
            item_known = known (false_is e);
            inside = before.inside;
          }

  -- ---- a wait that is noted already closes no circle
  pub known-free : awaits_on x (txn t s) ≡ true → circle_at base (noted base t l s k x) l s ≡ false
  known-free e =
      let o = circle_is base (tables t l c.versions) c.good s k x c.inside c.known c.some in
      is_false (circle_at base after l s) (λ p. repeated base (tables t l c.versions) c.good s k x (true_is e) (o.0 p))

  -- ---- what is searched for is the circle
  module _ (w : List ℕ) (h : Links (noted base t l s k x) l w) where
    closing : Walk (waits_for after l) s s ↔ Leads w (get_or w s 0) s
    closing = closes w (waits_for after l) (get_or w s 0) s (λ b. sym (h.at s b)) (λ a b d. sym (links-same after l w h a b))

    pub circle-found : (r : Bool) → T r ↔ Leads w (get_or w s 0) s → r ≡ circle_at base (noted base t l s k x) l s
    circle-found r e =
        let o = circle_is base (tables t l c.versions) c.good s k x c.inside c.known c.some in
        iff_eq r (circle_at base after l s) (λ p. o.1 (closing.1 (e.0 p))) (λ p. e.1 (closing.0 (o.0 p)))
