-- On good tables the computed circle is the walk, a noted wait closes circles through the caller only, and grants close none.
use Prim.Native.Nat.{ℕ, ◌<◌, ◌≤◌}
use mathlib.Core.Path.{◌≡◌, refl, sym, ap, ◌∙◌, subst}
use mathlib.Core.Logic.{◌≢◌, ◌⊎◌, inl, inr, ◌↔◌}
use mathlib.Core.Bool.{Bool, true, false}
use mathlib.Core.List.{List}
use lib.ListN.{length}
use lib.Dec.{T}
use Rattle.names.specs.declared.Sizes.{Sizes}
use Rattle.rules.specs.Tables.{Tables, Txn, txn, txn_words, with_rank, no_lock, lock, holds}
use Rattle.rules.specs.Waits.{awaits, awaits_on, rank_for, raised, noted, conflicts, ahead, waits_for, Walk, circle_at}
use Rattle.rules.specs.Good.{Good}
use Rattle.rules.specs.Conditions.{Circle}
use Rattle.rules.proofs.EqualRows.{holder}
use Rattle.rules.proofs.Tests.{true_is, false_is, same?}
use Rattle.rules.proofs.Views.{awaiting}
use Rattle.rules.proofs.EqualRanks.{awaits→, →awaits, awaits_on→, →awaits_on, waiter_inside}
use Rattle.rules.proofs.Walks.{walk_map, circle_through, sink, circle→walk, walk→circle, waits-for→, →waits-for, ahead→}
use Rattle.rules.proofs.Joins.{come_ahead}
use Rattle.rules.proofs.Noting.{noted-known, noted-length, noted_there, noted_here, rank-least, rank_most}

module _ (S : Sizes) (G : Tables) (g : Good S G) (s k x : ℕ) (inside : s < S.slots) (known : x < S.items) (some : k ≢ no_lock) where
  abbrev t : List ℕ
  t = G.txns

  abbrev l : List ℕ
  l = G.locks

  abbrev t' : List ℕ
  t' = noted S t l s k x

  holders : (y : ℕ) → y < S.items → (b : ℕ) → T (holds (lock l y) b) → b < S.slots
  holders y h b u = (holder S t (lock l y) (g.lock_good y h) b u).0

  -- ---- it comes into the line
  module _ (new : T (awaits_on x (txn t s)) → ⊥) where
    size : length t' ≡ txn_words S
    size = noted-length S t l s k x new ∙ g.txns_exact

    here : txn t' s ≡ awaiting (txn t s) k x (rank_for S t l s x)
    here = noted_here S t l s k x new g.txns_exact inside

    there : (r : ℕ) → r < S.slots → r ≢ s → txn t' r ≡ with_rank (txn t r) (raised x (rank_for S t l s x) (txn t r))
    there = noted_there S t l s k x new g.txns_exact

    item_known : (r : ℕ) → r < S.slots → (txn t' r).awaited_lock ≢ no_lock → (txn t' r).awaited_item < S.items
    item_known r h w = go (same? r s)
      where
        go : (r ≡ s) ⊎ (r ≢ s) → (txn t' r).awaited_item < S.items
        go (inl q) = subst (λ (m : ℕ). (txn t' m).awaited_item < S.items) (sym q) (rw here known)
        go (inr d) = rw (there r h d) ((g.txn_good r h).item_known (rw (there r h d) at w))

    new_circle_is : T (circle_at S t' l s) ↔ Walk (waits_for t' l) s s
    new_circle_is = (circle→walk S t' l size item_known holders s, walk→circle S t' l size item_known holders s)

    -- among the others nobody waits for anybody new
    same : (T (awaits (txn t s)) → ⊥) → (a b : ℕ) → a ≢ s → b ≢ s → T (waits_for t' l a b) → T (waits_for t l a b)
    same idle a b d f u = go v.2
      where
        v :
            ((txn t' a).awaited_lock ≢ no_lock) × (a ≢ b)
            × (T (conflicts (lock l (txn t' a).awaited_item) (txn t' a).awaited_lock b)
            ⊎ T (ahead (txn t' a).awaited_item (txn t' a).awaited_lock (txn t' a).rank (txn t' b)))
        v = waits-for→ t' l a b u

        i : a < S.slots
        i = waiter_inside S t' size a v.0

        y : ℕ
        y = (txn t a).awaited_item

        j : ℕ
        j = (txn t a).awaited_lock

        item : (txn t' a).awaited_item ≡ y
        item = ap (λ (w : Txn). w.awaited_item) (there a i d)

        kind : (txn t' a).awaited_lock ≡ j
        kind = ap (λ (w : Txn). w.awaited_lock) (there a i d)

        waits : j ≢ no_lock
        waits e = v.0 (kind ∙ e)

        go :
            T (conflicts (lock l (txn t' a).awaited_item) (txn t' a).awaited_lock b)
            ⊎ T (ahead (txn t' a).awaited_item (txn t' a).awaited_lock (txn t' a).rank (txn t' b))
            → T (waits_for t l a b)
        go (inl c) =
            →waits-for t l a b waits v.1
            (inl (subst (λ (m : ℕ). T (conflicts (lock l y) m b)) kind (subst (λ (z : ℕ). T (conflicts (lock l z) (txn t' a).awaited_lock b)) item c)))
        go (inr c) =
            let c' = subst (λ (m : ℕ). T (ahead y m (txn t' a).rank (txn t' b))) kind (subst (λ (z : ℕ). T (ahead z (txn t' a).awaited_lock (txn t' a).rank (txn t' b))) item c) in
            let n = waiter_inside S t' size b (awaits→ (txn t' b) (awaits_on→ y (txn t' b) (ahead→ y j (txn t' a).rank (txn t' b) c').0).0) in
            →waits-for t l a b waits v.1
            (inr (come_ahead S t t' l s x (rank_for S t l s x) inside there idle (→awaits (txn t' s) (λ e. some (sym (ap (λ (w : Txn). w.awaited_lock) here) ∙ e)))
            (ap (λ (w : Txn). w.awaited_item) here) (ap (λ (w : Txn). w.rank) here) g.ranks_good (rank-least S t l s x new) (rank_most S t l s x new)
            y j a b i n d f (→awaits_on y (txn t a) (→awaits (txn t a) waits) refl) c'))

    pub new_no_circle : (T (awaits (txn t s)) → ⊥) → (Circle S G s k x → ⊥) → (a : ℕ) → Walk (waits_for t' l) a a → ⊥
    new_no_circle idle f a w = go (circle_through (waits_for t l) (waits_for t' l) s (same idle) w)
      where
        go : Walk (waits_for t l) a a ⊎ Walk (waits_for t' l) s s → ⊥
        go (inl v) = g.no_circle a v
        go (inr v) = f v

  -- ---- it comes, or stands there already
  pub circle_is : T (circle_at S (noted S G.txns G.locks s k x) G.locks s) ↔ Circle S G s k x
  circle_is = go (awaits_on x (txn t s)) refl
    where
      go : (b : Bool) → awaits_on x (txn t s) ≡ b → T (circle_at S (noted S G.txns G.locks s k x) G.locks s) ↔ Circle S G s k x
      go false e = new_circle_is (false_is e)
      go true e =
          subst (λ (u : List ℕ). T (circle_at S u l s) ↔ Walk (waits_for u l) s s) (sym (noted-known S t l s k x (true_is e)))
          (circle→walk S t l g.txns_exact (λ r h. (g.txn_good r h).item_known) holders s, walk→circle S t l g.txns_exact (λ r h. (g.txn_good r h).item_known) holders s)

-- ---- what closes no circle on good tables
module _ (S : Sizes) (G : Tables) (g : Good S G) where
  -- a repeated ask
  pub repeated : (s k x : ℕ) → T (awaits_on x (txn G.txns s)) → Circle S G s k x → ⊥
  repeated s k x h w = g.no_circle s (subst (λ (u : List ℕ). Walk (waits_for u G.locks) s s) (noted-known S G.txns G.locks s k x h) w)

  -- a grant: slot s awaits nothing afterwards, and every link that is new leads to s
  pub grant_no_circle :
      (s : ℕ) (t' l' : List ℕ) → ((b : ℕ) → T (waits_for t' l' s b) → ⊥)
      → ((a b : ℕ) → b ≢ s → T (waits_for t' l' a b) → T (waits_for G.txns G.locks a b))
      → (a : ℕ) → Walk (waits_for t' l') a a → ⊥
  grant_no_circle s t' l' stop sub a w = g.no_circle a (sink (waits_for G.txns G.locks) (waits_for t' l') s stop sub w)

  -- no new link
  pub fewer_no_circle :
      (t' l' : List ℕ) → ((a b : ℕ) → T (waits_for t' l' a b) → T (waits_for G.txns G.locks a b))
      → (a : ℕ) → Walk (waits_for t' l') a a → ⊥
  fewer_no_circle t' l' sub a w = g.no_circle a (walk_map sub w)
