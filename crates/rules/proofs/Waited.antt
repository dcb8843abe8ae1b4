-- A wait that is noted, and a grant that clears one, leave good tables.
use Prim.Native.Nat.{ℕ, suc, ◌≤◌, ◌<◌}
use mathlib.Core.Path.{◌≡◌, refl, sym, ap, ◌∙◌, subst}
use mathlib.Core.Logic.{◌≢◌, ◌⊎◌, inl, inr}
use mathlib.Core.Bool.{Bool, true, false, not, ◌&&◌}
use mathlib.Core.List.{List}
use native.Mathlib.Omega.{arith}
use lib.ListN.{length}
use lib.Dec.{T, eqb, eqb→eq}
use borrow.Author.Tests.{eq-eqb}
use Rattle.names.specs.declared.Sizes.{Sizes}
use Rattle.rules.specs.Tables.{Tables, txn_words, last_number, clock, Txn, txn, set_txn, with_rank, live, live_update, live_settled, may_hold}
use Rattle.rules.specs.Tables.{no_lock, shared_lock, exclusive_lock, Lock, lock, holds, holds_shared, holds_exclusive}
use Rattle.rules.specs.Waits.{awaits, awaits_on, waiters_on, exchangers_on, rank_for, raised, noted, closed_up, conflicts, waits_for, one, more}
use Rattle.rules.specs.Good.{Good, GoodRanks}
use Rattle.rules.specs.Conditions.{Circle}
use Rattle.rules.specs.Changed.{leaving}
use Rattle.rules.specs.Step.{with_txns, cleared, awaits_other}
use Rattle.rules.proofs.Tests.{same?, true_is, false_is, ne_make, not_make, and_left, and_right, and_both, or_left, or_right}
use Rattle.rules.proofs.Counts.{count_none}
use Rattle.rules.proofs.Views.{awaiting, set_awaited-row, length-set_txn, last_number-set_txn, clock-set_txn, txn-set_txn, txn-set_txn-other}
use Rattle.rules.proofs.EqualRanks.{awaits→, →awaits, awaits_on→, →awaits_on}
use Rattle.rules.proofs.Walks.{→waits-for}
use Rattle.rules.proofs.Lines.{leaving-idle, left-ranks, left-links}
use Rattle.rules.proofs.Joins.{come_ranks}
use Rattle.rules.proofs.Noting.{rank-shared, rank-last, rank-least, rank_most, noted-known, noted-length, noted-last, noted-clock, noted_there, noted_here}
use Rattle.rules.proofs.Noting.{closed-length, closed-last, closed-clock, closed-row}
use Rattle.rules.proofs.Deadlock.{fewer_no_circle, new_no_circle}
use Rattle.rules.proofs.Awaits.{MayAwait, awaiting_good}

-- test 6 lets a waiter's awaited call pass, and none but it
pub only_this : (t : List ℕ) (s k x : ℕ) → awaits_other t s k x ≡ false → T (awaits (txn t s)) → ((txn t s).awaited_lock ≡ k) × T (awaits_on x (txn t s))
unfolding awaits_other
only_this t s k x e w = go (eqb (txn t s).awaited_lock k && eqb (txn t s).awaited_item x) refl
  where
    go : (b : Bool) → (eqb (txn t s).awaited_lock k && eqb (txn t s).awaited_item x) ≡ b → ((txn t s).awaited_lock ≡ k) × T (awaits_on x (txn t s))
    go true f = (
      eqb→eq (txn t s).awaited_lock k (and_left (eqb (txn t s).awaited_lock k) _ (true_is f)),
      →awaits_on x (txn t s) w (eqb→eq (txn t s).awaited_item x (and_right (eqb (txn t s).awaited_lock k) _ (true_is f))),
    )
    go false f =
        absurd (false_is e (and_both (not (eqb (txn t s).awaited_lock no_lock)) _ (ne_make (txn t s).awaited_lock no_lock (awaits→ (txn t s) w))
        (not_make (eqb (txn t s).awaited_lock k && eqb (txn t s).awaited_item x) (λ h. false_is f h))))

-- ranks of those who await nothing do not rise
raised-idle : (x p : ℕ) (r : Txn) → r.awaited_lock ≡ no_lock → raised x p r ≡ r.rank
unfolding raised awaits_on awaits
raised-idle x p r e = rw (eq-eqb r.awaited_lock no_lock e)

-- who shares is in conflict with who wants exclusively
pub shared-conflicts : (h : Lock) (r : ℕ) → T (holds_shared h r) → T (conflicts h exclusive_lock r)
unfolding conflicts
shared-conflicts h r c = or_right (holds_exclusive h r) _ c

-- ---- a wait
module _
    (S : Sizes) (G : Tables) (g : Good S G) (s : ℕ) (inside : s < S.slots) (update : T (live_update (txn G.txns s)))
    (k x : ℕ) (some : k ≢ no_lock) (may : MayAwait S G s k x) (uncircled : Circle S G s k x → ⊥)
  where
    abbrev t : List ℕ
    t = G.txns

    abbrev l : List ℕ
    l = G.locks

    abbrev t' : List ℕ
    t' = noted S t l s k x

    -- it stands there already
    stood_good : T (awaits_on x (txn t s)) → Good S (with_txns G t')
    stood_good h = subst (λ (u : List ℕ). Good S (with_txns G u)) (sym (noted-known S t l s k x h)) g

    -- it comes into the line
    module _ (idle : T (awaits (txn t s)) → ⊥) where
      new : T (awaits_on x (txn t s)) → ⊥
      new h = idle (awaits_on→ x (txn t s) h).0

      here : txn t' s ≡ awaiting (txn t s) k x (rank_for S t l s x)
      here = noted_here S t l s k x new g.txns_exact inside

      there : (r : ℕ) → r < S.slots → r ≢ s → txn t' r ≡ with_rank (txn t r) (raised x (rank_for S t l s x) (txn t r))
      there = noted_there S t l s k x new g.txns_exact

      waits : (txn t' s).awaited_lock ≢ no_lock
      waits e = some (sym (ap (λ (w : Txn). w.awaited_lock) here) ∙ e)

      -- if it shares the item nobody waits to exchange: they would wait for each other
      alone : T (holds_shared (lock l x) s) → (b : ℕ) → b < S.slots → T (awaits_on x (txn t b) && holds_shared (lock l x) b) → ⊥
      alone h b i u = uncircled (more (one to) back)
        where
          w : T (awaits_on x (txn t b))
          w = and_left (awaits_on x (txn t b)) _ u

          shares : T (holds_shared (lock l x) b)
          shares = and_right (awaits_on x (txn t b)) _ u

          d : s ≢ b
          d e = idle (subst (λ (m : ℕ). T (awaits (txn t m))) (sym e) (awaits_on→ x (txn t b) w).0)

          -- both want it exclusively
          mine : k ≡ exclusive_lock
          mine = go (same? k shared_lock)
            where
              go : (k ≡ shared_lock) ⊎ (k ≢ shared_lock) → k ≡ exclusive_lock
              go (inl e) = absurd (may.shared e (unfold holds in (or_left (holds_shared (lock l x) s) _ h)))
              go (inr n) = let a = may.listed in omega arith

          its : (txn t b).awaited_lock ≡ exclusive_lock
          its = go (same? (txn t b).awaited_lock shared_lock)
            where
              go : ((txn t b).awaited_lock ≡ shared_lock) ⊎ ((txn t b).awaited_lock ≢ shared_lock) → (txn t b).awaited_lock ≡ exclusive_lock
              go (inl e) =
                  absurd ((g.txn_good b i).awaits_shared e
                  (subst (λ (y : ℕ). T (holds (lock l y) b)) (sym (awaits_on→ x (txn t b) w).1) (unfold holds in (or_left (holds_shared (lock l x) b) _ shares))))
              go (inr n) = let a = (g.txn_good b i).lock_listed in let c = awaits→ (txn t b) (awaits_on→ x (txn t b) w).0 in omega arith

          conflict : (r : ℕ) → T (holds_shared (lock l x) r) → T (conflicts (lock l x) exclusive_lock r)
          conflict r c = shared-conflicts (lock l x) r c

          to : T (waits_for t' l s b)
          to =
              →waits-for t' l s b waits d
              (inl (subst (λ (y : ℕ). T (conflicts (lock l y) (txn t' s).awaited_lock b)) (sym (ap (λ (w : Txn). w.awaited_item) here))
              (subst (λ (j : ℕ). T (conflicts (lock l x) j b)) (sym (ap (λ (w : Txn). w.awaited_lock) here ∙ mine)) (conflict b shares))))

          row : txn t' b ≡ with_rank (txn t b) (raised x (rank_for S t l s x) (txn t b))
          row = there b i (λ e. d (sym e))

          back : T (waits_for t' l b s)
          back =
              →waits-for t' l b s (λ e. awaits→ (txn t b) (awaits_on→ x (txn t b) w).0 (sym (ap (λ (w : Txn). w.awaited_lock) row) ∙ e)) (λ e. d (sym e))
              (inl (subst (λ (y : ℕ). T (conflicts (lock l y) (txn t' b).awaited_lock s)) (sym (ap (λ (w : Txn). w.awaited_item) row ∙ (awaits_on→ x (txn t b) w).1))
              (subst (λ (j : ℕ). T (conflicts (lock l x) j s)) (sym (ap (λ (w : Txn). w.awaited_lock) row ∙ its)) (conflict s h))))

      first : T (holds_shared (lock l x) s) → rank_for S t l s x ≡ 1
      unfolding exchangers_on
      first h = rank-shared S t l s x new h ∙ ap suc (count_none S.slots (λ b. awaits_on x (txn t b) && holds_shared (lock l x) b) (alone h))

      ranked : GoodRanks S t' l
      ranked =
          come_ranks S t t' l s x (rank_for S t l s x) inside there idle (→awaits (txn t' s) waits)
          (ap (λ (w : Txn). w.awaited_item) here) (ap (λ (w : Txn). w.rank) here) g.ranks_good (rank-least S t l s x new) (rank_most S t l s x new)
          (λ r i d w h. let a = first h in let b = g.ranks_good.least r i (awaits_on→ x (txn t r) w).0 in omega arith)
          (λ r i d w n. let a = rank-last S t l s x new n in let v = awaits_on→ x (txn t r) w in let b = subst (λ (y : ℕ). (txn t r).rank ≤ waiters_on S t y) v.1 (g.ranks_good.most r i v.0) in omega arith)

      came_good : Good S (with_txns G t')
      came_good =
          awaiting_good S G g s k x (rank_for S t l s x) inside update may t' (noted-length S t l s k x new ∙ g.txns_exact)
          (noted-last S t l s k x new) (noted-clock S t l s k x new) here (λ e. absurd (some e))
          (raised x (rank_for S t l s x)) there (raised-idle x (rank_for S t l s x)) ranked
          (new_no_circle S G g s k x inside (may.known some) some new idle uncircled)

    -- it awaits this, or nothing
    pub waited-good : (T (awaits (txn G.txns s)) → T (awaits_on x (txn G.txns s))) → Good S (with_txns G (noted S G.txns G.locks s k x))
    waited-good only = go (awaits (txn t s)) refl
      where
        go : (b : Bool) → awaits (txn t s) ≡ b → Good S (with_txns G t')
        go true e = stood_good (only (true_is e))
        go false e = came_good (false_is e)

-- ---- the clearing of a grant: the rows afterwards
module _ (S : Sizes) (t : List ℕ) (size : length t ≡ txn_words S) (s : ℕ) (inside : s < S.slots) where
  abbrev u : List ℕ
  u = closed_up S t s

  is : cleared S t s ≡ set_txn u s (awaiting (txn u s) no_lock 0 0)
  unfolding cleared
  is = set_awaited-row u s no_lock 0 0

  pub cleared-length : length (cleared S t s) ≡ length t
  cleared-length = ap length is ∙ length-set_txn u s (awaiting (txn u s) no_lock 0 0) ∙ closed-length S t s

  pub cleared-last : last_number (cleared S t s) ≡ last_number t
  cleared-last = ap last_number is ∙ last_number-set_txn u s (awaiting (txn u s) no_lock 0 0) ∙ closed-last S t s

  pub cleared-clock : clock (cleared S t s) ≡ clock t
  cleared-clock = ap clock is ∙ clock-set_txn u s (awaiting (txn u s) no_lock 0 0) ∙ closed-clock S t s

  pub cleared_here : txn (cleared S t s) s ≡ awaiting (txn t s) no_lock 0 0
  cleared_here =
      ap (λ (v : List ℕ). txn v s) is ∙ txn-set_txn u s (awaiting (txn u s) no_lock 0 0) S (closed-length S t s ∙ size) inside
      ∙ ap (λ (w : Txn). awaiting w no_lock 0 0) (closed-row S t s size s inside)

  pub cleared_there : (r : ℕ) → r < S.slots → r ≢ s → txn (cleared S t s) r ≡ with_rank (txn t r) (leaving t s (txn t r))
  cleared_there r i d =
      ap (λ (v : List ℕ). txn v r) is ∙ txn-set_txn-other u s (awaiting (txn u s) no_lock 0 0) r d ∙ closed-row S t s size r i

  pub cleared_as_closed : (r : ℕ) → r ≢ s → txn (cleared S t s) r ≡ txn (closed_up S t s) r
  cleared_as_closed r d = ap (λ (v : List ℕ). txn v r) is ∙ txn-set_txn-other u s (awaiting (txn u s) no_lock 0 0) r d

  -- what does not go by the awaited fields is as it was
  pub cleared-keeps :
      {A : Type 0} (h : Txn → A) → ((r : Txn) (k x p : ℕ) → h (awaiting r k x p) ≡ h r) → ((r : Txn) (p : ℕ) → h (with_rank r p) ≡ h r)
      → (r : ℕ) → r < S.slots → h (txn (cleared S t s) r) ≡ h (txn t r)
  cleared-keeps h a b r i = go (same? r s)
    where
      go : (r ≡ s) ⊎ (r ≢ s) → h (txn (cleared S t s) r) ≡ h (txn t r)
      go (inl e) = ap (λ (m : ℕ). h (txn (cleared S t s) m)) e ∙ ap h cleared_here ∙ a (txn t s) no_lock 0 0 ∙ ap (λ (m : ℕ). h (txn t m)) (sym e)
      go (inr d) = ap h (cleared_there r i d) ∙ b (txn t r) (leaving t s (txn t r))

  pub cleared-update : (r : ℕ) → r < S.slots → live_update (txn (cleared S t s) r) ≡ live_update (txn t r)
  unfolding live_update live
  cleared-update = cleared-keeps live_update (λ r k x p. refl) (λ r p. refl)

  pub cleared_holder : (r : ℕ) → r < S.slots → may_hold (txn (cleared S t s) r) ≡ may_hold (txn t r)
  unfolding may_hold live_update live_settled live
  cleared_holder = cleared-keeps may_hold (λ r k x p. refl) (λ r p. refl)

  pub cleared-idle : T (awaits (txn (cleared S t s) s)) → ⊥
  cleared-idle h = awaits→ (txn (cleared S t s) s) h (ap (λ (w : Txn). w.awaited_lock) cleared_here)

module _ (S : Sizes) (G : Tables) (g : Good S G) (s : ℕ) (inside : s < S.slots) (update : T (live_update (txn G.txns s))) where
  pub cleared-good : Good S (with_txns G (cleared S G.txns s))
  cleared-good =
      awaiting_good S G g s no_lock 0 0 inside update
      (record { listed = omega arith; known = λ d. absurd (d refl); none = λ e. refl; shared = λ e. absurd (omega arith); exclusive = λ e. absurd (omega arith); room = λ e. absurd (omega arith) })
      t' (cleared-length S t size s inside ∙ size) (cleared-last S t size s inside) (cleared-clock S t size s inside) (cleared_here S t size s inside) (λ e. refl)
      (leaving t s) (cleared_there S t size s inside) (leaving-idle t s)
      (left-ranks S t t' G.locks s inside (cleared_there S t size s inside) (cleared-idle S t size s inside) g.ranks_good G.locks (λ x r d. refl))
      (fewer_no_circle S G g t' G.locks
      (λ a b h. left-links S t t' G.locks s inside (cleared_there S t size s inside) (cleared-idle S t size s inside) g.ranks_good G.locks (cleared-length S t size s inside ∙ size) a b (λ w k c. c) h))
    where
      t : List ℕ
      t = G.txns

      size : length t ≡ txn_words S
      size = g.txns_exact

      t' : List ℕ
      t' = cleared S t s
