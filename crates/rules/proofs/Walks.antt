-- Walks: what new links do to circles, and the computed circles of the tables are the walks.
use Prim.Native.Nat.{ℕ, ◌<◌}
use mathlib.Core.Path.{◌≡◌, refl, subst}
use mathlib.Core.Logic.{◌≢◌, ◌⊎◌, inl, inr}
use mathlib.Core.Bool.{Bool, true, false, ◌&&◌, ◌||◌, not}
use mathlib.Core.List.{List}
use lib.ListN.{length}
use lib.Dec.{T, eqb, ltb, eqb→eq, ltb→lt, lt→ltb}
use Rattle.names.specs.declared.Sizes.{Sizes}
use Rattle.rules.specs.Tables.{Txn, txn, txn_words, no_lock, exclusive_lock, Lock, lock, holds, holds_shared, holds_exclusive}
use Rattle.rules.specs.Waits.{awaits, awaits_on, conflicts, ahead, blocks, waits_for, Walk, one, more, marked, reached, circle_at, no_circle}
use Rattle.rules.proofs.Tests.{and_left, and_right, and_both, or_cases, or_left, or_right}
use Rattle.rules.proofs.Tests.{not_make, not_use, ne_make, ne_use, eq_make, same?}
use Rattle.rules.proofs.Counts.{every_below→, →every_below}
use Rattle.rules.proofs.EqualRanks.{awaits→, →awaits, awaits_on→, waiter_inside}
use Rattle.rules.proofs.Circles.{reached→walk, walk→reached, walk_within}

-- ---- walks, whatever the links are
pub join : {E : ℕ → ℕ → Bool} {a b c : ℕ} → Walk E a b → Walk E b c → Walk E a c
join w (one e) = more w e
join w (more v e) = more (join w v) e

-- more links, more walks
pub walk_map : {E F : ℕ → ℕ → Bool} → ((a b : ℕ) → T (E a b) → T (F a b)) → {a b : ℕ} → Walk E a b → Walk F a b
walk_map f (one {a} {b} e) = one (f a b e)
walk_map f (more {a} {b} {c} w e) = more (walk_map f w) (f b c e)

-- a link of F that neither leads from s nor to s is a link of E
module _ (E F : ℕ → ℕ → Bool) (s : ℕ) (same : (a b : ℕ) → a ≢ s → b ≢ s → T (F a b) → T (E a b)) where
  -- a walk along F avoids s, or meets it
  abbrev Meets : ℕ → ℕ → Type 0
  Meets a b = ((a ≡ s) ⊎ Walk F a s) × ((b ≡ s) ⊎ Walk F s b)

  through : {a b : ℕ} → Walk F a b → Walk E a b ⊎ Meets a b
  through (one {a} {b} e) = go (same? a s) (same? b s)
    where
      go : (a ≡ s) ⊎ (a ≢ s) → (b ≡ s) ⊎ (b ≢ s) → Walk E a b ⊎ Meets a b
      go (inl q) o = inr (inl q, inr (one (subst (λ (x : ℕ). T (F x b)) q e)))
      go (inr d) (inl q) = inr (inr (one (subst (λ (x : ℕ). T (F a x)) q e)), inl q)
      go (inr d) (inr f) = inl (one (same a b d f e))
  through (more {a} {b} {c} w e) = go (same? b s) (same? c s) (through w)
    where
      on : (b ≡ s) ⊎ Walk F s b → Walk F s c
      on (inl q) = one (subst (λ (x : ℕ). T (F x c)) q e)
      on (inr v) = more v e

      go : (b ≡ s) ⊎ (b ≢ s) → (c ≡ s) ⊎ (c ≢ s) → Walk E a b ⊎ Meets a b → Walk E a c ⊎ Meets a c
      go o p (inr y) = inr (y.0, inr (on y.1))
      go (inl q) p (inl v) = inr (inr (subst (λ (x : ℕ). Walk F a x) q w), inr (on (inl q)))
      go (inr d) (inl q) (inl v) = inr (inr (subst (λ (x : ℕ). Walk F a x) q (more w e)), inl q)
      go (inr d) (inr f) (inl v) = inl (more v (same b c d f e))

  -- a circle of F is one of E, or one can walk along F from s back to s
  pub circle_through : {a : ℕ} → Walk F a a → Walk E a a ⊎ Walk F s s
  circle_through {a} w = go (through w)
    where
      here : a ≡ s → Walk F s s
      here q = subst (λ (x : ℕ). Walk F x x) q w

      go : Walk E a a ⊎ Meets a a → Walk E a a ⊎ Walk F s s
      go (inl v) = inl v
      go (inr (inl q, o)) = inr (here q)
      go (inr (inr u, inl q)) = inr (here q)
      go (inr (inr u, inr v)) = inr (join v u)

-- in F nothing leads on from s, and a link of F that does not lead to s is a link of E
module _ (E F : ℕ → ℕ → Bool) (s : ℕ) (stop : (b : ℕ) → T (F s b) → ⊥) (sub : (a b : ℕ) → b ≢ s → T (F a b) → T (E a b)) where
  avoid : {a b : ℕ} → Walk F a b → b ≢ s → Walk E a b
  avoid (one {a} {b} e) d = one (sub a b d e)
  avoid (more {a} {b} {c} w e) d = more (avoid w (λ q. stop c (subst (λ (m : ℕ). T (F m c)) q e))) (sub b c d e)

  starts_off : {a b : ℕ} → Walk F a b → a ≢ s
  starts_off (one {a} {b} e) q = stop b (subst (λ (m : ℕ). T (F m b)) q e)
  starts_off (more w e) q = starts_off w q

  -- a circle of F is a circle of E
  pub sink : {a : ℕ} → Walk F a a → Walk E a a
  sink w = avoid w (starts_off w)

-- ---- who waits for whom, taken apart
-- who is in conflict holds the lock
pub conflicts→holds : (h : Lock) (k b : ℕ) → T (conflicts h k b) → T (holds h b)
unfolding conflicts holds
conflicts→holds h k b u = go (or_cases (holds_exclusive h b) (eqb k exclusive_lock && holds_shared h b) u)
  where
    go : T (holds_exclusive h b) ⊎ T (eqb k exclusive_lock && holds_shared h b) → T (holds_shared h b || holds_exclusive h b)
    go (inl e) = or_right (holds_shared h b) (holds_exclusive h b) e
    go (inr e) = or_left (holds_shared h b) (holds_exclusive h b) (and_right (eqb k exclusive_lock) (holds_shared h b) e)

-- an earlier waiter, taken apart
module _ (x k p : ℕ) (r : Txn) where
  pub ahead→ : T (ahead x k p r) → T (awaits_on x r) × (r.rank < p) × ((k ≡ exclusive_lock) ⊎ (r.awaited_lock ≡ exclusive_lock))
  unfolding ahead
  ahead→ u =
      let v = and_right (awaits_on x r) _ u in (
        and_left (awaits_on x r) _ u,
        ltb→lt r.rank p (and_left (ltb r.rank p) _ v),
        go (or_cases (eqb k exclusive_lock) _ (and_right (ltb r.rank p) _ v)),
      )
    where
      go : T (eqb k exclusive_lock) ⊎ T (eqb r.awaited_lock exclusive_lock) → (k ≡ exclusive_lock) ⊎ (r.awaited_lock ≡ exclusive_lock)
      go (inl e) = inl (eqb→eq k exclusive_lock e)
      go (inr e) = inr (eqb→eq r.awaited_lock exclusive_lock e)

  pub →ahead : T (awaits_on x r) → r.rank < p → (k ≡ exclusive_lock) ⊎ (r.awaited_lock ≡ exclusive_lock) → T (ahead x k p r)
  unfolding ahead
  →ahead w h o = and_both (awaits_on x r) _ w (and_both (ltb r.rank p) _ (lt→ltb r.rank p h) (go o))
    where
      go : (k ≡ exclusive_lock) ⊎ (r.awaited_lock ≡ exclusive_lock) → T (eqb k exclusive_lock || eqb r.awaited_lock exclusive_lock)
      go (inl e) = or_left (eqb k exclusive_lock) _ (eq_make k exclusive_lock e)
      go (inr e) = or_right (eqb k exclusive_lock) _ (eq_make r.awaited_lock exclusive_lock e)

module _ (t l : List ℕ) (k x p s b : ℕ) where
  -- who blocks is another: a holder in conflict, or an earlier waiter
  abbrev pub Blocks : Type 0
  Blocks = T (conflicts (lock l x) k b) ⊎ T (ahead x k p (txn t b))

  pub blocks→ : T (blocks t l k x p s b) → (s ≢ b) × (T (conflicts (lock l x) k b) ⊎ T (ahead x k p (txn t b)))
  unfolding blocks
  blocks→ u = (ne_use s b (and_left (not (eqb s b)) _ u), or_cases (conflicts (lock l x) k b) _ (and_right (not (eqb s b)) _ u))

  pub →blocks : s ≢ b → T (conflicts (lock l x) k b) ⊎ T (ahead x k p (txn t b)) → T (blocks t l k x p s b)
  unfolding blocks
  →blocks d o = and_both (not (eqb s b)) _ (ne_make s b d) (go o)
    where
      go : T (conflicts (lock l x) k b) ⊎ T (ahead x k p (txn t b)) → T (conflicts (lock l x) k b || ahead x k p (txn t b))
      go (inl c) = or_left (conflicts (lock l x) k b) _ c
      go (inr c) = or_right (conflicts (lock l x) k b) _ c

module _ (t l : List ℕ) (a b : ℕ) where
  pub waits-for→ :
      T (waits_for t l a b)
      → ((txn t a).awaited_lock ≢ no_lock) × (a ≢ b)
      × (T (conflicts (lock l (txn t a).awaited_item) (txn t a).awaited_lock b)
      ⊎ T (ahead (txn t a).awaited_item (txn t a).awaited_lock (txn t a).rank (txn t b)))
  unfolding waits_for
  waits-for→ u =
      let v = blocks→ t l (txn t a).awaited_lock (txn t a).awaited_item (txn t a).rank a b (and_right (awaits (txn t a)) _ u) in
      (awaits→ (txn t a) (and_left (awaits (txn t a)) _ u), v.0, v.1)

  pub →waits-for :
      (txn t a).awaited_lock ≢ no_lock → a ≢ b
      → T (conflicts (lock l (txn t a).awaited_item) (txn t a).awaited_lock b)
      ⊎ T (ahead (txn t a).awaited_item (txn t a).awaited_lock (txn t a).rank (txn t b))
      → T (waits_for t l a b)
  unfolding waits_for
  →waits-for w d c =
      and_both (awaits (txn t a)) _ (→awaits (txn t a) w)
      (→blocks t l (txn t a).awaited_lock (txn t a).awaited_item (txn t a).rank a b d c)

-- ---- the waits of tables whose waiters await items and whose holders are slots
module _ (S : Sizes) (t l : List ℕ) (size : length t ≡ txn_words S)
    (item_known : (s : ℕ) → s < S.slots → (txn t s).awaited_lock ≢ no_lock → (txn t s).awaited_item < S.items)
    (inside : (x : ℕ) → x < S.items → (b : ℕ) → T (holds (lock l x) b) → b < S.slots) where
  -- who waits is a slot
  pub waiter_within : (a : ℕ) → (txn t a).awaited_lock ≢ no_lock → a < S.slots
  waiter_within = waiter_inside S t size

  -- who is waited for is a slot
  pub waits-within : (a b : ℕ) → T (waits_for t l a b) → b < S.slots
  waits-within a b u =
      let p = waits-for→ t l a b u in
      let i = item_known a (waiter_within a p.0) p.0 in
      go i p.2
    where
      x : ℕ
      x = (txn t a).awaited_item

      k : ℕ
      k = (txn t a).awaited_lock

      go : x < S.items → T (conflicts (lock l x) k b) ⊎ T (ahead x k (txn t a).rank (txn t b)) → b < S.slots
      go i (inl c) = inside x i b (conflicts→holds (lock l x) k b c)
      go i (inr c) = waiter_within b (awaits→ (txn t b) (awaits_on→ x (txn t b) (ahead→ x k (txn t a).rank (txn t b) c).0).0)

  -- a walk begins at one who waits
  begins : {a b : ℕ} → Walk (waits_for t l) a b → (txn t a).awaited_lock ≢ no_lock
  begins (one {a} {b} e) = (waits-for→ t l a b e).0
  begins (more w e) = begins w

  -- the computed circle is a walk, and the other way round
  pub circle→walk : (a : ℕ) → T (circle_at S t l a) → Walk (waits_for t l) a a
  unfolding circle_at
  circle→walk a u =
      let m = marked (reached S.slots (waits_for t l) a) a in
      let i = waiter_within a (awaits→ (txn t a) (and_left (awaits (txn t a)) m u)) in
      reached→walk S.slots (waits_for t l) a a i (and_right (awaits (txn t a)) m u)

  pub walk→circle : (a : ℕ) → Walk (waits_for t l) a a → T (circle_at S t l a)
  unfolding circle_at
  walk→circle a w =
      and_both (awaits (txn t a)) _ (→awaits (txn t a) (begins w))
      (walk→reached S.slots (waits_for t l) waits-within w)

  -- so is their absence
  pub no-circle→ : T (no_circle S t l) → (a : ℕ) → Walk (waits_for t l) a a → ⊥
  unfolding no_circle
  no-circle→ h a w =
      not_use (circle_at S t l a)
      (every_below→ S.slots (λ a. not (circle_at S t l a)) h a (walk_within S.slots (waits_for t l) waits-within w))
      (walk→circle a w)

  pub →no-circle : ((a : ℕ) → Walk (waits_for t l) a a → ⊥) → T (no_circle S t l)
  unfolding no_circle
  →no-circle f =
      →every_below S.slots (λ a. not (circle_at S t l a)) (λ a i. not_make (circle_at S t l a) (λ u. f a (circle→walk a u)))
