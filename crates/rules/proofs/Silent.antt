-- Request E6, the waits that change no word: they lead to smaller stamps, so with them too there is no circle of waits, and no set of
-- transactions waits on itself.
use Prim.Native.Nat.{ℕ, zero, suc, ◌≤◌, ◌<◌}
use mathlib.Core.Path.{◌≡◌, refl, sym, ◌∙◌, subst}
use mathlib.Core.Logic.{◌≢◌, ◌⊎◌, inl, inr}
use mathlib.Core.Bool.{Bool, true, false, ◌&&◌, not}
use mathlib.Core.List.{List, [], ◌∷◌}
use native.Mathlib.Omega.{arith}
use borrow.Author.Tests.{ltb-true, ltb-false}
use lib.ListN.{length, get_or-eq_default}
use lib.Dec.{T, eqb, ltb, eqb→eq, leb→le}
use Rattle.names.specs.declared.Sizes.{Sizes}
use Rattle.rules.specs.Words.{some_below, count_below}
use Rattle.rules.specs.Tables.{Tables, txn_words, lock_words, txn, live, live_update, live_settled, by_start, lock, holds_exclusive}
use Rattle.rules.specs.Waits.{waits_for, Walk, one, more, marked, reached}
use Rattle.rules.specs.Good.{Good}
use Rattle.rules.specs.Answers.{Call, code, Refusal}
use Rattle.rules.specs.Answers.{Wait, Deadlock, UnknownTransaction, UnknownItem, QueryMayNotWrite, StillWaiting, NoSlot, NumbersSpent, ClockSpent, BadTables, QuotaSpent, PastWriting, KeptApart}
use Rattle.rules.specs.Step.{holds_back}
use Rattle.rules.specs.Conditions.{ConflictIn, HeldBackIn, Circle, When, order, Answered}
use Rattle.rules.specs.Promises.{code_of, waits_silently, waits_at_all, ReaderWaits, Descends, SilentDescends, NoCircleAtAll, NoSetWaits}
use Rattle.rules.proofs.Tests.{and_left, and_right, and_both, or_cases, true_is, false_is, ne_use}
use Rattle.rules.proofs.Counts.{some_below→, →some_below}
use Rattle.rules.proofs.RowKinds.{settled-live, update_no_reader, start-reads, settled-starts, live-number}
use Rattle.rules.proofs.EqualRows.{holder}
use Rattle.rules.proofs.EqualRanks.{waiter_inside}
use Rattle.rules.proofs.Circles.{reached→walk, walk→reached}
use Rattle.rules.proofs.Lines.{count-more}
use Rattle.rules.proofs.Walks.{join, waits-for→, waits-within}
use Rattle.rules.proofs.Refused.{wait_good}
use Rattle.rules.proofs.Answered.{answered}
use Rattle.rules.proofs.Waiting.{one_caller}

-- ---- past the rows there is nothing
live_inside : (S : Sizes) (t : List ℕ) → length t ≡ txn_words S → (a : ℕ) → T (live (txn t a)) → a < S.slots
unfolding txn
live_inside S t size a h = go (ltb a S.slots) refl
  where
    go : (c : Bool) → ltb a S.slots ≡ c → a < S.slots
    go true e = ltb-true a S.slots e
    go false e = absurd (live-number (txn t a) h (get_or-eq_default t 0 (let k = ltb-false a S.slots e in omega arith)))

held-inside : (S : Sizes) (l : List ℕ) → length l ≡ lock_words S → (x b : ℕ) → T (holds_exclusive (lock l x) b) → x < S.items
unfolding lock holds_exclusive
held-inside S l size x b h = go (ltb x S.items) refl
  where
    go : (c : Bool) → ltb x S.items ≡ c → x < S.items
    go true e = ltb-true x S.items e
    go false e =
        absurd (let k = ltb-false x S.items e in let z = eqb→eq (lock l x).exclusive (suc b) h in
        let none : (lock l x).exclusive ≡ 0 = get_or-eq_default l 0 (omega arith) in omega arith)

-- ---- these waits, taken apart
module _ (t l : List ℕ) (x a b : ℕ) where
  back→ :
      T (holds_back t l x a b)
      → (a ≢ b) × T (holds_exclusive (lock l x) b) × T (live_settled (txn t b)) × ((txn t b).start ≤ (txn t a).start)
  unfolding holds_back
  back→ h =
      let h₁ = and_right (not (eqb a b)) _ h in
      let h₂ = and_right (holds_exclusive (lock l x) b) _ h₁ in (
        ne_use a b (and_left (not (eqb a b)) _ h),
        and_left (holds_exclusive (lock l x) b) _ h₁,
        and_left (live_settled (txn t b)) _ h₂,
        leb→le (txn t b).start (txn t a).start (and_right (live_settled (txn t b)) _ h₂),
      )

module _ (S : Sizes) (G : Tables) (a b : ℕ) where
  silent→ : T (waits_silently S G a b) → (x : ℕ) × T (by_start (txn G.txns a)) × T (holds_back G.txns G.locks x a b)
  unfolding waits_silently
  silent→ h =
      let w = some_below→ S.items (λ x. holds_back G.txns G.locks x a b) (and_right (by_start (txn G.txns a)) _ h) in
      (w.0, and_left (by_start (txn G.txns a)) _ h, w.2)

  →silent : (x : ℕ) → x < S.items → T (by_start (txn G.txns a)) → T (holds_back G.txns G.locks x a b) → T (waits_silently S G a b)
  unfolding waits_silently
  →silent x i r h =
      and_both (by_start (txn G.txns a)) _ r (→some_below S.items (λ x. holds_back G.txns G.locks x a b) x i h)

  at-all→ : T (waits_at_all S G a b) → T (waits_for G.txns G.locks a b) ⊎ T (waits_silently S G a b)
  unfolding waits_at_all
  at-all→ h = or_cases (waits_for G.txns G.locks a b) _ h

-- ---- who is answered 1
-- a call that is answered 1 is in a conflict, or its caller is held back
waits_when : (S : Sizes) (c : Call) (G : Tables) (rs : List Refusal) (k : ℕ) → Answered S c G rs k → k ≡ code Wait → When S c G Wait
unfolding Answered
waits_when S c G [] k p e = absurd (omega arith)
waits_when S c G (r ∷ rs) k (inl p) e = it r p.0 (sym p.1 ∙ e)
  where
    it : (r : Refusal) → When S c G r → code r ≡ code Wait → When S c G Wait
    it Wait w q = w
    it Deadlock w q = absurd (omega arith)
    it UnknownTransaction w q = absurd (omega arith)
    it UnknownItem w q = absurd (omega arith)
    it QueryMayNotWrite w q = absurd (omega arith)
    it StillWaiting w q = absurd (omega arith)
    it NoSlot w q = absurd (omega arith)
    it NumbersSpent w q = absurd (omega arith)
    it ClockSpent w q = absurd (omega arith)
    it BadTables w q = absurd (omega arith)
    it QuotaSpent w q = absurd (omega arith)
    it PastWriting w q = absurd (omega arith)
    it KeptApart w q = absurd (omega arith)
waits_when S c G (r ∷ rs) k (inr p) e = waits_when S c G rs k p.1 e

pub reader-waits : (S : Sizes) → ReaderWaits S
unfolding When
reader-waits S c G s e C reader = go (waits_when S c G (order c) (code_of S c G) (answered S c G) e)
  where
    g : Good S G
    g = wait_good S c G e

    go :
        ((r : ℕ) × (k : ℕ) × (x : ℕ) × ConflictIn c S G r k x × (Circle S G r k x → ⊥)) ⊎ ((r : ℕ) × (x : ℕ) × HeldBackIn c S G r x)
        → (b : ℕ) × T (waits_silently S G s b)
    go (inl w) =
        let K = w.3 in
        let up = subst (λ (r : ℕ). T (live_update (txn G.txns r))) (one_caller S G g c w.0 s K.caller C) K.update in
        absurd (update_no_reader (txn G.txns s) up (start-reads (txn G.txns s) reader))
    go (inr w) =
        let K = w.2 in
        let b = K.other in
        let h = subst (λ (r : ℕ). T (holds_back G.txns G.locks w.1 r b)) (one_caller S G g c w.0 s K.caller C) K.other_holds in
        (b, →silent S G s b w.1 (held-inside S G.locks g.locks_exact w.1 b (back→ G.txns G.locks w.1 s b h).1) reader h)

-- ---- where these waits lead
module _ (S : Sizes) (G : Tables) (g : Good S G) where
  abbrev t : List ℕ
  t = G.txns

  abbrev l : List ℕ
  l = G.locks

  abbrev past : ℕ → Type 0
  past b = T (live_settled (txn t b))

  abbrev stamp : ℕ → ℕ
  stamp b = (txn t b).start

  abbrev E : ℕ → ℕ → Bool
  E = waits_at_all S G

  past-inside : (b : ℕ) → past b → b < S.slots
  past-inside b h = live_inside S t g.txns_exact b (settled-live (txn t b) h).0

  -- nothing is noted of a reader
  unnoted : (a c : ℕ) → T (by_start (txn t a)) → T (waits_for t l a c) → ⊥
  unnoted a c r w =
      let d = (waits-for→ t l a c w).0 in
      d ((g.txn_good a (waiter_inside S t g.txns_exact a d)).reader_idle (start-reads (txn t a) r))

  descends : (a b : ℕ) → T (waits_silently S G a b) → Descends G a b
  descends a b h =
      let p = silent→ S G a b h in
      let q = back→ t l p.0 a b p.2 in
      record {
        nothing_noted = λ c w. unnoted a c p.1 w;
        past = q.2;
        at_most = q.3;
        smaller = λ s.
            let d = g.settled_good.apart a b (past-inside a s) (past-inside b q.2) q.0 s q.2 in
            let k = q.3 in
            omega arith;
      }

  -- ---- no circle
  -- from one past its writing all waits are silent, so all walks lead to such ones, and down
  link_down : (a b : ℕ) → past a → T (E a b) → past b × (stamp b < stamp a)
  link_down a b s h = go (at-all→ S G a b h)
    where
      go : T (waits_for t l a b) ⊎ T (waits_silently S G a b) → past b × (stamp b < stamp a)
      go (inl w) = absurd (unnoted a b (settled-starts (txn t a) s) w)
      go (inr w) = let d = descends a b w in (d.past, d.smaller s)

  walk_down : {a b : ℕ} → Walk E a b → past a → past b × (stamp b < stamp a)
  walk_down (one {a} {b} e) s = link_down a b s e
  walk_down (more {a} {b} {c} w e) s =
      let p = walk_down w s in
      let q = link_down b c p.0 e in
      (q.0, let u = p.1 in let v = q.1 in omega arith)

  -- a walk that does not end at one past its writing has noted waits alone
  noted_or_past : {a b : ℕ} → Walk E a b → Walk (waits_for t l) a b ⊎ past b
  noted_or_past (one {a} {b} e) = go (at-all→ S G a b e)
    where
      go : T (waits_for t l a b) ⊎ T (waits_silently S G a b) → Walk (waits_for t l) a b ⊎ past b
      go (inl w) = inl (one w)
      go (inr w) = inr (descends a b w).past
  noted_or_past (more {a} {b} {c} w e) = go (noted_or_past w) (at-all→ S G b c e)
    where
      go : Walk (waits_for t l) a b ⊎ past b → T (waits_for t l b c) ⊎ T (waits_silently S G b c) → Walk (waits_for t l) a c ⊎ past c
      go (inl v) (inl h) = inl (more v h)
      go (inr s) (inl h) = inr (link_down b c s e).0
      go o (inr h) = inr (descends b c h).past

  acyclic : (s : ℕ) → Walk E s s → ⊥
  acyclic s w = go (noted_or_past w)
    where
      go : Walk (waits_for t l) s s ⊎ past s → ⊥
      go (inl v) = g.no_circle s v
      go (inr p) = let k = (walk_down w p).1 in omega arith

  -- who is waited for is a slot
  within : (a b : ℕ) → T (E a b) → b < S.slots
  within a b h = go (at-all→ S G a b h)
    where
      go : T (waits_for t l a b) ⊎ T (waits_silently S G a b) → b < S.slots
      go (inl w) =
          waits-within S t l g.txns_exact (λ s i. (g.txn_good s i).item_known) (λ x i c h. (holder S t (lock l x) (g.lock_good x i) c h).0) a b w
      go (inr w) = past-inside b (descends a b w).past

pub silent_descends : (S : Sizes) → SilentDescends S
silent_descends S G a b g h = descends S G g a b h

pub no_circle_at_all : (S : Sizes) → NoCircleAtAll S
no_circle_at_all S G s g w = acyclic S G g s w

-- ---- where the links have no circle, each set has a member from which none leads into the set: along a link ever fewer are reached
module _ (n : ℕ) (E : ℕ → ℕ → Bool) (inside : (a b : ℕ) → T (E a b) → b < n) (none : (s : ℕ) → Walk E s s → ⊥) (among : ℕ → Bool) where
  ahead : ℕ → ℕ
  ahead a = count_below n (marked (reached n E a))

  fewer : (a b : ℕ) → T (E a b) → ahead b < ahead a
  unfolding ahead
  fewer a b h =
      count-more n (marked (reached n E a)) (marked (reached n E b)) b (inside a b h) (walk→reached n E inside (one h))
      (λ u. none b (reached→walk n E b b (inside a b h) u))
      (λ c k u. walk→reached n E inside (join (one h) (reached→walk n E b c k u)))

  last : (k a : ℕ) → ahead a ≤ k → T (among a) → (c : ℕ) × T (among c) × ((b : ℕ) → T (among b) → T (E c b) → ⊥)
  last zero a h u = (a, u, λ b v e. let f = fewer a b e in omega arith)
  last (suc k) a h u = go (some_below n next) refl (λ b v e. last k b (let f = fewer a b e in omega arith) v)
    where
      next : ℕ → Bool
      next b = among b && E a b

      go :
          (z : Bool) → some_below n next ≡ z
          → ((b : ℕ) → T (among b) → T (E a b) → (c : ℕ) × T (among c) × ((b : ℕ) → T (among b) → T (E c b) → ⊥))
          → (c : ℕ) × T (among c) × ((b : ℕ) → T (among b) → T (E c b) → ⊥)
      go true q f = let r = some_below→ n next (true_is q) in f r.0 (and_left (among r.0) _ r.2) (and_right (among r.0) _ r.2)
      go false q f = (a, u, λ b v e. false_is q (→some_below n next b (inside a b e) (and_both (among b) _ v e)))

  pub set_last : (s : ℕ) → T (among s) → (a : ℕ) × T (among a) × ((b : ℕ) → T (among b) → T (E a b) → ⊥)
  set_last s h = last (ahead s) s (omega arith) h

pub no_set_waits : (S : Sizes) → NoSetWaits S
no_set_waits S G among s g h = set_last S.slots (waits_at_all S G) (within S G g) (acyclic S G g) among s h
