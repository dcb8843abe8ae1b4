-- Peeling: what one slot peeled, a turn over all slots, and the end say of circles.
use Prim.Native.Nat.{ℕ, ◌^◌, ◌≤◌, ◌<◌}
use mathlib.Core.Path.{◌≡◌, refl, sym, ap, ◌∙◌, subst}
use mathlib.Core.Logic.{◌≢◌, ◌⊎◌, ⊎_elim, ◌↔◌}
use mathlib.Core.Bool.{Bool, true, false, ◌&&◌, not, cond}
use mathlib.Core.List.{List}
use native.Mathlib.Omega.{arith}
use lib.ListN.{get_or}
use lib.Bits.{bit_and, bit_xor, and_le_r}
use lib.Dec.{T, eqb}
use borrow.Author.Tests.{eq-eqb, eqb-true}
use Rattle.names.specs.Sizes.{base}
use Rattle.rules.specs.Words.{bit}
use Rattle.rules.specs.Waits.{Walk, one}
use Rattle.rules.proofs.Tests.{and_left, and_right, and_both, not_make}
use Rattle.rules.proofs.Bits.{bit_below}
use Rattle.circles.specs.Links.{linked, Waiting, NoCircle}
use Rattle.circles.specs.Peel.{peeled, Keeps, Swept}
use Rattle.words.proofs.SlotWords.{and_at, sans_at, no_bit, has_bit, alone-only, sans_lt, sans_le}
use Rattle.circles.proofs.Within.{circle-next, circle_of}

-- ---- one slot
peel_le : (w : List ℕ) (m a : ℕ) → peeled w m a ≤ m
unfolding peeled
peel_le w m a = go (eqb (bit_and (get_or w a 0) m) 0)
  where
    go : (c : Bool) → cond c (bit_xor m (bit_and m (2 ^ a))) m ≤ m
    go true = sans_le m a
    go false = omega arith

-- who is on a circle waits for one who is, and so stays
peel_keeps : (w : List ℕ) (m a : ℕ) → Keeps w m → Keeps w (peeled w m a)
unfolding Keeps peeled linked
peel_keeps w m a k b v = go (eqb (bit_and (get_or w a 0) m) 0) refl
  where
    go : (c : Bool) → eqb (bit_and (get_or w a 0) m) 0 ≡ c → T (bit (cond c (bit_xor m (bit_and m (2 ^ a))) m) b)
    go false e = k b v
    go true e =
        subst T (sym (sans_at m (2 ^ a) b))
        (and_both (bit m b) (not (bit (2 ^ a) b)) (k b v)
        (not_make (bit (2 ^ a) b) (λ t.
        let n = circle-next v in
        let c = n.0 in
        let x : T (bit (get_or w a 0) c) = subst (λ (s : ℕ). T (bit (get_or w s 0) c)) (alone-only a b t) n.1 in
        let y : T (bit (bit_and (get_or w a 0) m) c) =
        subst T (sym (and_at (get_or w a 0) m c)) (and_both (bit (get_or w a 0) c) (bit m c) x (k c n.2)) in
        no_bit c (subst (λ (h : ℕ). T (bit h c)) (eqb-true (bit_and (get_or w a 0) m) 0 e) y))))

-- nothing went: the slot waits for one of those left
peel_stuck :
    (w : List ℕ) (left m a : ℕ) → m ≤ left → peeled w m a ≡ left
    → (m ≡ left) × (T (bit left a) → bit_and (get_or w a 0) left ≡ 0 → ⊥)
unfolding peeled
peel_stuck w left m a l q = (same, λ t n. bad t n)
  where
    same : m ≡ left
    same = let c = peel_le w m a in omega arith

    bad : T (bit left a) → bit_and (get_or w a 0) left ≡ 0 → ⊥
    bad t n =
        let e : eqb (bit_and (get_or w a 0) left) 0 ≡ true = eq-eqb (bit_and (get_or w a 0) left) 0 n in
        let b : peeled w left a ≡ bit_xor left (bit_and left (2 ^ a)) =
        ap (λ (c : Bool). cond c (bit_xor left (bit_and left (2 ^ a))) left) e in
        let c : peeled w m a ≡ peeled w left a = ap (λ (x : ℕ). peeled w x a) same in
        let d = sans_lt left a t in
        omega arith

-- ---- a turn: `seen` says which slots were peeled so far
pub record Sweeping (w : List ℕ) (left m : ℕ) (seen : ℕ → Type 0) : Type 0 where
  pub less : m ≤ left
  pub keeps : Keeps w left → Keeps w m
  pub stuck : m ≡ left → (a : ℕ) → seen a → T (bit left a) → bit_and (get_or w a 0) left ≡ 0 → ⊥

module _ (w : List ℕ) (left : ℕ) (seen : ℕ → Type 0) where
  pub sweep_end : (m : ℕ) → ((a : ℕ) → a < base.slots → seen a) → Sweeping w left m seen → Swept w left m
  sweep_end m f s = record { less = s.less; keeps = s.keeps; stuck = λ q a l t z. s.stuck q a (f a l) t z }

  pub sweep_step :
      (m a : ℕ) (more : ℕ → Type 0) → ((b : ℕ) → more b → (b ≡ a) ⊎ seen b) → Sweeping w left m seen
      → {r : ℕ} → r ≡ peeled w m a → Sweeping w left r more
  sweep_step m a more d s {r} e =
      subst (λ (x : ℕ). Sweeping w left x more) (sym e)
      (record {
        less = let c = peel_le w m a in let l = s.less in omega arith;
        keeps = λ k. peel_keeps w m a (s.keeps k);
        stuck = λ q b h t n.
            let c = peel_stuck w left m a s.less q in
            ⊎_elim (λ (x : b ≡ a).
            c.1 (subst (λ (y : ℕ). T (bit left y)) x t) (ap (λ (y : ℕ). bit_and (get_or w y 0) left) (sym x) ∙ n))
            (λ x. s.stuck c.0 b x t n) (d b h);
      })

-- ---- the beginning and the ends
pub all_kept : (w : List ℕ) (waiting : ℕ) → Waiting w waiting → Keeps w waiting
unfolding Keeps
all_kept w waiting g a v = let n = circle-next v in g.all a n.0 n.1

-- nothing is left: no circle
pub nothing_left : (w : List ℕ) (left : ℕ) → Keeps w left → left ≡ 0 → T true ↔ NoCircle w
unfolding NoCircle Keeps
nothing_left w left k z = (λ _ a v. no_bit a (subst (λ (m : ℕ). T (bit m a)) z (k a v)), λ _. tt)

-- something is left and nothing can be peeled: a circle
pub something_left :
    (w : List ℕ) (left : ℕ) → left < 2 ^ base.slots → left ≢ 0
    → ((a : ℕ) → a < base.slots → T (bit left a) → bit_and (get_or w a 0) left ≡ 0 → ⊥)
    → T false ↔ NoCircle w
unfolding NoCircle linked
something_left w left h n f = (λ x. absurd x, λ none. none circle.0 circle.1)
  where
    next : (a : ℕ) → T (bit left a) → (b : ℕ) × T (bit left b) × Walk (linked w) a b
    next a t =
        let l : bit_and (get_or w a 0) left < 2 ^ base.slots = (let y = and_le_r (get_or w a 0) left in omega arith) in
        let x = has_bit base.slots (bit_and (get_or w a 0) left) l (f a (bit_below left a base.slots h t) t) in
        let b = x.0 in
        let u : T (bit (get_or w a 0) b && bit left b) = subst T (and_at (get_or w a 0) left b) x.2 in
        (b, and_right (bit (get_or w a 0) b) (bit left b) u, one (and_left (bit (get_or w a 0) b) (bit left b) u))

    circle : (c : ℕ) × Walk (linked w) c c
    circle =
        let s = has_bit base.slots left h n in
        circle_of {E = linked w} base.slots (bit left) (λ a t. bit_below left a base.slots h t) next s.0 s.2
