-- Links lead to slots, and where each of some slots leads to another of them there is a circle.
use Prim.Native.Nat.{ℕ, zero, suc, ◌^◌, ◌<◌}
use mathlib.Core.Path.{◌≡◌, refl, sym, subst}
use mathlib.Core.Logic.{◌≢◌, ◌⊎◌, inl, inr, ⊎_elim}
use mathlib.Core.Bool.{Bool, true, false, ◌&&◌, not}
use mathlib.Core.List.{List}
use native.Mathlib.Omega.{arith}
use native.Mathlib.Nat.{not-suc-le-zero}
use lib.ListN.{get_or, get_or-eq_default}
use lib.Dec.{T, eqb, ltb}
use borrow.Author.Tests.{ltb-true, ltb-false}
use Rattle.names.specs.Sizes.{base}
use Rattle.rules.specs.Waits.{Walk, one, more}
use Rattle.rules.proofs.Tests.{and_left, and_right, and_both, true_is, false_is, ne_make, ne_use, same?}
use Rattle.rules.proofs.Counts.{split-le}
use Rattle.rules.proofs.Bits.{bit_below}
use Rattle.rules.proofs.Walks.{join}
use Rattle.circles.specs.Links.{linked, LinkWords}

-- every word is one of slots, also past the last
pub word_small : {w : List ℕ} → LinkWords w → (a : ℕ) → get_or w a 0 < 2 ^ base.slots
word_small {w} g a = go (ltb a base.slots) refl
  where
    go : (c : Bool) → ltb a base.slots ≡ c → get_or w a 0 < 2 ^ base.slots
    go true e = g.small a (ltb-true a base.slots e)
    go false e =
        let l = ltb-false a base.slots e in
        let z : get_or w a 0 ≡ 0 = get_or-eq_default w 0 (let s = g.size in omega arith) in
        omega arith

-- who is waited for is a slot
pub link-within : {w : List ℕ} → LinkWords w → (a b : ℕ) → T (linked w a b) → b < base.slots
unfolding linked
link-within {w} g a b t = bit_below (get_or w a 0) b base.slots (word_small g a) t

-- each slot of p leads to a slot of p
abbrev pub Closed : (ℕ → ℕ → Bool) → (ℕ → Bool) → Type 0
Closed E p = (a : ℕ) → T (p a) → (b : ℕ) × T (p b) × Walk E a b

module _ {E : ℕ → ℕ → Bool} where
  -- the first step of a walk
  pub first_step : {a c : ℕ} → Walk E a c → (b : ℕ) × T (E a b) × ((b ≡ c) ⊎ Walk E b c)
  first_step (one {a} {b} e) = (b, e, inl refl)
  first_step (more {a} {b} {c} w e) = go (first_step w)
    where
      go : (x : ℕ) × T (E a x) × ((x ≡ b) ⊎ Walk E x b) → (x : ℕ) × T (E a x) × ((x ≡ c) ⊎ Walk E x c)
      go (x, t, inl q) = (x, t, inr (subst (λ (y : ℕ). Walk E y c) (sym q) (one e)))
      go (x, t, inr v) = (x, t, inr (more v e))

  -- a slot on a circle waits for a slot on a circle
  pub circle-next : {a : ℕ} → Walk E a a → (b : ℕ) × T (E a b) × Walk E b b
  circle-next {a} w = go (first_step w)
    where
      go : (b : ℕ) × T (E a b) × ((b ≡ a) ⊎ Walk E b a) → (b : ℕ) × T (E a b) × Walk E b b
      go (b, t, inl q) = (b, t, subst (λ (y : ℕ). Walk E y y) (sym q) w)
      go (b, t, inr v) = (b, t, more v t)

  -- where each of some slots below n leads to one of them there is a circle: by leaving out the highest, its walks joined to those
  -- that lead to it
  pub circle_of :
      (n : ℕ) (p : ℕ → Bool) → ((a : ℕ) → T (p a) → a < n) → Closed E p → (a : ℕ) → T (p a) → (c : ℕ) × Walk E c c
  circle_of zero p within next a t = absurd (not-suc-le-zero (within a t))
  circle_of (suc n) p within next a t = go (p n) refl (λ p w f a t. circle_of n p w f a t)
    where
      lower : (a : ℕ) → a < suc n → a ≢ n → a < n
      lower a l d = ⊎_elim (λ (h : a < n). h) (λ (q : a ≡ n). absurd (d q)) (split-le a n l)

      go :
          (c : Bool) → p n ≡ c
          → ((p : ℕ → Bool) → ((a : ℕ) → T (p a) → a < n) → Closed E p → (a : ℕ) → T (p a) → (c : ℕ) × Walk E c c)
          → (c : ℕ) × Walk E c c
      go false e rec =
          rec p (λ a t. lower a (within a t) (λ q. false_is e (subst (λ (x : ℕ). T (p x)) q t))) next a t
      go true e rec = out (next n (true_is e))
        where
          out : (b : ℕ) × T (p b) × Walk E n b → (c : ℕ) × Walk E c c
          out (b, u, w) =
              ⊎_elim (λ (q : b ≡ n). (n, subst (λ (x : ℕ). Walk E n x) q w))
              (λ (d : b ≢ n).
              rec (λ a. p a && not (eqb a n))
              (λ a t. lower a (within a (and_left (p a) (not (eqb a n)) t)) (ne_use a n (and_right (p a) (not (eqb a n)) t)))
              (λ a t. on d a (next a (and_left (p a) (not (eqb a n)) t))) b (but d))
              (same? b n)
            where
              but : b ≢ n → T (p b && not (eqb b n))
              but d = and_both (p b) (not (eqb b n)) u (ne_make b n d)

              on :
                  b ≢ n → (a : ℕ) → (c : ℕ) × T (p c) × Walk E a c → (c : ℕ) × T (p c && not (eqb c n)) × Walk E a c
              on d a (c, v, x) =
                  ⊎_elim (λ (q : c ≡ n). (b, but d, join (subst (λ (y : ℕ). Walk E a y) q x) w))
                  (λ (f : c ≢ n). (c, and_both (p c) (not (eqb c n)) v (ne_make c n f), x)) (same? c n)
