-- Wherever there is a mixed circle, one closes at some piece: around the circle a siblings' link is somewhere followed by a conflict,
-- and the rest of the circle is a way from the conflicting piece to the sibling that avoids the piece between.
use Prim.Native.Nat.{ℕ, zero, suc, ◌+◌, ◌-◌, ◌%◌, ◌≤◌, ◌<◌}
use mathlib.Core.Path.{◌≡◌, refl, sym, ap, ap₂, ◌∙◌, subst}
use mathlib.Core.Logic.{◌≢◌, ◌⊎◌, inl, inr}
use mathlib.Core.Bool.{Bool, true, false}
use mathlib.Core.List.{List}
use native.Mathlib.Omega.{arith}
use native.Mathlib.Nat.{mod-lt, mod-eq_of_lt}
use lib.ListN.{length, get_or}
use lib.Dec.{T}
use Rattle.rules.proofs.Tests.{or_cases, is_true, is_false, true_is, false_is}
use Rattle.graph.specs.Ways.{Way, here, link}
use Rattle.chop.specs.Pieces.{Piece, most, siblings, conflict, joins}
use Rattle.chop.specs.Circles.{Circle, at, after}
use Rattle.chop.specs.Judgement.{links_of, others, closing}
use Rattle.chop.proofs.Joining.{sibling_turned, not_both, joins-linked, in_others}
use Rattle.chop.proofs.Closing.{closes}
use Rattle.chop.proofs.Around.{place, after-place, once_around, apart}

-- what is true here and false further on changes somewhere
changes : (f : ℕ → Bool) (d i : ℕ) → f i ≡ true → f (d + i) ≡ false → (t : ℕ) × (f t ≡ true) × (f (suc t) ≡ false)
changes f zero i e g = absurd (false_is (ap f (let z : i ≡ 0 + i = omega arith in z) ∙ g) (true_is e))
changes f (suc d) i e g = go (f (suc i)) refl (changes f d (suc i))
  where
    go :
        (c : Bool) → f (suc i) ≡ c → (f (suc i) ≡ true → f (d + suc i) ≡ false → (t : ℕ) × (f t ≡ true) × (f (suc t) ≡ false))
        → (t : ℕ) × (f t ≡ true) × (f (suc t) ≡ false)
    go true h k = k h (ap f (let z : d + suc i ≡ suc d + i = omega arith in z) ∙ g)
    go false h k = (i, e, h)

module _ (ps : List Piece) (few : length ps ≤ most) (l : List ℕ) (C : Circle ps l) where
  inside : (s : ℕ) → s % length l < length l
  inside s = mod-lt s (let h = C.long in omega arith)

  seen : (s : ℕ) → place l s < length ps
  seen s = C.known (s % length l) (inside s)

  follows : (s : ℕ) → T (joins ps (place l s) (place l (suc s)))
  follows s =
      subst (λ (x : ℕ). T (joins ps (place l s) x)) (after-place l s ∙ ap (place l) (let e : s + 1 ≡ suc s = omega arith in e))
      (C.joined (s % length l) (inside s))

  kind : ℕ → Bool
  kind s = siblings ps (place l s) (place l (suc s))

  -- the step at place i of the list
  at_place : (i : ℕ) → i < length l → (at l i ≡ place l i) × (after l i ≡ place l (suc i))
  at_place i h =
      let e = mod-eq_of_lt h in
      (ap (λ (n : ℕ). get_or l n 0) (sym e), ap (after l) (sym e) ∙ after-place l i ∙ ap (place l) (let e : i + 1 ≡ suc i = omega arith in e))

  begins : kind C.sibling.0 ≡ true
  unfolding kind
  begins =
      let s = C.sibling in
      let p = at_place s.0 s.1 in
      is_true _ (rw (sym p.0, sym p.1) s.2)

  leaves : kind (C.conflicting.0 + length l) ≡ false
  unfolding kind
  leaves =
      let s = C.conflicting in
      let p = at_place s.0 s.1 in
      let t : T (conflict ps (place l s.0) (place l (suc s.0))) = rw (sym p.0, sym p.1) s.2 in
      let x = once_around l s.0 in
      let y : place l (suc (s.0 + length l)) ≡ place l (suc s.0) = ap (place l) (let e : suc (s.0 + length l) ≡ suc s.0 + length l = omega arith in e) ∙ once_around l (suc s.0) in
      is_false _ (λ u. not_both ps (place l s.0) (place l (suc s.0)) (subst T (ap₂ (siblings ps) x y) u) t)

  turn : (t : ℕ) × (kind t ≡ true) × (kind (suc t) ≡ false)
  turn =
      let i = C.sibling.0 in
      let j = C.conflicting.0 in
      let h = C.sibling.1 in
      changes kind ((j + length l) - i) i begins (ap kind (let e : (j + length l) - i + i ≡ j + length l = omega arith in e) ∙ leaves)

  -- less than a round after a piece comes another
  other : (t s : ℕ) → suc t < s → s < suc t + length l → place l s ≢ place l (suc t)
  other t s a b e = apart (length l) (suc t) s a b (C.distinct (s % length l) (suc t % length l) (inside s) (inside (suc t)) e)

  -- the rest of the circle, k links of it, as a way to the sibling
  rest : (t k : ℕ) → k + 2 ≤ length l → Way (links_of ps) (others (length ps) (place l (suc t))) k (place l (t + length l - k)) (place l (t + length l))
  rest t zero h =
      subst (λ (s : ℕ). Way (links_of ps) (others (length ps) (place l (suc t))) 0 (place l s) (place l (t + length l)))
      (let e : t + length l ≡ t + length l - 0 = omega arith in e)
      (here (in_others ps (place l (suc t)) (place l (t + length l)) (seen (t + length l)) (other t (t + length l) (omega arith) (omega arith))))
  rest t (suc k) h =
      let s = t + length l - suc k in
      let e : t + length l - k ≡ suc s = omega arith in
      link (in_others ps (place l (suc t)) (place l s) (seen s) (other t s (omega arith) (omega arith)))
      (joins-linked ps (place l s) (place l (t + length l - k)) (seen s) (seen (t + length l - k))
      (subst (λ (x : ℕ). T (joins ps (place l s) (place l x))) (sym e) (follows s)))
      (rest t k (omega arith))

  pub found : (b : ℕ) × (b < length ps) × (closing ps (links_of ps) b ≢ 0)
  unfolding kind
  found =
      let t = turn.0 in
      let h = C.long in
      let k = length l - 2 in
      let b = place l (suc t) in
      let s : T (siblings ps (place l t) b) = true_is turn.1 in
      let c : T (conflict ps b (place l (suc (suc t)))) = go (or_cases (siblings ps b (place l (suc (suc t)))) (conflict ps b (place l (suc (suc t)))) (follows (suc t))) in
      let e : t + length l - k ≡ suc (suc t) = omega arith in
      let v : Way (links_of ps) (others (length ps) b) k (place l (suc (suc t))) (place l t) =
      subst (λ (x : ℕ). Way (links_of ps) (others (length ps) b) k (place l (suc (suc t))) x) (once_around l t)
      (subst (λ (x : ℕ). Way (links_of ps) (others (length ps) b) k (place l x) (place l (t + length l))) e (rest t k (omega arith))) in
      (b, seen (suc t), closes ps few b (place l t) (place l (suc (suc t))) k (seen t) (seen (suc (suc t))) (sibling_turned ps (place l t) b s) c v)
    where
      go :
          T (siblings ps (place l (suc turn.0)) (place l (suc (suc turn.0)))) ⊎ T (conflict ps (place l (suc turn.0)) (place l (suc (suc turn.0))))
          → T (conflict ps (place l (suc turn.0)) (place l (suc (suc turn.0))))
      go (inl u) = absurd (false_is turn.2 u)
      go (inr u) = u
