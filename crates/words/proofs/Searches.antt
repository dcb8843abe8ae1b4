-- A search that goes up one by one: what it has passed, and where it ends.
use Prim.Native.Nat.{ℕ, zero, suc, ◌+◌, ◌-◌, ◌≤◌, ◌<◌}
use mathlib.Core.Path.{◌≡◌, refl, sym, ap, ◌∙◌}
use mathlib.Core.Bool.{Bool, true, false}
use native.Mathlib.Omega.{arith}
use borrow.Author.Tests.{eq-eqb, ne_eqb}
use Rattle.std.specs.Prelude.{Some, None}
use Rattle.rules.specs.Words.{first_from}
use Rattle.words.specs.Below.{found_below}

-- the place s passes
pub first_here : (p : ℕ → Bool) (s m : ℕ) → s < m → p s ≡ true → first_from p s (m - s) ≡ s
first_here p s m l h = go (m - s) (let e : 0 < m - s = omega arith in e)
  where
    go : (n : ℕ) → 0 < n → first_from p s n ≡ s
    go zero k = absurd (omega arith)
    go (suc n) k = unfold first_from in (rw h)

-- it does not pass: the search goes on behind it
pub first_next : (p : ℕ → Bool) (s m : ℕ) → s < m → p s ≡ false → first_from p s (m - s) ≡ first_from p (s + 1) (m - (s + 1))
first_next p s m l h = go (m - s) refl
  where
    go : (n : ℕ) → m - s ≡ n → first_from p s (m - s) ≡ first_from p (s + 1) (m - (s + 1))
    go zero e = absurd (omega arith)
    go (suc n) e =
        ap (first_from p s) e ∙ step n
        ∙ ap (λ (a : ℕ). first_from p a n) (let q : suc s ≡ s + 1 = omega arith in q)
        ∙ ap (first_from p (s + 1)) (let q : n ≡ m - (s + 1) = omega arith in q)
      where
        step : (n : ℕ) → first_from p s (suc n) ≡ first_from p (suc s) n
        step n = unfold first_from in (rw h)

-- nothing is left
pub first_end : (p : ℕ → Bool) (s m : ℕ) → m ≤ s → first_from p s (m - s) ≡ s
first_end p s m l = go (m - s) (let e : m - s ≡ 0 = omega arith in e)
  where
    go : (n : ℕ) → n ≡ 0 → first_from p s n ≡ s
    go zero k = unfold first_from in refl
    go (suc n) k = absurd (omega arith)

-- where it ends, as an option
pub found_here : (n s : ℕ) → s < n → Some s ≡ found_below n s
unfolding found_below
found_here n s l = rw (ne_eqb s n (λ e. omega arith))

pub found_none : (n s : ℕ) → n ≡ s → None ≡ found_below n s
unfolding found_below
found_none n s e = rw (eq-eqb s n (sym e))
