-- Places around a circle: what comes after the last one is the first, and places less than a round apart differ.
use Prim.Native.Nat.{ℕ, ◌+◌, ◌*◌, ◌/◌, ◌%◌, ◌≤◌, ◌<◌}
use mathlib.Core.Path.{◌≡◌, refl, ap, ◌∙◌}
use mathlib.Core.Bool.{Bool, true, false}
use mathlib.Core.List.{List}
use native.Mathlib.Omega.{arith}
use native.Mathlib.Nat.{mod-eq_of_lt, mod_self, mod-add-mod, add-mod_right, div-add-mod', mul-le-mul_right, add-mul, one-mul}
use lib.ListN.{length, get_or}
use lib.Dec.{leb}
use borrow.Author.Tests.{leb-true, leb-false}
use Rattle.chop.specs.Circles.{after}

pub after-inside : (l : List ℕ) (i : ℕ) → i + 1 < length l → after l i ≡ get_or l (i + 1) 0
after-inside l i h = ap (λ (n : ℕ). get_or l n 0) (mod-eq_of_lt h)

pub after_last : (l : List ℕ) (i : ℕ) → i + 1 ≡ length l → after l i ≡ get_or l 0 0
after_last l i e = ap (λ (n : ℕ). get_or l n 0) (ap (λ (n : ℕ). n % length l) e ∙ mod_self (length l))

-- the piece at step s of a walk around the circle
abbrev pub place : List ℕ → ℕ → ℕ
place l s = get_or l (s % length l) 0

pub after-place : (l : List ℕ) (s : ℕ) → after l (s % length l) ≡ place l (s + 1)
after-place l s = ap (λ (n : ℕ). get_or l n 0) (mod-add-mod s (length l) 1)

pub once_around : (l : List ℕ) (s : ℕ) → place l (s + length l) ≡ place l s
once_around l s = ap (λ (n : ℕ). get_or l n 0) (add-mod_right s (length l))

-- two steps less than a round apart are at different places
pub apart : (m u s : ℕ) → u < s → s < u + m → s % m ≡ u % m → ⊥
apart m u s l h e = go (leb (s / m) (u / m)) refl
  where
    p : s / m * m + s % m ≡ s
    p = div-add-mod' s m

    q : u / m * m + u % m ≡ u
    q = div-add-mod' u m

    go : (c : Bool) → leb (s / m) (u / m) ≡ c → ⊥
    go true t = let k = mul-le-mul_right m (leb-true (s / m) (u / m) t) in let x = p in let y = q in omega arith
    go false t =
        let n : u / m + 1 ≤ s / m = (let z = leb-false (s / m) (u / m) t in omega arith) in
        let k = mul-le-mul_right m n in
        let d = add-mul (u / m) 1 m in
        let o = one-mul m in
        let x = p in
        let y = q in
        omega arith
