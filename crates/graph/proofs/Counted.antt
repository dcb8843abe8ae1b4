-- Where fewer pass, and one does not that passes elsewhere, the count is less.
use Prim.Native.Nat.{ℕ, zero, suc, ◌≤◌, ◌<◌}
use mathlib.Core.Path.{◌≡◌, subst}
use mathlib.Core.Logic.{◌⊎◌, inl, inr}
use mathlib.Core.Bool.{Bool, true, false, cond}
use native.Mathlib.Omega.{arith}
use lib.Dec.{T}
use Rattle.rules.specs.Words.{count_below}
use Rattle.rules.proofs.Counts.{split-le, count_fewer}

pub count-more :
    (n : ℕ) (p q : ℕ → Bool) (x : ℕ) → ((i : ℕ) → i < n → T (p i) → T (q i)) → x < n → T (q x) → (T (p x) → ⊥)
    → count_below n p < count_below n q
unfolding count_below
count-more zero p q x f l t non = absurd (omega arith)
count-more (suc n) p q x f l t non = go (split-le x n l) (λ k. count-more n p q x (λ i h. f i (omega arith)) k t non)
  where
    below : (a b : Bool) → (T a → T b) → count_below n p < count_below n q → cond a (suc (count_below n p)) (count_below n p) < cond b (suc (count_below n q)) (count_below n q)
    below true true h k = omega arith
    below true false h k = absurd (h tt)
    below false true h k = omega arith
    below false false h k = k

    last : (a b : Bool) → T b → (T a → ⊥) → count_below n p ≤ count_below n q → cond a (suc (count_below n p)) (count_below n p) < cond b (suc (count_below n q)) (count_below n q)
    last true b u v k = absurd (v tt)
    last false true u v k = omega arith
    last false false u v k = absurd u

    go : (x < n) ⊎ (x ≡ n) → (x < n → count_below n p < count_below n q) → count_below (suc n) p < count_below (suc n) q
    go (inl k) g = below (p n) (q n) (f n (omega arith)) (g k)
    go (inr e) g =
        last (p n) (q n) (subst (λ (y : ℕ). T (q y)) e t) (subst (λ (y : ℕ). T (p y) → ⊥) e non) (count_fewer n p q (λ i h. f i (omega arith)))
