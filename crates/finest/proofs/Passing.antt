-- Those numbers of a range that pass, as a list: each passes, each that passes stands there, once.
use Prim.Native.Nat.{ℕ, zero, suc, ◌+◌, ◌≤◌, ◌<◌}
use mathlib.Core.Path.{◌≡◌, refl, sym, ap, subst}
use mathlib.Core.Logic.{◌≢◌, ◌⊎◌, inl, inr}
use mathlib.Core.Bool.{Bool, true, false, cond}
use mathlib.Core.List.{◌∷◌}
use native.Mathlib.Omega.{arith}
use lib.ListN.{length, get_or}
use lib.Dec.{T}
use Rattle.rules.proofs.Tests.{true_is, false_is, same?}
use Rattle.finest.specs.Choppings.{passing}

abbrev Passes : (ℕ → Bool) → ℕ → ℕ → ℕ → Type 0
Passes p i n x = T (p x) × (i ≤ x) × (x < i + n)

module _ (p : ℕ → Bool) where
  pub passing_at : (i n k : ℕ) → k < length (passing p i n) → Passes p i n (get_or (passing p i n) k 0)
  unfolding passing
  passing_at i zero k h = absurd (omega arith)
  passing_at i (suc n) k h = go (p i) refl k h (passing_at (suc i) n)
    where
      go :
          (b : Bool) → p i ≡ b → (k : ℕ) → k < length (cond b (i ∷ passing p (suc i) n) (passing p (suc i) n))
          → ((k : ℕ) → k < length (passing p (suc i) n) → Passes p (suc i) n (get_or (passing p (suc i) n) k 0))
          → Passes p i (suc n) (get_or (cond b (i ∷ passing p (suc i) n) (passing p (suc i) n)) k 0)
      go true e zero h f = (true_is e, omega arith, omega arith)
      go true e (suc k) h f = let a = f k (omega arith) in (a.0, (let l = a.1 in omega arith), (let l = a.2 in omega arith))
      go false e k h f = let a = f k h in (a.0, (let l = a.1 in omega arith), (let l = a.2 in omega arith))

  pub passing_has : (i n x : ℕ) → i ≤ x → x < i + n → T (p x) → (k : ℕ) × (k < length (passing p i n)) × (get_or (passing p i n) k 0 ≡ x)
  unfolding passing
  passing_has i zero x a b t = absurd (omega arith)
  passing_has i (suc n) x a b t = go (p i) refl (same? i x) (λ l. passing_has (suc i) n x l (omega arith) t)
    where
      go :
          (c : Bool) → p i ≡ c → (i ≡ x) ⊎ (i ≢ x)
          → (suc i ≤ x → (k : ℕ) × (k < length (passing p (suc i) n)) × (get_or (passing p (suc i) n) k 0 ≡ x))
          → (k : ℕ) × (k < length (cond c (i ∷ passing p (suc i) n) (passing p (suc i) n))) × (get_or (cond c (i ∷ passing p (suc i) n) (passing p (suc i) n)) k 0 ≡ x)
      go true e (inl q) f = (0, omega arith, q)
      go true e (inr d) f = let r = f (omega arith) in (suc r.0, (let l = r.1 in omega arith), r.2)
      go false e (inl q) f = absurd (false_is e (subst (λ (y : ℕ). T (p y)) (sym q) t))
      go false e (inr d) f = f (omega arith)

  pub passing-once :
      (i n j k : ℕ) → j < length (passing p i n) → k < length (passing p i n) → get_or (passing p i n) j 0 ≡ get_or (passing p i n) k 0 → j ≡ k
  unfolding passing
  passing-once i zero j k a b e = absurd (omega arith)
  passing-once i (suc n) j k a b e = go (p i) j k a b e (passing-once (suc i) n)
    where
      go :
          (c : Bool) (j k : ℕ) → j < length (cond c (i ∷ passing p (suc i) n) (passing p (suc i) n)) → k < length (cond c (i ∷ passing p (suc i) n) (passing p (suc i) n))
          → get_or (cond c (i ∷ passing p (suc i) n) (passing p (suc i) n)) j 0 ≡ get_or (cond c (i ∷ passing p (suc i) n) (passing p (suc i) n)) k 0
          → ((j k : ℕ) → j < length (passing p (suc i) n) → k < length (passing p (suc i) n) → get_or (passing p (suc i) n) j 0 ≡ get_or (passing p (suc i) n) k 0 → j ≡ k)
          → j ≡ k
      go true zero zero a b e f = refl
      go true zero (suc k) a b e f = let r = passing_at (suc i) n k (omega arith) in let l = r.1 in absurd (omega arith)
      go true (suc j) zero a b e f = let r = passing_at (suc i) n j (omega arith) in let l = r.1 in absurd (omega arith)
      go true (suc j) (suc k) a b e f = ap suc (f j k (omega arith) (omega arith) e)
      go false j k a b e f = f j k a b e

  pub passing-few : (i n : ℕ) → length (passing p i n) ≤ n
  unfolding passing
  passing-few i zero = omega arith
  passing-few i (suc n) = go (p i) (passing-few (suc i) n)
    where
      go : (c : Bool) → length (passing p (suc i) n) ≤ n → length (cond c (i ∷ passing p (suc i) n) (passing p (suc i) n)) ≤ suc n
      go true l = omega arith
      go false l = omega arith
