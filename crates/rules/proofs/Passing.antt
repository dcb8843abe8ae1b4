-- How many places are named by some element of a list: at most as many as there are elements.
use Prim.Native.Nat.{ℕ, zero, suc, ◌+◌, ◌≤◌, ◌<◌}
use mathlib.Core.Path.{◌≡◌, refl}
use mathlib.Core.Bool.{Bool, true, false, ◌&&◌, ◌||◌}
use mathlib.Core.List.{List, [], ◌∷◌}
use native.Mathlib.Omega.{arith}
use lib.ListN.{length}
use lib.Dec.{T, eqb}
use borrow.Author.Tests.{eqb-true, ne_eqb}
use Rattle.rules.specs.Words.{some}
use Rattle.rules.proofs.Tests.{is_true}

unfoldable pub tally : Bool → ℕ → ℕ
tally true n = suc n
tally false n = n

-- how many of k, k + 1, .., k + n - 1 pass
unfoldable pub passing : (ℕ → Bool) → ℕ → ℕ → ℕ
passing p k zero = 0
passing p k (suc n) = tally (p k) (passing p (suc k) n)

-- how many elements pass
unfoldable pub counted : {A : Type 0} → (A → Bool) → List A → ℕ
counted g [] = 0
counted g (q ∷ qs) = tally (g q) (counted g qs)

pub counted-le : {A : Type 0} (g : A → Bool) (qs : List A) → counted g qs ≤ length qs
unfolding counted tally
counted-le g [] = omega arith
counted-le g (q ∷ qs) = go (g q) (counted-le g qs)
  where
    go : (b : Bool) → counted g qs ≤ length qs → tally b (counted g qs) ≤ suc (length qs)
    go true h = omega arith
    go false h = omega arith

-- if all pass, they are counted
pub passing_all : (p : ℕ → Bool) (k n : ℕ) → ((i : ℕ) → k ≤ i → i < k + n → T (p i)) → passing p k n ≡ n
unfolding passing tally
passing_all p k zero f = refl
passing_all p k (suc n) f =
    rw (is_true (p k) (f k (omega arith) (omega arith)))
    (let e = passing_all p (suc k) n (λ i l h. f i (omega arith) (omega arith)) in omega arith)

-- ---- one element names one place
tally_or : (a b : Bool) (x y z : ℕ) → x ≤ y + z → tally (a || b) x ≤ tally a y + tally b z
unfolding tally
tally_or true true x y z h = omega arith
tally_or true false x y z h = omega arith
tally_or false true x y z h = omega arith
tally_or false false x y z h = h

passing_or : (p r : ℕ → Bool) (k n : ℕ) → passing (λ i. p i || r i) k n ≤ passing p k n + passing r k n
unfolding passing
passing_or p r k zero = omega arith
passing_or p r k (suc n) = tally_or (p k) (r k) _ _ _ (passing_or p r (suc k) n)

passing_none : (a k n : ℕ) → a < k → passing (λ i. eqb a i) k n ≡ 0
unfolding passing tally
passing_none a k zero h = refl
passing_none a k (suc n) h = rw (ne_eqb a k (λ e. omega arith)) (passing_none a (suc k) n (omega arith))

passing_one : (a k n : ℕ) → passing (λ i. eqb a i) k n ≤ 1
unfolding passing tally
passing_one a k zero = omega arith
passing_one a k (suc n) = go (eqb a k) refl (passing_one a (suc k) n)
  where
    go : (b : Bool) → eqb a k ≡ b → passing (λ i. eqb a i) (suc k) n ≤ 1 → tally b (passing (λ i. eqb a i) (suc k) n) ≤ 1
    go true e h = let q = eqb-true a k e in let z = passing_none a (suc k) n (omega arith) in omega arith
    go false e h = h

passing_false : (k n : ℕ) → passing (λ i. false) k n ≡ 0
unfolding passing tally
passing_false k zero = refl
passing_false k (suc n) = passing_false (suc k) n

-- the places f q of those elements q that pass g
pub passing_some :
    {A : Type 0} (g : A → Bool) (f : A → ℕ) (qs : List A) (k n : ℕ) → passing (λ i. some (λ q. g q && eqb (f q) i) qs) k n ≤ counted g qs
unfolding some counted tally
passing_some g f [] k n = let z = passing_false k n in omega arith
passing_some g f (q ∷ qs) k n =
    let a = passing_or (λ i. g q && eqb (f q) i) (λ i. some (λ q. g q && eqb (f q) i) qs) k n in
    let b = one (g q) in
    let c = passing_some g f qs k n in
    omega arith
  where
    one : (b : Bool) → passing (λ i. b && eqb (f q) i) k n + counted g qs ≤ tally b (counted g qs)
    one true = let a = passing_one (f q) k n in omega arith
    one false = let a = passing_false k n in omega arith
