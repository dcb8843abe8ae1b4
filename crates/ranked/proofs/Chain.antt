-- Those who pass p bear numbers f. Where each number above 1 has the one before it borne too, no number is above how many pass.
use Prim.Native.Nat.{ℕ, zero, suc, ◌≤◌, ◌<◌}
use mathlib.Core.Path.{◌≡◌, refl}
use mathlib.Core.Bool.{Bool, ◌&&◌}
use native.Mathlib.Omega.{arith}
use lib.Dec.{T, leb, leb→le, le→leb}
use Rattle.rules.specs.Words.{count_below}
use Rattle.rules.proofs.Tests.{and_left, and_right, and_both}
use Rattle.rules.proofs.Counts.{count_fewer}
use Rattle.rules.proofs.Lines.{count-more}

module _
    (n : ℕ) (p : ℕ → Bool) (f : ℕ → ℕ)
    (behind : (i m : ℕ) → i < n → T (p i) → f i ≡ suc (suc m) → (j : ℕ) × (j < n) × T (p j) × (f j ≡ suc m))
  where
    -- who bears a number up to m
    abbrev up_to : ℕ → ℕ → Bool
    up_to m i = p i && leb (f i) m

    one_more_lem : (m i : ℕ) → i < n → T (p i) → f i ≡ suc m → count_below n (up_to m) < count_below n (up_to (suc m))
    one_more_lem m i h a e =
        count-more n (up_to (suc m)) (up_to m) i h
        (and_both (p i) _ a (le→leb (f i) (suc m) (omega arith)))
        (λ u. let k : f i ≤ m = leb→le (f i) m (and_right (p i) _ u) in omega arith)
        (λ j l u. and_both (p j) _ (and_left (p j) _ u) (le→leb (f j) (suc m) (let k : f j ≤ m = leb→le (f j) m (and_right (p j) _ u) in omega arith)))

    up_to_lem : (m i : ℕ) → i < n → T (p i) → f i ≡ suc m → suc m ≤ count_below n (up_to (suc m))
    up_to_lem zero i h a e = let k = one_more_lem 0 i h a e in omega arith
    up_to_lem (suc m) i h a e =
        let j = behind i m h a e in
        let k = up_to_lem m j.0 j.1 j.2 j.3 in
        let o = one_more_lem (suc m) i h a e in
        omega arith

    pub chain : (i : ℕ) → i < n → T (p i) → f i ≤ count_below n p
    chain i h a = go (f i) refl
      where
        go : (k : ℕ) → f i ≡ k → f i ≤ count_below n p
        go zero e = omega arith
        go (suc m) e =
            let u = up_to_lem m i h a e in
            let c = count_fewer n (up_to (suc m)) p (λ j l v. and_left (p j) _ v) in
            omega arith
