-- How often a number is halved: a half less often than the whole, and a number below 2 ^ j at most j times.
use Prim.Native.Nat.{ℕ, zero, suc, ◌-◌, ◌*◌, ◌/◌, ◌^◌, ◌<◌, ◌≤◌}
use mathlib.Core.Path.{◌≡◌, refl}
use native.Mathlib.Omega.{arith}
use native.Mathlib.Nat.{pow-suc}
use Rattle.names.specs.Sizes.{base, sixteen}
use Rattle.choices.specs.Looks.{halvings, most_looks}

-- a larger number is halved no less often
more : (k m n : ℕ) → m ≤ n → halvings k m ≤ halvings k n
unfolding halvings
more zero m n h = omega arith
more (suc k) zero n h = omega arith
more (suc k) (suc m) zero h = absurd (omega arith)
more (suc k) (suc m) (suc n) h = let a = more k (suc m / 2) (suc n / 2) (omega arith) in omega arith

-- a half is halved less often
half : (k n : ℕ) → 1 ≤ n → n ≤ k → halvings k (n / 2) < halvings k n
unfolding halvings
half zero n h l = absurd (omega arith)
half (suc k) zero h l = absurd (omega arith)
half (suc k) (suc n) h l = go (suc n / 2) (omega arith) (half k)
  where
    go : (d : ℕ) → d ≤ k → ((e : ℕ) → 1 ≤ e → e ≤ k → halvings k (e / 2) < halvings k e) → halvings (suc k) d < suc (halvings k d)
    go zero m less = omega arith
    go (suc d) m less = let a = less (suc d) (omega arith) m in omega arith

pub fewer : (k m n : ℕ) → m ≤ n / 2 → 1 ≤ n → n ≤ k → halvings k m < halvings k n
fewer k m n h o l = omega (arith, more k m (n / 2) h, half k n o l)

-- a number below 2 ^ j at most j times
pub at_most : (k j n : ℕ) → n < 2 ^ j → halvings k n ≤ j
unfolding halvings
at_most zero j n h = omega arith
at_most (suc k) j zero h = omega arith
at_most (suc k) zero (suc n) h = absurd (omega arith)
at_most (suc k) (suc j) (suc n) h =
    let e : 2 ^ suc j ≡ 2 ^ j * 2 = pow-suc 2 j in
    let a = at_most k j (suc n / 2) (omega arith) in
    omega arith

-- in a full row the bound is met; it was 4 with the sizes of before request E5
pub full_row_lem : halvings base.places (base.places - 1) ≡ most_looks
unfolding halvings
full_row_lem = refl

pub full_row_16 : halvings sixteen.places (sixteen.places - 1) ≡ 4
unfolding halvings
full_row_16 = refl
