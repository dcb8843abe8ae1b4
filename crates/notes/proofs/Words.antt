-- Who joins.
use Prim.Native.Nat.{ℕ, zero, suc, ◌-◌, ◌^◌}
use mathlib.Core.Path.{◌≡◌, refl, ap}
use mathlib.Core.Logic.{◌≢◌}
use mathlib.Core.List.{List}
use native.Mathlib.Omega.{arith}
use Rattle.rules.specs.Step.{joined, holder_joins}

-- the holder that a lock names joins, if it names one
pub holder_some : (h q : ℕ) (t : List ℕ) → h ≢ 0 → joined t (h - 1) (2 ^ q) ≡ holder_joins h q t
unfolding holder_joins
holder_some zero q t d = absurd (d refl)
holder_some (suc b) q t d = ap (λ (b : ℕ). joined t b (2 ^ q)) (let e : suc b - 1 ≡ b = omega arith in e)

pub holder_none : (h q : ℕ) (t : List ℕ) → h ≡ 0 → t ≡ holder_joins h q t
unfolding holder_joins
holder_none zero q t e = refl
holder_none (suc b) q t e = absurd (omega arith)
