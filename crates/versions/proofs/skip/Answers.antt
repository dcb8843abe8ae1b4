use mathlib.Core.Path.{◌≡◌, ap}
use Prim.Native.Nat.{ℕ, ◌≤◌, ◌<◌}
use mathlib.Core.Logic.{⊎_elim}
use native.Mathlib.Omega.{arith}
use native.Mathlib.Nat.{eq-or-lt_of_le}
use lib.ListN.{get_or}
use Rattle.names.specs.Sizes.{base}
use Rattle.versions.proofs.skip.Goals as goal

-- the guard is not below hi
room : (c : goal.In-loop-k) → c.loop-k.k < base.slots
room c =
    let k = c.loop-k.k in
    let q = c.args.starts.now in
    let f = c.ranges.hi.fits in
    let t = c.requires.0.top in
    ⊎_elim
    (λ (e : k ≡ base.slots).
    let z : get_or q k 0 ≡ get_or q base.slots 0 = ap (λ (n : ℕ). get_or q n 0) e in
    absurd (omega arith))
    (λ (l : k < base.slots). l)
    (eq-or-lt_of_le c.loop-k.invariant.1)

pub loop-k-init : goal.loop-k-init
loop-k-init c = (omega arith, c.requires.1, λ i a b. absurd (omega arith))

pub overflow_add-k : goal.overflow_add-k
overflow_add-k c = omega (arith, room c)

pub loop-k-smaller : goal.loop-k-smaller
loop-k-smaller c = omega (arith, room c)

pub loop-k-preserved : goal.loop-k-preserved
loop-k-preserved c =
    let k = c.loop-k.k in
    let q = c.args.starts.now in (
      omega arith,
      omega (arith, room c),
      λ i x y. ⊎_elim
          (λ (e : i ≡ k). let z : get_or q i 0 ≡ get_or q k 0 = ap (λ (n : ℕ). get_or q n 0) e in omega arith)
          (λ (l : i < k). c.loop-k.invariant.2 i x l)
          (eq-or-lt_of_le (let z : i ≤ k = omega arith in z)),
    )

pub returns : goal.returns
returns c =
    record {
      from = c.loop-k.invariant.0;
      within = c.loop-k.invariant.1;
      reached = omega arith;
      less = c.loop-k.invariant.2;
    }
