use Prim.Native.Nat.{ℕ, suc}
use mathlib.Core.Path.{◌≡◌, refl, sym, ap, ◌∙◌}
use mathlib.Core.List.{map}
use native.Mathlib.Omega.{arith}
use lib.ListN.{length, take, length-set}
use lib.Seq.{take_all}
use Rattle.finding_lines.proofs.Printed.{one_place}
use Rattle.finding_lines.proofs.from_one.Goals as goal

pub loop-k-init : goal.loop-k-init
loop-k-init c = (refl, refl)

pub overflow_add-places : goal.overflow_add-places
overflow_add-places c = omega (arith, c.requires.1 c.loop-k.k c.loop-k-test.true)

pub bounds-places-k : goal.bounds-places-k
bounds-places-k c = omega (arith, c.requires.0, c.loop-k-test.true)

pub loop-k-preserved : goal.loop-k-preserved
loop-k-preserved c =
    let l = c.loop-k in
    let a = c.args.circle.now in
    let t = c.loop-k-test.true in
    (length-set l.places l.k _ ∙ l.invariant.0, one_place a l.places l.k t (omega (arith, t, c.requires.0, l.invariant.0)) l.invariant.1)

pub returns : goal.returns
returns c =
    let l = c.loop-k in
    let a = c.args.circle.now in
    let e : l.k ≡ length a = omega arith in
    ap (λ (n : ℕ). take n l.places) (sym e) ∙ l.invariant.1 ∙ ap (map suc) (take_all l.k a (omega arith))
