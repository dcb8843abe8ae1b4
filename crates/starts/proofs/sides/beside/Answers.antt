use Prim.Native.Nat.{ℕ}
use mathlib.Core.Path.{◌≡◌, sym, subst, ◌∙◌}
use native.Mathlib.Omega.{arith}
use Rattle.names.specs.Sizes.{base}
use Rattle.starts.specs.Starts.{starts_from, starts}
use Rattle.starts.specs.Beside.{Beside}
use Rattle.starts.proofs.Tells.{none_beside}
use Rattle.starts.proofs.Fill.{starts-some, starts_none}
use Rattle.starts.proofs.sides.beside.Goals as goal
use Rattle.starts.proofs.sides.beside.Goals.{in-Some, in_default}

pub loop-i-init : goal.loop-i-init
unfolding starts_from
loop-i-init c = none_beside _

pub loop-i-preserved : goal.loop-i-preserved
loop-i-preserved c =
    let l = c.loop-i in
    let t = c.args.txns.now in
    elim c.match-start_in.branch [
      | in-Some w ↦ rw (starts-some t l.i _ (sym c.start_in.ensures ∙ w.in-Some.is), w.known-is) (w.met-known.ensures (starts_from t 0 l.i) l.invariant)
      | in_default w ↦ rw (starts_none t l.i (λ s e. w.in_default.not-Some s (c.start_in.ensures ∙ e)), w.known-is) l.invariant
    ]

pub returns : goal.returns
unfolding starts
returns c =
    let a = c.args in
    let l = c.loop-i in
    let e : l.i ≡ base.slots = omega arith in
    subst (λ (n : ℕ). Beside (starts_from a.txns.now 0 n) a.stamp l.known.below l.known.next) e l.invariant
