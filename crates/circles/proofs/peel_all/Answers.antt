use Prim.Native.Nat.{ℕ, ◌+◌, ◌≤◌, ◌<◌}
use mathlib.Core.Path.{◌≡◌, sym, subst}
use mathlib.Core.Logic.{inl, inr, ⊎_elim}
use native.Mathlib.Omega.{arith}
use native.Mathlib.Nat.{eq-or-lt_of_le}
use Rattle.circles.proofs.Peeling.{sweep_step, sweep_end}
use Rattle.circles.proofs.peel_all.Goals as goal

pub loop-k-preserved : goal.loop-k-preserved
loop-k-preserved g c =
    let a = c.args in
    let at = c.loop-k in
    let named = λ (n b : ℕ). (k : ℕ) × (k < n) × ((s : ℕ) → goal.F-post g a.slot_at k s → s ≡ b) in
    sweep_step a.waits.now a.left (named at.k) at.rest c.slot_at.result (named (at.k + 1))
    (λ b (k, l, is).
    ⊎_elim (λ (q : k ≡ at.k). inl (sym (subst (λ (i : ℕ). (s : ℕ) → goal.F-post g a.slot_at i s → s ≡ b) q is _ c.slot_at.ensures)))
    (λ m. inr (k, m, is)) (eq-or-lt_of_le (let m : k ≤ at.k = omega arith in m)))
    at.invariant c.peel-rest.ensures

pub returns : goal.returns
returns g c =
    let a = c.args in
    let at = c.loop-k in
    sweep_end a.waits.now a.left _ at.rest
    (λ b l. let n = c.requires.all b l in (n.0, let m = n.1 in omega arith, n.2)) at.invariant
