use Prim.Native.Nat.{ℕ, ◌+◌, ◌-◌, ◌<◌}
use mathlib.Core.Path.{sym, ap, ◌∙◌, subst}
use mathlib.Core.List.{List}
use native.Mathlib.Omega.{arith}
use lib.ListN.{get_or}
use lib.Dec.{T}
use Rattle.names.specs.Sizes.{base}
use Rattle.rules.specs.Words.{bit}
use Rattle.rules.specs.Tables.{masks_at}
use Rattle.packing.specs.Moved.{Shown}
use Rattle.packing.proofs.Shifts.{show_step, power_le, power_is, without_is}
use Rattle.packing.proofs.show.Goals as goal

-- the next mask has the bit still
still :
    (old row : List ℕ) (s n k : ℕ) → Shown old row s k → ((i : ℕ) → i < n → T (bit (get_or old (masks_at base + i) 0) s)) → k < n
    → T (bit (get_or row (masks_at base + k) 0) s)
still old row s n k shown hidden h = subst (λ (w : ℕ). T (bit w s)) (sym (shown.behind k (omega arith))) (hidden k h)

pub overflow_sub-row : goal.overflow_sub-row
overflow_sub-row c =
    let l = c.loop-k in
    let a = c.args in
    let e = power_is a.slot c.requires.2 in
    omega (arith, power_le (get_or l.row (masks_at base + l.k) 0) a.slot (still a.row.now l.row a.slot a.n l.k l.invariant c.requires.3 c.loop-k-test.true))

pub loop-k-preserved : goal.loop-k-preserved
loop-k-preserved c =
    let a = c.args in
    let l = c.loop-k in
    let s = a.slot in
    let mask = get_or l.row (masks_at base + l.k) 0 in
    show_step a.row.now l.row s l.k (omega arith) l.invariant
    (ap (λ (w : ℕ). mask - w) (power_is s c.requires.2)
    ∙ sym (without_is mask s (still a.row.now l.row s a.n l.k l.invariant c.requires.3 c.loop-k-test.true)))
