-- The others are moved back where all stay; then the version is written in front.
use mathlib.Core.Path.{sym, ap, ◌∙◌}
use mathlib.Core.Bool.{Bool, cond}
use mathlib.Core.List.{List, ◌∷◌}
use Prim.Native.Nat.{ℕ}
use native.Mathlib.Omega.{arith}
use lib.ListN.{set, drop}
use Rattle.names.specs.Sizes.{base}
use Rattle.rules.specs.Tables.{masks_at}
use Rattle.rules.specs.Versions.{versions_in, row_of}
use Rattle.rules.proofs.Tests.{true_is}
use Rattle.packing.proofs.Words.{front_instead, front_of_all}
use Rattle.packing.proofs.Test.{first-stays}
use Rattle.packing.proofs.Shifts.{copied_back}
use Rattle.packing.proofs.put_front.Goals as goal
use Rattle.packing.proofs.put_front.Goals.{then-row-below, else-row-below}

pub copy_within-requires-then-row-below-clause-dest_in_bounds : goal.copy_within-requires-then-row-below-clause-dest_in_bounds
copy_within-requires-then-row-below-clause-dest_in_bounds c =
    let p = c.requires in
    let a = c.args in
    let l = p.room (true_is (sym (first-stays a.row.now p.tidy a.below a.new.stamp a.new.value a.new.hidden) ∙ c.if-row-below.true)) in
    omega (arith, l, p.tidy.size, c.copy_within.ensures.len)

pub returns : goal.returns
returns c =
    let a = c.args in
    let p = c.requires in
    let r = a.row.now in
    let vs = versions_in base r in
    let e = first-stays r p.tidy a.below a.new.stamp a.new.value a.new.hidden in
    elim c.if-row-below.branch [
      | then-row-below w ↦
          ap (λ (l : List ℕ). set (set (set l 1 a.new.stamp) 2 a.new.value) (masks_at base) a.new.hidden) w.row-is
          ∙ front_of_all r p.tidy a.new.stamp a.new.value a.new.hidden _ _ (copied_back _ _ _ _ 2 (omega arith) w.copy_within.ensures.len w.copy_within.ensures.by_index)
          (copied_back _ _ _ _ 1 (omega arith) w.copy_within-then-row-below.ensures.len w.copy_within-then-row-below.ensures.by_index) (p.room (true_is (sym e ∙ w.if-row-below.true)))
          ∙ ap (λ (b : Bool). row_of base (record { stamp = a.new.stamp; value = a.new.value; hidden = a.new.hidden } ∷ cond b vs (drop 1 vs))) (sym (sym e ∙ w.if-row-below.true))
      | else-row-below w ↦
          ap (λ (l : List ℕ). set (set (set l 1 a.new.stamp) 2 a.new.value) (masks_at base) a.new.hidden) w.row-is
          ∙ front_instead r p.tidy a.new.stamp a.new.value a.new.hidden
          ∙ ap (λ (b : Bool). row_of base (record { stamp = a.new.stamp; value = a.new.value; hidden = a.new.hidden } ∷ cond b vs (drop 1 vs))) (sym (sym e ∙ w.if-row-below.false))
    ]
