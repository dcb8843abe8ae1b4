-- Zeros, and then the counts.
use Rattle.std.proofs.Common.{ap, sym, ◌∙◌}
use Rattle.names.specs.Sizes.{base}
use Rattle.rules.specs.Tables.{tables, with_counts, fresh}
use Rattle.fresh.proofs.Filling.{zeroed}
use Rattle.fresh.proofs.Exact.{made_fresh}
use Rattle.fresh.proofs.fresh.Goals as goal

pub returns-clause-versions_after : goal.returns-clause-versions_after
unfolding fresh
returns-clause-versions_after c =
    let w = c.in-Some.ensures.cases in
    let x = c.in-Some-as_mut_array.ensures.cases in
    let y = c.in-Some-as_mut_array-2.ensures.cases in
    let t = zeroed w (c.fill.ensures.after (λ y h. h)) in
    let l = zeroed x (c.fill-2.ensures.after (λ y h. h)) in
    let v = c.count.ensures ∙ ap (with_counts base) (zeroed y (c.fill-3.ensures.after (λ y h. h))) in
    (λ i. tables (t i) (l i) (v i)) ∙ sym (made_fresh _ _ _ w.long x.long y.long)
