-- A relaxed query leaves with its set, another as whoever reads by a start.
use mathlib.Core.Path.{sym, ◌∙◌}
use Rattle.rules.specs.Tables.{tables}
use Rattle.endings.proofs.Queries.{query-relaxed, query_by_start, start-gone}
use Rattle.endings.proofs.leaving.query_leaves.Goals as goal

pub relaxed_leaves-requires : goal.relaxed_leaves-requires
relaxed_leaves-requires c =
    let p = c.requires in
    (p.0, p.1, query-relaxed _ p.2 (sym c.kind.ensures ∙ c.if-kind-eq-RELAXED_KIND.true))

pub leaves-requires : goal.leaves-requires
leaves-requires c =
    let p = c.requires in
    (p.0, p.1, query_by_start _ p.2 (λ e. c.if-kind-eq-RELAXED_KIND.false (c.kind.ensures ∙ e)))

pub returns-else-kind-eq-RELAXED_KIND : goal.returns-else-kind-eq-RELAXED_KIND
returns-else-kind-eq-RELAXED_KIND c =
    let p = c.requires in
    start-gone (tables c.args.txns.now p.0.locks c.args.versions.now) p.0.good _ p.1
    (query_by_start _ p.2 (λ e. c.if-kind-eq-RELAXED_KIND.false (c.kind.ensures ∙ e)))
    c.leaves.ensures
