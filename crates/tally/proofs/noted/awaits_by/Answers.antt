-- An update's wait is noted, a reader's is not.
use Rattle.std.proofs.Common.{ℕ, List, sym, ◌∙◌, ap₂, eq-eqb, ne_eqb}
use Rattle.rules.specs.Step.{joined}
use Rattle.tally.specs.Noted.{awaited_by}
use Rattle.tally.proofs.noted.awaits_by.Goals as goal

pub returns-then-kind-eq-UPDATE_KIND : goal.returns-then-kind-eq-UPDATE_KIND
unfolding awaited_by
returns-then-kind-eq-UPDATE_KIND c =
    let a = c.args in
    let asked = c in
    rw (eq-eqb _ _ (sym c.kind.ensures ∙ c.if-kind-eq-UPDATE_KIND.true))
    (c.join.ensures ∙ ap₂ (λ (u : List ℕ) (m : ℕ). joined u a.slot.0 m) c.note.ensures asked.asking_joins-sets.ensures)

pub returns-else-kind-eq-UPDATE_KIND : goal.returns-else-kind-eq-UPDATE_KIND
unfolding awaited_by
returns-else-kind-eq-UPDATE_KIND c = rw (ne_eqb _ _ (λ e. c.if-kind-eq-UPDATE_KIND.false (c.kind.ensures ∙ e)))
