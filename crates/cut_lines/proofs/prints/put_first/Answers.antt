-- The line, where the operation leads its piece.
use mathlib.Core.Path.{sym, ◌∙◌}
use native.Mathlib.Omega.{arith}
use Rattle.texts.proofs.Written.{wrote_nothing}
use Rattle.cut_lines.proofs.prints.put_first.Goals as goal

pub returns-then-not-leads : goal.returns-then-not-leads
returns-then-not-leads c =
    let a = c.args in
    let e = sym c.leads.ensures ∙ c.if-not-leads.true in
    record { wrote = rw e (wrote_nothing a.out.now a.at); upper_bound = omega arith }

pub returns : goal.returns
returns c =
    let e = sym c.leads.ensures ∙ c.if-not-leads.false in
    rw e c.put_piece.ensures
