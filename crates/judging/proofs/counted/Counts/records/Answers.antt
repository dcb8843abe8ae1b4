-- All of them, or none.
use mathlib.Core.Path.{sym, ap, ◌∙◌}
use Rattle.judge.specs.declared.Verdict.{Verdict}
use Rattle.judging.specs.Counted.{records_by}
use Rattle.judging.proofs.counted.Counts.records.Goals as goal

pub returns : goal.returns
unfolding records_by
returns c = ap (λ (v : Verdict). records_by v c.args.self.first) (sym c.in-Accepted.is ∙ c.spoken.ensures)
