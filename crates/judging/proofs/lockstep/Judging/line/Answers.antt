-- What is said is the verdict on the file.
use mathlib.Core.Path.{subst, ◌∙◌}
use native.Mathlib.Omega.{arith}
use Rattle.texts.specs.Written.{Wrote}
use Rattle.judge.specs.declared.Verdict.{Verdict}
use Rattle.verdict_lines.specs.Lines.{verdict_line}
use Rattle.verdict_lines.proofs.Said.{length-verdict_line}
use Rattle.judging.proofs.Seeing.{said}
use Rattle.judging.proofs.lockstep.Judging.line.Goals as goal

pub returns : goal.returns
returns c =
    let a = c.args in
    record { upper_bound = omega (arith, c.print.ensures.index, length-verdict_line c.say.result, c.requires.longest_in_bounds); by_index = λ file h. subst (λ (v : Verdict). Wrote a.out.now 0 (verdict_line v) c.print.new.out c.print.result) (c.say.ensures ∙ said file a.self h c.requires.self_value) c.print.ensures }
