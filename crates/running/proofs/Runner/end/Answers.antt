-- A line that is begun is answered at the front of the output.
use mathlib.Core.Path.{sym, ◌∙◌}
use native.Mathlib.Omega.{arith}
use Rattle.rules.specs.Tables.{Tables, tables}
use Rattle.lines.specs.Lines.{Held, held_by}
use Rattle.running.specs.Life.{state_of}
use Rattle.running.proofs.Keeping.{last_used, last_replied, none_replied}
use Rattle.running.proofs.Runner.end.Goals as goal

pub returns-then-not-begun : goal.returns-then-not-begun
unfolding state_of
returns-then-not-begun c =
    let a = c.args in
    let s = a.self in
    record { upper_bound = omega arith; out_after = none_replied (held_by s.lines) (tables s.txns s.locks s.versions) a.out.now (sym c.begun.ensures ∙ c.if-not-begun.true) }

pub returns : goal.returns
unfolding state_of
returns c =
    let s = c.args.self in
    let h : Held = held_by s.lines in
    let G : Tables = tables s.txns s.locks s.versions in
    let t = sym c.begun.ensures ∙ c.if-not-begun.false in
    let q = c.read_as-parsed.ensures in
    let w = c.respond.ensures.wrote in
    record { upper_bound = last_used h G t q w c.requires; out_after = last_replied h G t q w }
