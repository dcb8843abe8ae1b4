-- The last line's call, or none.
use mathlib.Core.Path.{sym, ◌∙◌}
use native.Mathlib.Omega.{arith}
use Rattle.lines.specs.Lines.{held_by}
use Rattle.journal.specs.Format.{call_records}
use Rattle.texts.specs.Written.{buffer}
use Rattle.recording.specs.Records.{line_calls}
use Rattle.texts.proofs.Buffers.{put-within}
use Rattle.recording.proofs.Taking.{last_line, last_none}
use Rattle.recording.proofs.taken.take_last.Goals as goal

pub returns-then-begun : goal.returns-then-begun
returns-then-begun c =
    let a = c.args in
    let w = c.take_line.ensures in
    record { upper_bound = put-within a.out.now (call_records (line_calls c.read_as.result)) 0 w (omega arith); result_after = last_line (held_by a.lines) (buffer a.out.now 0) (sym c.begun.ensures ∙ c.if-begun.true) c.read_as.ensures w }

pub returns-else-begun : goal.returns-else-begun
returns-else-begun c = record { upper_bound = omega arith; result_after = last_none (held_by c.args.lines) c.args.out.now 0 (sym c.begun.ensures ∙ c.if-begun.false) }
