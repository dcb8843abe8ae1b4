-- `ended` keeps the number, or spoils the line.
use mathlib.Core.Path.{sym}
use Rattle.number_lines.specs.Lines.{ends, held_by}
use Rattle.number_lines.proofs.Scanned.{ends_full, ends-kept}
use Rattle.number_lines.proofs.scan.Scan.ended.Goals as goal

pub returns-in_default : goal.returns-in_default
unfolding held_by ends
returns-in_default c = rw c.in_default.is

pub returns-in_default-value : goal.returns-in_default-value
unfolding held_by ends
returns-in_default-value c = rw (c.in-Reads.is, c.in_default-value.is)

pub returns-then-words-count : goal.returns-then-words-count
unfolding held_by
returns-then-words-count c = rw (c.in-Reads.is, c.in-Some.is) (sym (ends_full c.args.words.now c.in-Reads.count c.in-Some.value c.if-words-count.true))

pub returns : goal.returns
returns c = rw (c.in-Reads.is, c.in-Some.is) (ends-kept c.args.words.now c.in-Reads.count c.in-Some.value c.if-words-count.false)
