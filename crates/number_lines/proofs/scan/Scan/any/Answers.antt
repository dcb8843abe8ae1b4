-- A line is begun where a byte of it was read.
use Rattle.number_lines.specs.Lines.{begun, held_by}
use Rattle.number_lines.proofs.Scanned.{begun_is}
use Rattle.number_lines.proofs.scan.Scan.any.Goals as goal

pub returns-in-Reads : goal.returns-in-Reads
returns-in-Reads c = λ words h. rw (c.in-Reads.is, c.is_some.ensures) (begun_is words c.in-Reads.count c.in-Reads.value h)

pub returns-in-Spoilt : goal.returns-in-Spoilt
unfolding begun held_by
returns-in-Spoilt c = λ words h. rw c.in-Spoilt.is
