-- Byte by byte: what is seen of the piece so far is kept.
use lib.ListN.{take}
use Rattle.told_lines.specs.Seen.{Seen, see_all}
use Rattle.cutting.specs.Life.{Keeps}
use Rattle.cutting.proofs.Cutting.take.Given as goal

abbrev pub invariant-loop-byte : goal.invariant-loop-byte
invariant-loop-byte l =
    (s : Seen) → Keeps s (record { line = l.initial.line; begun = l.initial.begun; tally = l.initial.tally }) → Keeps (see_all s (take l.byte-index l.piece)) (record { line = l.line; begun = l.begun; tally = l.tally })
