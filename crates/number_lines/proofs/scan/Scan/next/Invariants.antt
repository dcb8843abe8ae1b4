-- `next` goes along the chunk: from each index on, what it gathers after the bytes so far is what was to be gathered.
use mathlib.Core.Path.{◌≡◌}
use lib.ListN.{length, drop}
use Rattle.number_lines.specs.Lines.{held_by, gather}
use Rattle.number_lines.proofs.scan.Scan.next.Given as goal

abbrev pub invariant-loop-k : goal.invariant-loop-k
invariant-loop-k l =
    (length l.words ≡ length l.initial.words)
    × (gather (length l.initial.words) (held_by l.words l.scan) (drop l.k l.chunk) ≡ gather (length l.initial.words) (held_by l.initial.words l.initial.scan) (drop l.from l.chunk))
