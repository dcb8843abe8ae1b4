-- `next` goes along the chunk: from each index on, what it gathers after the bytes so far is what was to be gathered.
use mathlib.Core.Path.{◌≡◌}
use lib.ListN.{drop}
use Rattle.lines.specs.Lines.{held_by, gather}
use Rattle.lines.proofs.Lines.next.Given as goal

abbrev pub invariant-loop-k : goal.invariant-loop-k
invariant-loop-k l = gather (held_by l.lines) (drop l.k l.chunk) ≡ gather (held_by l.initial.lines) (drop l.from l.chunk)
