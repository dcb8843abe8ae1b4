-- Each turn sees one record more.
use mathlib.Core.Path.{◌≡◌}
use lib.ListN.{length}
use Rattle.judge.specs.Pieces.{progress}
use Rattle.judge.proofs.Turns.{SoFar}
use Rattle.judge.proofs.pieces.all.Given as goal

abbrev pub invariant-loop-k : goal.invariant-loop-k
invariant-loop-k l =
    SoFar l.calls l.answers l.from l.to l.count l.k (progress l.initial.kept l.initial.txns l.initial.locks l.initial.versions) (progress l.kept l.txns l.locks l.versions)
    × (length l.txns ≡ length l.initial.txns)
    × (length l.locks ≡ length l.initial.locks)
    × (length l.versions ≡ length l.initial.versions)
