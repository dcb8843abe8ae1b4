-- Call after call: what is put and the tables are those of the whole piece.
use Prim.Native.Nat.{◌-◌, ◌≤◌}
use mathlib.Core.Path.{◌≡◌}
use lib.ListN.{length}
use Rattle.rules.specs.Tables.{tables}
use Rattle.texts.specs.Written.{buffer, put}
use Rattle.recording.proofs.Answering.{answered_from, after_from}
use Rattle.recording.proofs.answers.answer_piece.Given as goal

abbrev pub invariant-loop-at : goal.invariant-loop-at
invariant-loop-at l =
    (l.at ≤ length l.piece) × (length l.out ≡ length l.initial.out) × (length l.txns ≡ length l.initial.txns) × (length l.locks ≡ length l.initial.locks) × (length l.versions ≡ length l.initial.versions)
    × (put (answered_from l.piece l.at (tables l.txns l.locks l.versions)) (buffer l.out l.at) ≡ put (answered_from l.piece l.initial.at (tables l.initial.txns l.initial.locks l.initial.versions)) (buffer l.initial.out l.initial.at))
    × (after_from l.piece l.at (tables l.txns l.locks l.versions) ≡ after_from l.piece l.initial.at (tables l.initial.txns l.initial.locks l.initial.versions))

abbrev pub decreases-loop-at : goal.decreases-loop-at
decreases-loop-at l = length l.piece - l.at
