-- Line after line, each turn past the end of one: what is kept and what is put are the whole chunk's.
use Prim.Native.Nat.{◌-◌, ◌*◌, ◌≤◌}
use mathlib.Core.Path.{◌≡◌}
use lib.ListN.{length}
use Rattle.lines.specs.Lines.{held_by}
use Rattle.script.proofs.Turns.{left_from}
use Rattle.journal.specs.Format.{record_size}
use Rattle.texts.specs.Written.{buffer, put}
use Rattle.recording.proofs.Taking.{taken_from}
use Rattle.recording.proofs.taken.take_chunk.Given as goal

abbrev pub invariant-loop-at : goal.invariant-loop-at
invariant-loop-at l =
    (l.at ≤ length l.chunk) × (l.used ≤ record_size * l.at) × (length l.out ≡ length l.initial.out)
    × (left_from (held_by l.held) l.chunk l.at ≡ left_from (held_by l.initial.held) l.chunk l.initial.at)
    × (put (taken_from (held_by l.held) l.chunk l.at) (buffer l.out l.used) ≡ put (taken_from (held_by l.initial.held) l.chunk l.initial.at) (buffer l.initial.out l.initial.used))

abbrev pub decreases-loop-at : goal.decreases-loop-at
decreases-loop-at l = length l.chunk - l.at
