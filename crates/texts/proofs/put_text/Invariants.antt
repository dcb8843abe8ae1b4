-- The bytes passed are written.
use mathlib.Core.Path.{◌≡◌}
use lib.ListN.{length, take}
use Rattle.texts.specs.Written.{Wrote}
use Rattle.texts.proofs.put_text.Given as goal

abbrev pub invariant-loop-byte : goal.invariant-loop-byte
invariant-loop-byte l = (length l.out ≡ length l.initial.out) × Wrote l.initial.out l.at (take l.byte-index l.text) l.out l.end
