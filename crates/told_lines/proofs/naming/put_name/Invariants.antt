-- The bytes passed are written, and none of them is zero.
use mathlib.Core.Path.{◌≡◌}
use mathlib.Core.List.{◌++◌}
use lib.ListN.{length, take, drop}
use Rattle.texts.specs.Written.{Wrote}
use Rattle.told_lines.specs.Names.{unpadded}
use Rattle.told_lines.proofs.naming.put_name.Given as goal

abbrev pub invariant-loop-byte : goal.invariant-loop-byte
invariant-loop-byte l = (length l.out ≡ length l.initial.out) × Wrote l.initial.out l.at (take l.byte-index l.name) l.out l.end × (unpadded l.name ≡ take l.byte-index l.name ++ unpadded (drop l.byte-index l.name))
