-- What a line is read as, by what the struct keeps of it.
use Prim.Native.Nat.{◌<◌, ◌≤◌}
use mathlib.Core.Path.{◌≡◌}
use lib.ListN.{take}
use Rattle.lines.specs.Lines.{held_by}
use Rattle.lines.specs.declared.Lines.{Lines}
use Rattle.lines.proofs.Holding.{held-short, held-long}
use Rattle.script.specs.Parse.{parsed}
use Rattle.script.specs.Inputs.{read_as}
use Rattle.rules.specs.Answers.{Call}
use Rattle.std.proofs.Common.{Option, None}

pub parsed-short : (s : Lines) (r : Option Call) → s.count ≤ 80 → r ≡ parsed (take s.count s.bytes) → r ≡ read_as (held_by s)
unfolding read_as
parsed-short s r h e = rw (held-short s h) e

pub parsed-long : (s : Lines) → 80 < s.count → None ≡ read_as (held_by s)
unfolding read_as
parsed-long s h = rw (held-long s h)
