-- No line yet.
use mathlib.Core.Path.{refl}
use Rattle.told_lines.specs.Lines.{said_in, bad_from, first_bad, capped, bad_line}
use Rattle.cutting.proofs.tally.Tally.new.Goals as goal

pub returns : goal.returns
unfolding said_in bad_from first_bad capped bad_line
returns c = record { lines = refl; bad = refl; kept = c.new-pieces.ensures }
