-- Nothing is noted.
use mathlib.Core.Path.{refl}
use Rattle.line_words.specs.Held.{padded}
use Rattle.op_lines.proofs.stages.Noted.new.Goals as goal

pub returns : goal.returns
unfolding padded
returns c = record { name = refl; item = refl; writes = refl; marked = refl }
