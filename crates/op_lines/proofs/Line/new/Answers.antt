-- A line with no byte.
use mathlib.Core.Path.{refl}
use Rattle.line_words.specs.Speech.{after_all, spoken, ended_in}
use Rattle.op_lines.specs.Read.{hear_all, silence}
use Rattle.line_words.specs.Held.{KeepsWords}
use Rattle.op_lines.proofs.Line.new.Goals as goal

pub returns : goal.returns
unfolding KeepsWords spoken after_all ended_in hear_all silence
returns c = record { words = c.new-speech.ensures; heard = record { stage = refl; operation = c.new-noted.ensures } }
