-- A word with no byte.
use mathlib.Core.Path.{refl}
use Rattle.line_words.specs.Words.{hash}
use Rattle.line_words.proofs.speech.Speech.new.Goals as goal

pub returns : goal.returns
unfolding hash
returns c = record { over = refl; word = c.new-word.ensures; plain = refl }
