-- A word with no byte.
use mathlib.Core.Path.{refl}
use Rattle.rules.specs.Words.{every}
use Rattle.line_words.proofs.word.Word.new.Goals as goal

pub returns : goal.returns
unfolding every
returns c = record { bytes = c.new-kept.ensures; plain = refl; digits = c.new-digits.ensures }
