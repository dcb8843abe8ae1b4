-- Nothing is noted.
use mathlib.Core.Path.{refl}
use Rattle.rules.specs.Words.{some}
use Rattle.piece_lines.specs.Items.{word_with, word_of, unknown_in}
use Rattle.line_words.specs.Held.{padded}
use Rattle.piece_lines.proofs.stages.Noted.new.Goals as goal

pub returns : goal.returns
unfolding padded word_with word_of unknown_in some
returns c = record { name = refl; reads = refl; writes = refl; unknown = refl }
