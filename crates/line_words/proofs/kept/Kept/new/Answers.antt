-- A word with no byte.
use mathlib.Core.Path.{refl}
use Rattle.line_words.specs.Held.{counted, padded}
use Rattle.line_words.proofs.kept.Kept.new.Goals as goal

pub returns : goal.returns
unfolding counted padded
returns c = record { count = refl; bytes = λ _. refl }
