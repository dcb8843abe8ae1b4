-- No piece yet.
use mathlib.Core.Path.{refl}
use native.Mathlib.Omega.{arith}
use Rattle.rules.specs.Words.{every, some}
use Rattle.line_words.specs.Held.{counted}
use Rattle.cutting.specs.Chopping.{chopped_from}
use Rattle.cutting.specs.Life.{row_words}
use Rattle.cutting.proofs.pieces.Pieces.new.Goals as goal

pub returns : goal.returns
unfolding counted every some chopped_from row_words
returns c = record { count = refl; unknown = refl; holding = λ _. record { names = record { plain = refl; rows = λ i h. absurd (omega arith) }; rows = refl } }
