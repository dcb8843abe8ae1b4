-- No operation yet.
use mathlib.Core.Path.{refl}
use native.Mathlib.Omega.{arith}
use Rattle.rules.specs.Words.{every, some}
use Rattle.line_words.specs.Held.{counted}
use Rattle.fining.specs.Programs.{numbered_from}
use Rattle.fining.specs.Life.{row_words}
use Rattle.fining.proofs.operations.Operations.new.Goals as goal

pub returns : goal.returns
unfolding counted every some numbered_from row_words
returns c = record { count = refl; unknown = refl; holding = λ _. record { names = record { plain = refl; rows = λ i h. absurd (omega arith) }; rows = refl } }
