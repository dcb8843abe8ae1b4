-- No digit is worth 0.
use mathlib.Core.Path.{refl}
use Rattle.rules.specs.Words.{every}
use Rattle.numerals.specs.Numbers.{worth}
use Rattle.line_words.specs.Held.{number_in}
use Rattle.line_words.proofs.digits.Digits.new.Goals as goal

pub returns : goal.returns
unfolding every worth number_in
returns c = record { value = refl }
