-- The measure of `decimal` is the number.
use Rattle.numerals.proofs.answers.+decimal.Given as goal

abbrev pub decreases-decimal : goal.decreases-decimal
decreases-decimal l = l.n
