-- `digits` goes along the digits: from each index on they are read, after the value so far, as from the first.
use mathlib.Core.Path.{◌≡◌}
use lib.ListN.{drop}
use Rattle.numerals.specs.Numbers.{digits_from}
use Rattle.numerals.proofs.numbers.digits.Given as goal

abbrev pub invariant-loop-k : goal.invariant-loop-k
invariant-loop-k l = digits_from l.value (drop l.k l.line) ≡ digits_from 0 (drop l.from l.line)
