-- A space, and then the digits.
use native.Mathlib.Omega.{arith}
use Rattle.numerals.proofs.Decimals.{length-decimal}
use Rattle.texts.proofs.Written.{wrote_more}
use Rattle.number_lines.proofs.Printed.{spaced_one}
use Rattle.number_lines.proofs.spaced.print_word.Goals as goal

pub decimal-requires : goal.decimal-requires
decimal-requires c = omega (arith, length-decimal c.args.word, c.requires, c.put-from.ensures.index, c.put-from.auto.out)

pub returns : goal.returns
returns c = rw (← spaced_one c.args.word) (wrote_more (omega (arith, c.requires)) c.put-from.ensures c.decimal.ensures)
