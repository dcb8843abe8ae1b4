-- The numbers passed are written.
use mathlib.Core.Path.{◌≡◌}
use lib.ListN.{length, take}
use Rattle.numerals.specs.Print.{spaced}
use Rattle.texts.specs.Written.{Wrote}
use Rattle.number_lines.proofs.spaced.print_words.Given as goal

abbrev pub invariant-loop-word : goal.invariant-loop-word
invariant-loop-word l = (length l.out ≡ length l.initial.out) × Wrote l.initial.out l.at (spaced (take l.word-index l.words)) l.out l.end
