-- The numbers of the set below `x` are written, three bytes at most for each.
use Prim.Native.Nat.{ℕ, ◌+◌, ◌*◌, ◌≤◌}
use mathlib.Core.Path.{◌≡◌}
use mathlib.Core.List.{List}
use lib.ListN.{length}
use Rattle.rules.specs.Words.{bit}
use Rattle.texts.specs.Written.{Wrote}
use Rattle.numerals.specs.Print.{spaced}
use Rattle.finest.specs.Choppings.{passing}
use Rattle.cut_lines.specs.Given.{raised}
use Rattle.cut_lines.proofs.prints.put_set.Given as goal

abbrev pub text : ℕ → ℕ → ℕ → List ℕ
text set more n = spaced (raised more (passing (bit set) 0 n))

abbrev pub invariant-loop-x : goal.invariant-loop-x
invariant-loop-x l = (length l.out ≡ length l.initial.out) × Wrote l.initial.out l.at (text l.set l.more l.x) l.out l.end × (l.end ≤ l.at + 3 * l.x)
