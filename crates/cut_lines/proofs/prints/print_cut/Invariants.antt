-- The lines of the pieces that begin below `i` are written.
use Prim.Native.Nat.{◌*◌, ◌≤◌}
use mathlib.Core.Path.{◌≡◌}
use lib.ListN.{length}
use Rattle.texts.specs.Written.{Wrote}
use Rattle.finest.specs.Choppings.{passing, leads}
use Rattle.finest.specs.Rows.{operations_in}
use Rattle.cut_lines.specs.Text.{lines_at}
use Rattle.cut_lines.specs.Given.{name_in, longest_piece}
use Rattle.cut_lines.proofs.prints.print_cut.Given as goal

abbrev pub invariant-loop-i : goal.invariant-loop-i
invariant-loop-i l = (length l.out ≡ length l.initial.out) × Wrote l.initial.out 0 (lines_at (name_in l.names) (operations_in l.words) l.cut (passing (leads (operations_in l.words) l.cut) 0 l.i)) l.out l.end × (l.end ≤ longest_piece * l.i)
