-- The names below `at` are written, and zeros stand behind them.
use Prim.Native.Nat.{ℕ, ◌-◌}
use mathlib.Core.Path.{◌≡◌}
use mathlib.Core.List.{List}
use lib.ListN.{length, take, drop, replicate}
use Rattle.rules.specs.Words.{tabulate_from}
use Rattle.graph.specs.Sets.{lowest}
use Rattle.finest.specs.Operations.{most}
use Rattle.finest.specs.Finest.{piece_at}
use Rattle.finest.specs.Rows.{operations_in}
use Rattle.finest.proofs.naming.names_of.Given as goal

-- the name of the piece of operation i
unfoldable pub name : List ℕ → ℕ → ℕ
name words i = lowest (piece_at (operations_in words) i)

abbrev pub invariant-loop-at : goal.invariant-loop-at
invariant-loop-at l =
    (length l.out ≡ most) × (take l.at l.out ≡ tabulate_from 0 l.at (name l.words)) × (drop l.at l.out ≡ replicate (most - l.at) 0)
