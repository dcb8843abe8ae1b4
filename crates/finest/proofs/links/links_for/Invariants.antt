-- The links of the operations below `at` are written.
use Prim.Native.Nat.{ℕ, ◌/◌}
use mathlib.Core.Path.{◌≡◌}
use mathlib.Core.List.{List}
use lib.ListN.{length, take}
use Rattle.rules.specs.Words.{tabulate_from}
use Rattle.graph.specs.Sets.{those}
use Rattle.finest.specs.Operations.{most}
use Rattle.finest.specs.Finest.{linked_for}
use Rattle.finest.specs.Rows.{operations_in}
use Rattle.finest.proofs.links.links_for.Given as goal

-- all of the first n operations that operation i is linked with
unfoldable pub link_word : List ℕ → ℕ → ℕ → ℕ → ℕ
link_word words t n i = those n (linked_for (operations_in words) t i)

abbrev pub invariant-loop-at : goal.invariant-loop-at
invariant-loop-at l =
    (length l.out ≡ most) × (take l.at l.out ≡ tabulate_from 0 l.at (link_word l.words l.t (length l.words / 4)))
