-- Halving ends at the version that a reader reads, after no more looks than are counted.
use Prim.Native.Nat.{ℕ, ◌+◌, ◌-◌, ◌≤◌, ◌<◌}
use mathlib.Core.Path.{◌≡◌}
use mathlib.Core.Bool.{Bool, not}
use lib.ListN.{get_or}
use Rattle.names.specs.Sizes.{base}
use Rattle.rules.specs.Tables.{Reader}
use Rattle.rules.specs.Versions.{no_version, versions_in, sees}
use Rattle.choices.specs.Pairs.{count_in}
use Rattle.choices.specs.Choosable.{ChoosableIn}
use Rattle.choices.specs.Looks.{halvings, most_looks}
use Rattle.choices.proofs.Halved.{Halved}
use Rattle.choices.proofs.place_by.Given as goal

-- the looks that are left are as many as the places that are left can be halved
abbrev pub invariant-loop-lo : goal.invariant-loop-lo
invariant-loop-lo g l =
    (l.lo ≤ l.hi)
    × (l.hi < count_in l.row)
    × ((q : Reader) → ChoosableIn l.row q
    → ((k : ℕ) (b : Bool) → k < count_in l.row → goal.F-post g l.too_new k b → b ≡ not (sees q (get_or (versions_in base l.row) k no_version)))
    → Halved l.row q l.lo l.hi × (halvings base.places (l.hi - l.lo) + l.looks ≤ most_looks))

abbrev pub decreases-loop-lo : goal.decreases-loop-lo
decreases-loop-lo g l = most_looks - l.looks
