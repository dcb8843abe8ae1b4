use mathlib.Core.Path.{◌≡◌, refl}
use Prim.Native.Nat.{◌+◌}
use mathlib.Core.Bool.{cond}
use lib.Dec.{leb}
use Rattle.std.proofs.Common.{rules}
use Rattle.rules.specs.Waits.{raised}
use Rattle.ranks.proofs.raise.Goals as goal

pub returns : goal.returns
unfolding raised
returns c = c.move_line.ensures (raised c.args.item.0 c.args.from) (λ r to a p. let e : to ≡ cond (leb c.args.from r.rank) (r.rank + 1) r.rank = search rules in rw a e) (λ r a. rw a refl)
