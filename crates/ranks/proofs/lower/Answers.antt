use mathlib.Core.Path.{◌≡◌, refl}
use Prim.Native.Nat.{◌-◌}
use mathlib.Core.Bool.{cond}
use lib.Dec.{ltb}
use Rattle.std.proofs.Common.{rules}
use Rattle.rules.specs.Waits.{lowered}
use Rattle.ranks.proofs.lower.Goals as goal

pub returns : goal.returns
unfolding lowered
returns c = c.move_line.ensures (lowered c.args.item.0 c.args.behind) (λ r to a p. let e : to ≡ cond (ltb c.args.behind r.rank) (r.rank - 1) r.rank = search rules in rw a e) (λ r a. rw a refl)
