-- Every lock is released.
use mathlib.Core.Path.{sym, ◌∙◌}
use Rattle.std.proofs.Common.{rules}
use Rattle.names.specs.Sizes.{base}
use Rattle.rules.specs.Tables.{released}
use Rattle.rules.proofs.Views.{lock-release, length-release}
use Rattle.own_locks.proofs.Releases.{locks-same}
use Rattle.own_locks.proofs.release.Goals as goal

pub returns : goal.returns
returns c =
    let s = c.args.slot.0 in
    let l = c.args.locks.now in
    let done = c.change.ensures (released s) (λ row made h. search rules) in
    locks-same base _ _ c.change.array_long (length-release base s l c.told-locks) (λ y i. done y i ∙ sym (lock-release base s l c.told-locks y i))
