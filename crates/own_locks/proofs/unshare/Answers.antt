-- No lock is shared.
use mathlib.Core.Path.{sym, ◌∙◌}
use Rattle.std.proofs.Common.{rules}
use Rattle.names.specs.Sizes.{base}
use Rattle.rules.specs.Tables.{unshared}
use Rattle.rules.proofs.Views.{lock-unshare, length-unshare}
use Rattle.own_locks.proofs.Releases.{locks-same}
use Rattle.own_locks.proofs.unshare.Goals as goal

pub returns : goal.returns
returns c =
    let s = c.args.slot.0 in
    let l = c.args.locks.now in
    let done = c.change.ensures (unshared s) (λ row made h. search rules) in
    locks-same base _ _ c.change.array_long (length-unshare base s l c.told-locks) (λ y i. done y i ∙ sym (lock-unshare base s l c.told-locks y i))
