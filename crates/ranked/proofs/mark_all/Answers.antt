use mathlib.Core.Path.{refl}
use Rattle.ranked.proofs.Marking.{marked_none}
use Rattle.ranked.proofs.mark_all.Goals as goal

pub loop-slot-init : goal.loop-slot-init
loop-slot-init c = marked_none _ _ _ refl
