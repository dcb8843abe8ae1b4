-- Request E13, of all sizes with a place for every slot, and of the appliance's.
use Prim.Native.Nat.{◌≤◌}
use mathlib.Core.List.{List}
use native.Mathlib.Omega.{arith}
use Rattle.names.specs.declared.Sizes.{Sizes}
use Rattle.names.specs.Sizes.{base}
use Rattle.rules.specs.Answers.{Call}
use Rattle.textbook.specs.Promises.{Shown}
use Rattle.textbook.proofs.Run.{whats-told}
use Rattle.textbook.proofs.Exactly.{exactly}
use Rattle.textbook.proofs.Ending.{told_by_tables}
use Rattle.textbook.proofs.Theorem.{textbook}
use Rattle.textbook.proofs.Ordering.{respects}

pub graph_sizes : (S : Sizes) → S.slots ≤ S.places → 1 ≤ S.places → (cs : List Call) → Shown S cs
graph_sizes S enough room cs =
    record {
      told = whats-told S cs;
      exactly = exactly S enough room cs;
      by_tables = told_by_tables S enough room cs;
      textbook = textbook S enough room cs;
      respects = respects S enough room cs;
    }

-- "Over any run from fresh tables .. show that it has no circle"; "an order that respects it"
pub graph : (cs : List Call) → Shown base cs
graph = graph_sizes base (omega arith) (omega arith)
