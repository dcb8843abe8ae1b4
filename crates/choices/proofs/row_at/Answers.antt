-- The rows of the table are its chunks.
use mathlib.Core.Path.{◌∙◌, ap}
use mathlib.Core.List.{List, []}
use Prim.Native.Nat.{ℕ, ◌/◌}
use native.Mathlib.Omega.{arith}
use lib.ListN.{get_or, length}
use Rattle.names.specs.Sizes.{base}
use Rattle.rules.specs.Tables.{version_row}
use Rattle.choices.proofs.Lent.{cut_row}
use Rattle.choices.proofs.row_at.Goals as goal

pub returns : goal.returns
returns c =
    let v = c.args.versions.now in
    let x = c.args.item.0 in
    ap (λ (rows : List (List ℕ)). get_or rows x []) c.as_chunks.ensures.front
    ∙ cut_row (length v / version_row base) x v (let e = c.told-versions in omega arith)
