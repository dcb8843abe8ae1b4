-- The value of the first pair of the row.
use mathlib.Core.Path.{◌∙◌, ap, sym}
use native.Mathlib.Omega.{arith}
use mathlib.Core.List.{List}
use Prim.Native.Nat.{ℕ}
use lib.ListN.{get_or}
use Rattle.names.specs.Sizes.{base}
use Rattle.rules.specs.Words.{row}
use Rattle.rules.specs.Tables.{version_row}
use Rattle.rules.specs.Versions.{newest, versions_of}
use Rattle.choices.proofs.Read.{value_in_lem}
use Rattle.choices.proofs.newest.Goals as goal

pub returns : goal.returns
unfolding newest versions_of
returns c =
    let a = c.args in
    ap (λ (r : List ℕ). get_or r 2 0) c.row_at.ensures
    ∙ sym (value_in_lem (row (version_row base) a.item.0 a.versions.now) 0 (let h = c.requires.1 in omega arith))
