use mathlib.Core.Path.{◌∙◌}
use Prim.Native.Nat.{ℕ}
use native.Mathlib.Omega.{arith}
use Rattle.std.proofs.Common.{rules}
use Rattle.names.specs.Sizes.{base}
use Rattle.rules.specs.Words.{row}
use Rattle.rules.specs.Tables.{version_row}
use Rattle.versions.specs.Rows.{row_ok, rows_ok}
use Rattle.versions.proofs.Same.{rows_same}
use Rattle.versions.proofs.all_good.Goals as goal

pub returns : goal.returns
unfolding rows_ok
returns c =
    let a = c.args in
    let f = c.ranges.clock.fits in
    λ qs us h s.
    c.every_below.ensures (λ (i : ℕ). row_ok a.clock a.starts.now a.relaxed (row (version_row base) i a.versions.now)) (search rules)
    ∙ rows_same a.clock qs us a.starts.now a.relaxed a.versions.now (omega arith) c.told-versions h s
