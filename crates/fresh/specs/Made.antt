-- Tables filled fresh where their sizes are exact.
use Rattle.std.specs.Prelude.{cond}
use Rattle.names.specs.declared.Sizes.{Sizes}
use Rattle.rules.specs.Tables.{Tables, fresh}
use Rattle.rules.specs.Tested.{sizes_exact}

-- fresh tables in the place of tables of the exact sizes; others stay as they are
unfoldable pub freshened : Sizes → Tables → Tables
freshened S G = cond (sizes_exact S G) (fresh S) G
