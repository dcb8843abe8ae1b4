-- The words of a row of versions: its count, and at a place, from 0, the stamp, the value and from whom they are hidden.
use Rattle.std.specs.Prelude.{ℕ, ◌+◌, ◌*◌, List, get_or}
use Rattle.names.specs.Sizes.{base}
use Rattle.names.specs.Layout.{version_count_at, version_stamp_at, version_value_at, version_pair}
use Rattle.rules.specs.Tables.{masks_at}

abbrev pub count_in : List ℕ → ℕ
count_in r = get_or r version_count_at 0

abbrev pub stamp_in : List ℕ → ℕ → ℕ
stamp_in r k = get_or r (k * version_pair + version_stamp_at) 0

abbrev pub value_in : List ℕ → ℕ → ℕ
value_in r k = get_or r (k * version_pair + version_value_at) 0

abbrev pub hidden_in : List ℕ → ℕ → ℕ
hidden_in r k = get_or r (masks_at base + k) 0
