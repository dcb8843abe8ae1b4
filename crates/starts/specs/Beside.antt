-- What stands on either side of a stamp among starts.
use Rattle.std.specs.Prelude.{ℕ, suc, ◌≤◌, ◌<◌, ◌≡◌, ◌⊎◌}
use mathlib.Core.List.{List, Memᴰ}
use Rattle.starts.specs.Ordered.{guard}

-- below is one more than the greatest of the starts qs that are below the stamp, 0 where none is; next is the least of the
-- others, the greatest word where there is none
pub record Beside (qs : List ℕ) (stamp below next : ℕ) : Type 0 where
  pub lower : (q : ℕ) → Memᴰ q qs → q < stamp → q < below
  pub below_is : (below ≡ 0) ⊎ ((q : ℕ) × Memᴰ q qs × (q < stamp) × (below ≡ suc q))
  pub upper : (q : ℕ) → Memᴰ q qs → stamp ≤ q → next ≤ q
  pub next_is : (next ≡ guard) ⊎ (Memᴰ next qs × (stamp ≤ next))
