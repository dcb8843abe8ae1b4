-- Peeling: a slot that waits for none of the others is on no circle among them.
use Rattle.std.specs.Prelude.{ℕ, ◌^◌, ◌≤◌, ◌<◌, ◌≡◌, cond, List, get_or, T, eqb}
use Rattle.std.specs.Int.Bits.{bit_and, bit_xor}
use Rattle.names.specs.Sizes.{base}
use Rattle.rules.specs.Words.{bit}
use Rattle.rules.specs.Waits.{Walk}
use Rattle.circles.specs.Links.{linked}

-- slot a goes where it waits for nobody of m
unfoldable pub peeled : List ℕ → ℕ → ℕ → ℕ
peeled w m a = cond (eqb (bit_and (get_or w a 0) m) 0) (bit_xor m (bit_and m (2 ^ a))) m

-- every slot on a circle is in m
unfoldable pub Keeps : List ℕ → ℕ → Type 0
Keeps w m = (a : ℕ) → Walk (linked w) a a → T (bit m a)

-- what a turn over all slots leaves of `left`: no slot of a circle goes, and where none goes at all, each waits for one of them
pub record Swept (w : List ℕ) (left m : ℕ) : Type 0 where
  pub less : m ≤ left
  pub keeps : Keeps w left → Keeps w m
  pub stuck : m ≡ left → (a : ℕ) → a < base.slots → T (bit left a) → bit_and (get_or w a 0) left ≡ 0 → ⊥
