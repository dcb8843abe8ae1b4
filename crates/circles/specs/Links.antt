-- Who waits for whom, as one word of slots for each slot, and the walks along such waits.
use Rattle.std.specs.Prelude.{ℕ, ◌^◌, ◌<◌, ◌≡◌, ◌⊎◌, Bool, List, get_or, length, T}
use Rattle.names.specs.Sizes.{base}
use Rattle.rules.specs.Words.{bit}
use Rattle.rules.specs.Waits.{Walk}

-- slot a waits for slot b
unfoldable pub linked : List ℕ → ℕ → ℕ → Bool
linked w a b = bit (get_or w a 0) b

-- a word for each slot, and only slots in each word
pub record LinkWords (w : List ℕ) : Type 0 where
  pub size : length w ≡ base.slots
  pub small : (a : ℕ) → a < base.slots → get_or w a 0 < 2 ^ base.slots

-- a word of slots that holds everybody who waits
pub record Waiting (w : List ℕ) (waiting : ℕ) : Type 0 where
  pub small : waiting < 2 ^ base.slots
  pub all : (a b : ℕ) → T (linked w a b) → T (bit waiting a)

-- nobody can walk along the waits back to himself
unfoldable pub NoCircle : List ℕ → Type 0
NoCircle w = (a : ℕ) → Walk (linked w) a a → ⊥

-- some slot of `from` is the goal, or one can walk from it to the goal
unfoldable pub Leads : List ℕ → ℕ → ℕ → Type 0
Leads w from goal = (b : ℕ) × T (bit from b) × ((b ≡ goal) ⊎ Walk (linked w) b goal)
