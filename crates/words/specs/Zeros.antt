-- Words of a list that are zero.
use Rattle.std.specs.Prelude.{ℕ, ◌+◌, Bool, List, get_or, eqb}
use Rattle.rules.specs.Words.{every_below}

-- n words from a place on are zero
unfoldable pub zero_words : List ℕ → ℕ → ℕ → Bool
zero_words l from n = every_below n (λ k. eqb (get_or l (from + k) 0) 0)
