-- At how many stamps a search by halving looks.
use Rattle.std.specs.Prelude.{ℕ, zero, suc, ◌/◌}

-- how often n is halved until nothing is left, at most k times; for n up to k that is no limit
unfoldable pub halvings : ℕ → ℕ → ℕ
halvings zero n = 0
halvings (suc k) zero = 0
halvings (suc k) (suc n) = suc (halvings k (suc n / 2))

-- in a row of as many versions as there are places, and in a shorter one
abbrev pub most_looks : ℕ
most_looks = 5
