-- Who has joined, as the code tests it: by the word of a row that says from whom its newest version is hidden, and only where a relaxed
-- query lives.
use Rattle.std.specs.Prelude.{ℕ, ◌+◌, ◌*◌, Bool, true, ◌&&◌, cond, List, get_or, eqb}
use Rattle.names.specs.declared.Sizes.{Sizes}
use Rattle.rules.specs.Words.{implies, every_below, contains}
use Rattle.rules.specs.Tables.{version_row, masks_at, txn, Lock, lock, holds_shared, holds_exclusive, relaxed_in}
use Rattle.rules.specs.Tested.{sets_good, holders_joined}

-- slot s, if it holds the lock h exclusively, is in the sets of all; if it shares it, in those of m
unfoldable pub slot_joined : List ℕ → Lock → ℕ → ℕ → ℕ → Bool
slot_joined t h all m s =
    implies (holds_exclusive h s) (contains (txn t s).later_for all) && implies (holds_shared h s) (contains (txn t s).later_for m)

-- the word of the row of item x that says from whom its first version is hidden
unfoldable pub hidden_word : Sizes → List ℕ → ℕ → ℕ
hidden_word S v x = get_or v (version_row S * x + masks_at S) 0

unfoldable pub joined_at : Sizes → List ℕ → List ℕ → List ℕ → ℕ → Bool
joined_at S t l v x = holders_joined S t x (lock l x) (hidden_word S v x)

unfoldable pub all_joined : Sizes → List ℕ → List ℕ → List ℕ → Bool
all_joined S t l v = every_below S.items (joined_at S t l v)

-- where no relaxed query lives, nobody had to join
unfoldable pub sets_test : Sizes → List ℕ → List ℕ → List ℕ → Bool
sets_test S t l v = sets_good S t && cond (eqb (relaxed_in S t) 0) true (all_joined S t l v)
