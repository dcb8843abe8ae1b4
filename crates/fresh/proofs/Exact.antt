-- Tables of the exact sizes are made fresh: what a program's start goes by.
use Prim.Native.Nat.{ℕ}
use mathlib.Core.Path.{◌≡◌}
use mathlib.Core.List.{List}
use lib.ListN.{length}
use borrow.Author.Tests.{eq-eqb}
use Rattle.names.specs.Sizes.{base}
use Rattle.rules.specs.Tables.{tables, txn_words, lock_words, version_words, fresh}
use Rattle.rules.specs.Tested.{sizes_exact}
use Rattle.fresh.specs.Made.{freshened}

pub made_fresh : (t l v : List ℕ) → length t ≡ txn_words base → length l ≡ lock_words base → length v ≡ version_words base →
    freshened base (tables t l v) ≡ fresh base
unfolding freshened sizes_exact
made_fresh t l v a b c = rw (eq-eqb (length t) (txn_words base) a, eq-eqb (length l) (lock_words base) b, eq-eqb (length v) (version_words base) c)
