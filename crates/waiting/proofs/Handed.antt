-- What the waits are read from, good tables have.
use Prim.Native.Nat.{ℕ}
use mathlib.Core.List.{List}
use Rattle.names.specs.Sizes.{base}
use Rattle.rules.specs.Tables.{tables, lock}
use Rattle.rules.specs.Good.{Good}
use Rattle.rules.proofs.EqualRows.{holder}
use Rattle.waiting.specs.Waiting.{Readable}

-- good tables can be read
pub good_readable : (t l v : List ℕ) → Good base (tables t l v) → Readable t l
good_readable t l v g =
    record {
      txns_exact = g.txns_exact;
      locks_exact = g.locks_exact;
      lock_listed = λ s i. (g.txn_good s i).lock_listed;
      item_known = λ s i. (g.txn_good s i).item_known;
      inside = λ x i b a. (holder base t (lock l x) (g.lock_good x i) b a).0;
    }
