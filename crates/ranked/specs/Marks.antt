-- The ranks marked, item by item: a word for each item, with a bit for each rank that is taken there.
use Rattle.std.specs.Prelude.{ℕ, suc, ◌+◌, ◌-◌, ◌/◌, ◌^◌, ◌≤◌, ◌<◌, ◌≡◌, ◌≢◌, Bool, true, false, ◌&&◌, ◌||◌, List, get_or, length, T, eqb}
use Rattle.names.specs.Sizes.{base}
use Rattle.rules.specs.Words.{bit, implies, some_below}
use Rattle.rules.specs.Tables.{txn, txn_words, lock, lock_words, holds_shared, no_lock}
use Rattle.rules.specs.Waits.{awaits, awaits_on}
use Rattle.rules.specs.Tested.{ranks_good}

-- ---- what is known of the tables when the ranks are tested
pub record Known (t l : List ℕ) : Type 0 where
  pub txns_exact : length t ≡ txn_words base
  pub locks_exact : length l ≡ lock_words base
  pub item_known : (s : ℕ) → s < base.slots → (txn t s).awaited_lock ≢ no_lock → (txn t s).awaited_item < base.items

-- ---- the marks
-- the marks are numbered from 1: a rank's mark has the rank as its number. A rank's second mark stands so much higher, above the marks
-- of all ranks
abbrev pub sharing : ℕ
sharing = base.slots

-- slot s sets mark q in the word of item x: it waits there, and q is its rank's mark, or its rank's second mark if it shares the item
unfoldable pub marks : List ℕ → List ℕ → ℕ → ℕ → ℕ → Bool
marks t l x q s =
    awaits_on x (txn t s)
    && (eqb (txn t s).rank q || (holds_shared (lock l x) s && eqb ((txn t s).rank + sharing) q))

-- the words w hold the marks of the first n slots, mark 1 in bit 0. Their ranks are from 1 to the number of slots, and no two on an item are the same
pub record Marked (t l w : List ℕ) (n : ℕ) : Type 0 where
  pub size : length w ≡ base.items
  pub at : (x q : ℕ) → x < base.items → bit (get_or w x 0) q ≡ some_below n (marks t l x (suc q))
  pub least : (s : ℕ) → s < n → T (awaits (txn t s)) → 1 ≤ (txn t s).rank
  pub most : (s : ℕ) → s < n → T (awaits (txn t s)) → (txn t s).rank ≤ base.slots
  pub apart :
      (x r s : ℕ) → r < n → s < n → r ≢ s → T (awaits_on x (txn t r)) → T (awaits_on x (txn t s))
      → (txn t r).rank ≢ (txn t s).rank

-- the answer r to whether the first n slots can be marked: if so, w holds their marks; if not, the ranks are not good
pub record Marking (t l w : List ℕ) (n : ℕ) (r : Bool) : Type 0 where
  pub yes : r ≡ true → Marked t l w n
  pub no : r ≡ false → T (ranks_good base t l) → ⊥

-- in the word m the rank q is the first, or the rank before it is marked
unfoldable pub follows : ℕ → ℕ → Bool
follows m q = eqb q 1 || bit m (q - 2)

-- slot s, if it waits, stands first or right behind a rank that is taken; and if it does not share the item, no second mark stands at
-- its own rank or behind
unfoldable pub placed : List ℕ → List ℕ → List ℕ → ℕ → Bool
placed t l w s =
    let r = txn t s in
    let m = get_or w r.awaited_item 0 in
    implies (awaits r)
    (follows m r.rank && (holds_shared (lock l r.awaited_item) s || eqb (m / 2 ^ (r.rank - 1 + sharing)) 0))
