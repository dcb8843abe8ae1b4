-- What stands from a place on: `ended` past the end, `opened` before it.
use Prim.Native.Nat.{ℕ, ◌+◌, ◌<◌, ◌≤◌}
use mathlib.Core.Path.{◌≡◌}
use mathlib.Core.List.{List, [], ◌∷◌}
use native.Mathlib.Numerals.{add-one}
use lib.ListN.{length, get_or, drop, drop_of_length-le}
use lib.Seq.{drop-cons}

-- past the end nothing is left; before it, the byte and what follows
pub ended : (l : List ℕ) (k : ℕ) → length l ≤ k → drop k l ≡ []
ended l k h = drop_of_length-le l h

pub opened : (l : List ℕ) (k : ℕ) → k < length l → drop k l ≡ get_or l k 0 ∷ drop (k + 1) l
opened l k h = rw (add-one k) (drop-cons l k 0 h)
