-- Text written over lent bytes from a place on: `written` and `Wrote`, where there is room for it; a `Buffer` with a text `put` into
-- it, or not, where there is none.
use Rattle.std.specs.Prelude.{ℕ, ◌+◌, ◌≡◌, cond, List, ◌++◌, leb, length, take, drop}

-- bytes with a text written over them from a place on
unfoldable pub written : List ℕ → ℕ → List ℕ → List ℕ
written l at text = take at l ++ (text ++ drop (at + length text) l)

-- the text stands there, nothing else is changed, and the answer is the index after it
pub record Wrote (before : List ℕ) (at : ℕ) (text after : List ℕ) (end : ℕ) : Type 0 where
  pub bytes : after ≡ written before at text
  pub index : end ≡ at + length text

-- a buffer, and the place for what comes next
pub record Buffer : Type 0 where
  pub bytes : List ℕ
  pub next : ℕ

abbrev pub buffer : List ℕ → ℕ → Buffer
buffer l at = record { bytes = l; next = at }

-- the text stands at the place, and the next place is behind it; where there is no room for it, nothing is changed
unfoldable pub put : List ℕ → Buffer → Buffer
put text b =
    cond (leb (b.next + length text) (length b.bytes))
    (buffer (written b.bytes b.next text) (b.next + length text))
    b
