-- "the transaction's name .., then `reads` and items, then `writes` and items, either part missing if empty, single spaces":
-- as a relation between a line and the piece that it says.
use Rattle.std.specs.Prelude.{ℕ, ◌≡◌, List, [], ◌∷◌, ◌++◌}
use Rattle.numerals.specs.Numbers.{Numeral}
use Rattle.line_words.specs.Words.{words_of, uncommented, reads, writes}
use Rattle.line_words.specs.Said.{Name}

-- a transaction's name, the items read and the items written, in the line's order
pub record Piece : Type 0 where
  pub name : List ℕ
  pub reads : List ℕ
  pub writes : List ℕ

abbrev pub piece : List ℕ → List ℕ → List ℕ → Piece
piece n r w = record { name = n; reads = r; writes = w }

-- each word is an item
pub data Items : List (List ℕ) → List ℕ → Type 0 where
  none : Items [] []
  more : {w : List ℕ} {i : ℕ} {ws : List (List ℕ)} {is : List ℕ} → Numeral w i → Items ws is → Items (w ∷ ws) (i ∷ is)

-- "A part that is there has at least one item": the part's word and its items, or nothing
unfoldable pub part : List ℕ → List (List ℕ) → List (List ℕ)
part word [] = []
part word (w ∷ ws) = word ∷ w ∷ ws

pub record Says (line : List ℕ) (p : Piece) : Type 0 where
  pub read : List (List ℕ)
  pub written : List (List ℕ)
  pub words : uncommented (words_of line) ≡ p.name ∷ (part reads read ++ part writes written)
  pub named : Name p.name
  pub items-read : Items read p.reads
  pub items-written : Items written p.writes
