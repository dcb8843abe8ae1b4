-- Request E10: "one piece a line in E9's form, ordered by its first operation, with its operations by their place in the input behind
-- it as a comment (`T1 reads 3 writes 4 # 1 3`)".
use Rattle.std.specs.Prelude.{ℕ, suc, List, [], ◌∷◌, ◌++◌, map, length}
use Rattle.rules.specs.Words.{bit}
use Rattle.numerals.specs.Print.{spaced}
use Rattle.line_words.specs.Words.{reads, writes}
use Rattle.chop.specs.Pieces.{Piece}
use Rattle.finest.specs.Operations.{Operation, items}
use Rattle.finest.specs.Choppings.{together, passing, piece_by, leaders}

-- "Items in a printed piece rise, each once in each part; one that is read and written stands in both"
unfoldable pub items_in : ℕ → List ℕ
items_in set = passing (bit set) 0 items

-- "either part missing if empty"
unfoldable pub part_text : List ℕ → List ℕ → List ℕ
part_text word [] = []
part_text word (i ∷ is) = 32 ∷ (word ++ spaced (i ∷ is))

-- the items that a piece reads, then those that it writes
unfoldable pub items_text : Piece → List ℕ
items_text p = part_text reads (items_in p.reads) ++ part_text writes (items_in p.writes)

-- "its operations by their place in the input behind it as a comment", and the line's end
unfoldable pub places_text : List ℕ → List ℕ
places_text places = (32 ∷ 35 ∷ []) ++ (spaced places ++ (10 ∷ []))

unfoldable pub piece_line : List ℕ → Piece → List ℕ → List ℕ
piece_line name p places = name ++ (items_text p ++ places_text places)

-- the operations of the piece of operation i: "by their place in the input", from 1, and "rise"
unfoldable pub places_of : List Operation → List ℕ → ℕ → List ℕ
places_of os c i = map suc (passing (together os c i) 0 (length os))

-- the line of the piece of operation i, where `name` has the name of each operation's program
unfoldable pub line_at : (ℕ → List ℕ) → List Operation → List ℕ → ℕ → List ℕ
line_at name os c i = piece_line (name i) (piece_by os c i) (places_of os c i)

unfoldable pub lines_at : (ℕ → List ℕ) → List Operation → List ℕ → List ℕ → List ℕ
lines_at name os c [] = []
lines_at name os c (i ∷ is) = line_at name os c i ++ lines_at name os c is

-- "one piece a line .., ordered by its first operation"
unfoldable pub cut_text : (ℕ → List ℕ) → List Operation → List ℕ → List ℕ
cut_text name os c = lines_at name os c (leaders os c)
