-- Request E9, rows of words: a piece is a distinct pair of a transaction and a piece's number, in the order of first appearance.
use Rattle.std.specs.Prelude.{ℕ, zero, suc, ◌+◌, ◌*◌, ◌/◌, ◌%◌, ◌^◌, Bool, ◌&&◌, ◌||◌, not, cond, List, [], ◌∷◌, ◌++◌, map, get_or, length, set, eqb, ltb}
use Rattle.std.specs.Int.Bits.{bit_or}
use Rattle.rules.specs.Words.{first_from, some_below}
use Rattle.chop_rows.specs.declared.Row.{Row}
use Rattle.chop_rows.specs.declared.Noted.{Noted}
use Rattle.chop.specs.Pieces.{Piece, most}
use Rattle.chop.specs.Verdicts.{Verdict, too_many_pieces, unknown_item, malformed}
use Rattle.chop.specs.Judgement.{judgement}

abbrev pub read_mode : ℕ
read_mode = 0

abbrev pub write_mode : ℕ
write_mode = 1

-- items are 0 to 63
abbrev pub items : ℕ
items = 64

-- row i of four words: transaction, piece, item, and how the item is touched
abbrev pub row_at : List ℕ → ℕ → Row
row_at words i =
    record {
      transaction = get_or words (i * 4) 0;
      number = get_or words (i * 4 + 1) 0;
      item = get_or words (i * 4 + 2) 0;
      mode = get_or words (i * 4 + 3) 0;
    }

-- how many whole rows there are
abbrev pub row_count : List ℕ → ℕ
row_count words = length words / 4

abbrev pub no_noted : Noted
no_noted = record { transaction = 0; number = 0; reads = 0; writes = 0 }

-- the row is one of that piece
abbrev pub is_of : Row → Noted → Bool
is_of r p = eqb r.transaction p.transaction && eqb r.number p.number

-- the set with the row's item, if the row is of that mode; an unknown item is in no set
abbrev pub with_item : Row → ℕ → ℕ → ℕ
with_item r mode s = cond (ltb r.item items && eqb r.mode mode) (bit_or s (2 ^ r.item)) s

-- the piece with the row noted; the piece that begins with the row
abbrev pub noting : Row → Noted → Noted
noting r p =
    record {
      transaction = p.transaction;
      number = p.number;
      reads = with_item r read_mode p.reads;
      writes = with_item r write_mode p.writes;
    }

abbrev pub begun : Row → Noted
begun r = noting r (record { transaction = r.transaction; number = r.number; reads = 0; writes = 0 })

-- the place of the row's piece; behind all if the row is its first
unfoldable pub place_in : Row → List Noted → ℕ
place_in r ps = first_from (λ k. is_of r (get_or ps k no_noted)) 0 (length ps)

unfoldable pub noted_at : Row → List Noted → ℕ → List Noted
noted_at r ps k = cond (ltb k (length ps)) (set ps k (noting r (get_or ps k no_noted))) (ps ++ (begun r ∷ []))

-- the pieces with one row more
unfoldable pub with_row : Row → List Noted → List Noted
with_row r ps = noted_at r ps (place_in r ps)

-- the pieces of the first n rows
unfoldable pub noted_by : List ℕ → ℕ → List Noted
noted_by words zero = []
noted_by words (suc n) = with_row (row_at words n) (noted_by words n)

abbrev pub piece_of : Noted → Piece
piece_of p = record { transaction = p.transaction; reads = p.reads; writes = p.writes }

unfoldable pub row_pieces : List ℕ → List Piece
row_pieces words = map piece_of (noted_by words (row_count words))

-- "an item above 63"
unfoldable pub some_unknown : List ℕ → Bool
some_unknown words = some_below (row_count words) (λ i. not (ltb (row_at words i).item items))

-- a row that is not whole, or that neither reads nor writes
unfoldable pub some_malformed : List ℕ → Bool
some_malformed words = not (eqb (length words % 4) 0) || some_below (row_count words) (λ i. ltb write_mode (row_at words i).mode)

-- "More than 32 pieces, or an item above 63, have refusals of their own, tested in that order"; then what is malformed
unfoldable pub rows_judgement : List ℕ → Verdict
rows_judgement words =
    let judged = judgement (row_pieces words) in
    cond (ltb most (length (row_pieces words))) too_many_pieces
    (cond (some_unknown words) unknown_item (cond (some_malformed words) malformed judged))
