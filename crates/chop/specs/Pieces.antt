-- Request E9: "up to 32 pieces, each with its transaction, the items read and the items written".
use Rattle.std.specs.Prelude.{ℕ, ◌+◌, ◌*◌, ◌/◌, Bool, ◌&&◌, ◌||◌, not, List, get_or, length, eqb}
use Rattle.std.specs.Int.Bits.{bit_and, bit_or}
use Rattle.rules.specs.Words.{tabulate_from}
use Rattle.graph.specs.Sets.{meets}

-- a piece: the number of its transaction, and two sets of items, as words of 64 bits
pub record Piece : Type 0 where
  pub transaction : ℕ
  pub reads : ℕ
  pub writes : ℕ

-- how many pieces may be judged
abbrev pub most : ℕ
most = 32

abbrev pub no_piece : Piece
no_piece = record { transaction = 0; reads = 0; writes = 0 }

-- piece i, counted from 0
abbrev pub piece : List Piece → ℕ → Piece
piece ps i = get_or ps i no_piece

-- the items that a piece touches
abbrev pub touched : Piece → ℕ
touched p = bit_or p.reads p.writes

-- "Pieces of one transaction are joined as siblings": pieces a and b are two, of one transaction
abbrev pub siblings : List Piece → ℕ → ℕ → Bool
siblings ps a b = not (eqb a b) && eqb (piece ps a).transaction (piece ps b).transaction

-- "when they touch a common item and at least one writes it"
abbrev pub clash : Piece → Piece → Bool
clash p q = meets (bit_and (touched p) (touched q)) (bit_or p.writes q.writes)

-- "pieces of different transactions are joined as conflicting when" they clash
abbrev pub conflict : List Piece → ℕ → ℕ → Bool
conflict ps a b = not (eqb (piece ps a).transaction (piece ps b).transaction) && clash (piece ps a) (piece ps b)

-- the two are joined
abbrev pub joins : List Piece → ℕ → ℕ → Bool
joins ps a b = siblings ps a b || conflict ps a b

-- the pieces that stand in rows of three words: transaction, items read, items written
unfoldable pub pieces_of : List ℕ → List Piece
pieces_of words =
    tabulate_from 0 (length words / 3)
    (λ i. record {
      transaction = get_or words (i * 3) 0;
      reads = get_or words (i * 3 + 1) 0;
      writes = get_or words (i * 3 + 2) 0;
    })
