-- What is promised of the pieces that rows of four words say: "a piece is a distinct pair", in the order of first appearance, with
-- the items that its rows read and write. Each is proved in proofs/Stepping.
use Rattle.std.specs.Prelude.{ℕ, ◌<◌, ◌≡◌, ◌↔◌, List, get_or, length, T}
use Rattle.rules.specs.Words.{bit}
use Rattle.chop_rows.specs.declared.Noted.{Noted}
use Rattle.chop_rows.specs.RowPieces.{row_at, row_count, items, read_mode, write_mode, no_noted, is_of, noted_by}

-- the pieces of all rows, and piece k of them
abbrev pub all_noted : List ℕ → List Noted
all_noted words = noted_by words (row_count words)

abbrev pub noted : List ℕ → ℕ → Noted
noted words k = get_or (all_noted words) k no_noted

-- row i is one of piece k
abbrev pub RowOf : List ℕ → ℕ → ℕ → Type 0
RowOf words i k = T (is_of (row_at words i) (noted words k))

-- each row is of some piece, and each piece has a row
abbrev pub EachRow : Type 0
EachRow = (words : List ℕ) (i : ℕ) → i < row_count words → (k : ℕ) × (k < length (all_noted words)) × RowOf words i k

abbrev pub EachPiece : Type 0
EachPiece = (words : List ℕ) (k : ℕ) → k < length (all_noted words) → (i : ℕ) × (i < row_count words) × RowOf words i k

-- no two pieces are of one pair
abbrev pub PairsDistinct : Type 0
PairsDistinct =
    (words : List ℕ) (j k : ℕ) → j < length (all_noted words) → k < length (all_noted words)
    → (noted words j).transaction ≡ (noted words k).transaction → (noted words j).number ≡ (noted words k).number → j ≡ k

-- before any row of a piece stands a row of each piece before it
abbrev pub InOrder : Type 0
InOrder =
    (words : List ℕ) (j k i : ℕ) → j < k → k < length (all_noted words) → i < row_count words → RowOf words i k
    → (h : ℕ) × (h < i) × RowOf words h j

-- one of the first n rows, of the pair t, q, touches item x so
pub record Touch (words : List ℕ) (n t q mode x : ℕ) : Type 0 where
  pub row : ℕ
  pub inside : row < n
  pub transaction : (row_at words row).transaction ≡ t
  pub number : (row_at words row).number ≡ q
  pub item : (row_at words row).item ≡ x
  pub known : x < items
  pub so : (row_at words row).mode ≡ mode

-- a piece reads and writes what its rows say
abbrev pub ItemsExactly : Type 0
ItemsExactly =
    (words : List ℕ) (k x : ℕ) → k < length (all_noted words)
    → (T (bit (noted words k).reads x) ↔ Touch words (row_count words) (noted words k).transaction (noted words k).number read_mode x)
    × (T (bit (noted words k).writes x) ↔ Touch words (row_count words) (noted words k).transaction (noted words k).number write_mode x)
