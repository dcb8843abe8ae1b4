-- Small choppings as rows of four words, each with its verdict: the limits, and the order of the refusals.
use Rattle.std.specs.Prelude.{ℕ, zero, suc, ◌≡◌, List, [], ◌∷◌, ◌++◌}
use Rattle.chop.specs.Verdicts.{Verdict, too_many_pieces, unknown_item, malformed, refused, accepted}
use Rattle.chop_rows.specs.RowPieces.{rows_judgement}

pub record RowSample : Type 0 where
  pub words : List ℕ
  pub verdict : Verdict

abbrev says : Verdict → List ℕ → RowSample
says v ws = record { words = ws; verdict = v }

-- piece p of transaction t reads x; writes x
abbrev R : ℕ → ℕ → ℕ → List ℕ
R t p x = t ∷ p ∷ x ∷ 0 ∷ []

abbrev W : ℕ → ℕ → ℕ → List ℕ
W t p x = t ∷ p ∷ x ∷ 1 ∷ []

-- n pieces of different transactions, each of which reads its own item, from item x on
unfoldable pub apart : ℕ → ℕ → List ℕ
apart x zero = []
apart x (suc n) = R x 7 x ++ apart (suc x) n

unfoldable pub row_samples : List RowSample
row_samples =
    -- Example 5 of source document 004
    says (refused (0 ∷ 6 ∷ 1 ∷ []))
    (R 1 1 0 ++ W 1 1 0 ++ R 1 2 5 ++ W 1 2 5 ++ R 2 1 2 ++ W 2 1 2 ++ R 2 1 5 ++ W 2 1 5 ++ R 3 1 3 ++ W 3 1 3 ++ R 3 1 6 ++ W 3 1 6 ++ R 4 1 1 ++ R 5 1 3
    ++ R 6 1 0 ++ R 6 1 1 ++ R 6 1 2 ++ R 6 1 5 ++ R 6 1 3 ++ R 6 1 4 ++ R 6 1 6)
    -- its R(A), R(B) example
    ∷ says accepted (R 1 1 0 ++ R 1 2 1 ++ R 2 1 0 ++ W 2 1 0 ++ R 3 1 1 ++ W 3 1 1)
    -- a piece stands where its first row stands; its further rows may come anywhere, and twice
    ∷ says (refused (0 ∷ 2 ∷ 1 ∷ [])) (R 9 4 0 ++ R 9 3 1 ++ W 8 4 1 ++ R 9 4 0 ++ W 8 4 0)
    ∷ says (refused (0 ∷ 1 ∷ 2 ∷ [])) (R 9 4 0 ++ W 8 4 1 ++ R 9 3 1 ++ R 9 4 0 ++ W 8 4 0)
    -- one pair is one piece; the number of a piece alone says nothing
    ∷ says accepted (R 9 4 0 ++ R 9 4 1 ++ W 8 4 1 ++ W 8 4 0)
    ∷ says accepted []
    -- items 63 and 64
    ∷ says accepted (R 1 1 63)
    ∷ says unknown_item (R 1 1 64)
    ∷ says (refused (0 ∷ 2 ∷ 1 ∷ [])) (R 1 1 0 ++ R 1 2 63 ++ W 2 1 0 ++ W 2 1 63)
    ∷ says unknown_item (R 1 1 0 ++ R 1 2 64 ++ W 2 1 0 ++ W 2 1 64)
    ∷ says unknown_item (R 1 1 18446744073709551615)
    -- 32 and 33 pieces
    ∷ says accepted (apart 0 32)
    ∷ says too_many_pieces (apart 0 33)
    ∷ says accepted (apart 0 32 ++ R 31 7 0)
    ∷ says too_many_pieces (apart 0 32 ++ R 31 8 0)
    -- rows that are not whole, and modes
    ∷ says malformed (0 ∷ [])
    ∷ says malformed (R 1 1 0 ++ (1 ∷ 1 ∷ 0 ∷ []))
    ∷ says malformed (1 ∷ 1 ∷ 0 ∷ 2 ∷ [])
    ∷ says malformed (R 1 1 0 ++ R 1 2 1 ++ W 2 1 0 ++ W 2 1 1 ++ (3 ∷ 1 ∷ 0 ∷ 2 ∷ []))
    -- the order: too many pieces, unknown item, malformed
    ∷ says too_many_pieces (apart 32 33)
    ∷ says too_many_pieces (apart 0 33 ++ (0 ∷ []))
    ∷ says unknown_item (R 1 1 64 ++ (0 ∷ []))
    ∷ says unknown_item (1 ∷ 1 ∷ 0 ∷ 2 ∷ R 1 1 64)
    ∷ []

-- each has its verdict
pub data AllRowsAsSaid : List RowSample → Type 0 where
  none : AllRowsAsSaid []
  also : {s : RowSample} {ss : List RowSample} → rows_judgement s.words ≡ s.verdict → AllRowsAsSaid ss → AllRowsAsSaid (s ∷ ss)
