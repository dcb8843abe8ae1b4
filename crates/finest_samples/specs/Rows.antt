-- Small programs as rows of four words, each with its outcome: the limits, and the order of the refusals.
use Rattle.std.specs.Prelude.{ℕ, zero, suc, ◌≡◌, List, [], ◌∷◌, ◌++◌}
use Rattle.rules.specs.Words.{tabulate_from}
use Rattle.finest.specs.Rows.{Outcome, too_many_operations, unknown_item, malformed, cut, rows_cut}

pub record RowSample : Type 0 where
  pub words : List ℕ
  pub outcome : Outcome

abbrev says : Outcome → List ℕ → RowSample
says o ws = record { words = ws; outcome = o }

-- program t reads x; writes x; reads x and may roll back
abbrev R : ℕ → ℕ → List ℕ
R t x = t ∷ x ∷ 0 ∷ 0 ∷ []

abbrev W : ℕ → ℕ → List ℕ
W t x = t ∷ x ∷ 1 ∷ 0 ∷ []

abbrev R! : ℕ → ℕ → List ℕ
R! t x = t ∷ x ∷ 0 ∷ 1 ∷ []

-- n operations of one program, each of which reads its own item, from item x on
unfoldable pub apart : ℕ → ℕ → List ℕ
apart x zero = []
apart x (suc n) = R 7 x ++ apart (suc x) n

unfoldable pub row_samples : List RowSample
row_samples =
    says (cut []) []
    -- Purchase, section 4.3 of source document 004
    ∷ says (cut (0 ∷ 1 ∷ 0 ∷ 3 ∷ 4 ∷ 3 ∷ [])) (R! 1 0 ++ W 1 1 ++ W 1 0 ++ R! 2 0 ++ W 2 2 ++ W 2 0)
    -- items 63 and 64
    ∷ says (cut (0 ∷ 0 ∷ 2 ∷ [])) (R 1 63 ++ R 1 63 ++ W 2 63)
    ∷ says unknown_item (R 1 0 ++ R 1 64)
    ∷ says unknown_item (R 1 18446744073709551615)
    -- 32 and 33 operations
    ∷ says (cut (tabulate_from 0 32 (λ i. i))) (apart 0 32)
    ∷ says too_many_operations (apart 0 33)
    -- rows that are not whole, modes and marks
    ∷ says malformed (0 ∷ [])
    ∷ says malformed (R 1 0 ++ (1 ∷ 0 ∷ 0 ∷ []))
    ∷ says malformed (1 ∷ 0 ∷ 2 ∷ 0 ∷ [])
    ∷ says malformed (1 ∷ 0 ∷ 0 ∷ 2 ∷ [])
    -- the order: too many operations, unknown item, malformed
    ∷ says too_many_operations (apart 32 33)
    ∷ says too_many_operations (apart 0 33 ++ (0 ∷ []))
    ∷ says unknown_item (R 1 64 ++ (0 ∷ []))
    ∷ says unknown_item (1 ∷ 0 ∷ 2 ∷ 2 ∷ R 1 64)
    ∷ []

-- each has its outcome
pub data AllRowsAsSaid : List RowSample → Type 0 where
  none : AllRowsAsSaid []
  also : {s : RowSample} {ss : List RowSample} → rows_cut s.words ≡ s.outcome → AllRowsAsSaid ss → AllRowsAsSaid (s ∷ ss)
