-- Small programs, each with its finest cut: the examples of source document 004, and marks, chains and orders of all kinds.
use Rattle.std.specs.Prelude.{ℕ, ◌≡◌, true, false, List, [], ◌∷◌}
use Rattle.chop.specs.Verdicts.{accepted}
use Rattle.chop.specs.Judgement.{judgement}
use Rattle.finest.specs.Operations.{Operation}
use Rattle.finest.specs.Finest.{finest_cut}
use Rattle.finest.specs.Choppings.{pieces_under}

pub record Sample : Type 0 where
  pub operations : List Operation
  pub cut : List ℕ

-- program t reads x; writes x; the same, and may roll back
abbrev R : ℕ → ℕ → Operation
R t x = record { program = t; item = x; writes = false; marked = false }

abbrev W : ℕ → ℕ → Operation
W t x = record { program = t; item = x; writes = true; marked = false }

abbrev R! : ℕ → ℕ → Operation
R! t x = record { program = t; item = x; writes = false; marked = true }

abbrev W! : ℕ → ℕ → Operation
W! t x = record { program = t; item = x; writes = true; marked = true }

abbrev cuts : List ℕ → List Operation → Sample
cuts c os = record { operations = os; cut = c }

unfoldable pub samples : List Sample
samples =
    cuts [] []
    -- one program alone: each operation is a piece; up to the last mark they are one
    ∷ cuts (0 ∷ 1 ∷ 2 ∷ []) (R 1 0 ∷ W 1 0 ∷ W 1 1 ∷ [])
    ∷ cuts (0 ∷ 0 ∷ 2 ∷ []) (R 1 0 ∷ W! 1 1 ∷ W 1 2 ∷ [])
    ∷ cuts (0 ∷ 0 ∷ 0 ∷ []) (R! 1 0 ∷ W! 1 1 ∷ W! 1 2 ∷ [])
    ∷ cuts (0 ∷ 1 ∷ 2 ∷ []) (R! 1 0 ∷ W 1 1 ∷ W 1 2 ∷ [])
    -- Chopping Graph Example 1, whole: x is 0, y is 1
    ∷ cuts (0 ∷ 0 ∷ 2 ∷ 2 ∷ 4 ∷ 4 ∷ 6 ∷ 6 ∷ []) (R 1 0 ∷ W 1 0 ∷ R 1 1 ∷ W 1 1 ∷ R 2 0 ∷ W 2 0 ∷ R 3 1 ∷ W 3 1 ∷ [])
    -- Purchase, section 4.3: "{ Read cash, Write cash }" and "{ Write inventory }"; cash is 0, and two purchases are of the items 1 and 2
    ∷ cuts (0 ∷ 1 ∷ 0 ∷ 3 ∷ 4 ∷ 3 ∷ []) (R! 1 0 ∷ W 1 1 ∷ W 1 0 ∷ R! 2 0 ∷ W 2 2 ∷ W 2 0 ∷ [])
    -- two purchases of one item stay whole: writes of one item are in conflict, whatever they add
    ∷ cuts (0 ∷ 0 ∷ 0 ∷ 3 ∷ 3 ∷ 3 ∷ []) (R! 1 0 ∷ W 1 1 ∷ W 1 0 ∷ R! 2 0 ∷ W 2 1 ∷ W 2 0 ∷ [])
    -- pieces that are no runs of neighbours, and programs whose operations are mixed
    ∷ cuts (0 ∷ 1 ∷ 0 ∷ 3 ∷ []) (R 1 0 ∷ R 1 1 ∷ R 1 0 ∷ W 2 0 ∷ [])
    ∷ cuts (0 ∷ 1 ∷ 2 ∷ 0 ∷ []) (R 1 0 ∷ W 2 0 ∷ R 1 1 ∷ R 1 0 ∷ [])
    -- two readers of one item are not in conflict
    ∷ cuts (0 ∷ 1 ∷ 2 ∷ 3 ∷ []) (R 1 0 ∷ R 1 1 ∷ R 2 0 ∷ R 2 1 ∷ [])
    -- a chain through two programs; one that its own program would have to close
    ∷ cuts (0 ∷ 0 ∷ 2 ∷ 2 ∷ 4 ∷ 4 ∷ []) (W 1 0 ∷ W 1 1 ∷ W 2 0 ∷ W 2 2 ∷ W 3 2 ∷ W 3 1 ∷ [])
    ∷ cuts (0 ∷ 1 ∷ 2 ∷ 3 ∷ []) (W 1 0 ∷ W 1 1 ∷ W 2 0 ∷ W 3 1 ∷ [])
    -- a mark in one program says nothing of another; what is marked is met by a chain as a whole
    ∷ cuts (0 ∷ 0 ∷ 2 ∷ 3 ∷ []) (R 1 0 ∷ R! 1 1 ∷ R 2 0 ∷ R 2 1 ∷ [])
    ∷ cuts (0 ∷ 0 ∷ 0 ∷ 3 ∷ 3 ∷ []) (R 1 0 ∷ R! 1 1 ∷ R 1 2 ∷ W 2 0 ∷ W 2 2 ∷ [])
    ∷ []

-- each has its cut, and request E9's judge accepts it
pub data AllAsSaid : List Sample → Type 0 where
  none : AllAsSaid []
  also :
      {s : Sample} {ss : List Sample} → finest_cut s.operations ≡ s.cut → judgement (pieces_under s.operations s.cut) ≡ accepted
      → AllAsSaid ss → AllAsSaid (s ∷ ss)
