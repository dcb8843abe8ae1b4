-- Request E10 on rows of four words: the operations that stand in them, what is refused, and the answer.
use Rattle.std.specs.Prelude.{ℕ, ◌+◌, ◌-◌, ◌*◌, ◌/◌, ◌%◌, Bool, ◌||◌, not, cond, List, [], ◌++◌, get_or, length, replicate, eqb, ltb}
use Rattle.rules.specs.Words.{some_below, tabulate_from}
use Rattle.finest.specs.declared.Finding.{Finding}
use Rattle.finest.specs.declared.Finding.TheVariants.{TooManyOperations, UnknownItem, Malformed, Cut}
use Rattle.finest.specs.declared.Named.{Named}
use Rattle.finest.specs.Operations.{Operation, most, items}
use Rattle.finest.specs.Finest.{finest_cut}

-- how many whole rows there are
abbrev pub row_count : List ℕ → ℕ
row_count words = length words / 4

-- row i: program, item, 0 for a read or 1 for a write, 1 where it may roll back and 0 elsewhere
abbrev pub operation_at : List ℕ → ℕ → Operation
operation_at words i =
    record {
      program = get_or words (i * 4) 0;
      item = get_or words (i * 4 + 1) 0;
      writes = eqb (get_or words (i * 4 + 2) 0) 1;
      marked = eqb (get_or words (i * 4 + 3) 0) 1;
    }

unfoldable pub operations_in : List ℕ → List Operation
operations_in words = tabulate_from 0 (row_count words) (operation_at words)

-- "an item above 63"
unfoldable pub some_unknown : List ℕ → Bool
some_unknown words = some_below (row_count words) (λ i. not (ltb (get_or words (i * 4 + 1) 0) items))

-- a row that is not whole, or whose last two words are not 0 or 1
unfoldable pub some_malformed : List ℕ → Bool
some_malformed words =
    not (eqb (length words % 4) 0)
    || some_below (row_count words) (λ i. ltb 1 (get_or words (i * 4 + 2) 0) || ltb 1 (get_or words (i * 4 + 3) 0))

-- what is said of rows
pub data Outcome : Type 0 where
  too_many_operations : Outcome
  unknown_item : Outcome
  malformed : Outcome
  cut : List ℕ → Outcome

-- "(more, or an item above 63, is refused as in E9)": in this order; then what is malformed; then the finest cut
unfoldable pub rows_cut : List ℕ → Outcome
rows_cut words =
    let done = cut (finest_cut (operations_in words)) in
    cond (ltb most (row_count words)) too_many_operations (cond (some_unknown words) unknown_item (cond (some_malformed words) malformed done))

-- the answer: what was found, and the names with zeros behind them
unfoldable pub shows : Finding → List ℕ → Named
shows f l = record { finding = f; count = length l; names = l ++ replicate (most - length l) 0 }

unfoldable pub said : Outcome → Named
said too_many_operations = shows TooManyOperations []
said unknown_item = shows UnknownItem []
said malformed = shows Malformed []
said (cut l) = shows Cut l
