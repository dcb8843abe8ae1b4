-- The operations that stand in rows of four words: how many, each by its words, and the tests that code makes on the words.
use Prim.Native.Nat.{ℕ, ◌+◌, ◌*◌, ◌/◌, ◌<◌}
use mathlib.Core.Path.{◌≡◌, sym, ap, ap₂, ◌∙◌}
use mathlib.Core.Bool.{Bool, ◌&&◌, ◌||◌, not}
use mathlib.Core.List.{List}
use native.Mathlib.Nat.{zero-add}
use lib.ListN.{length, get_or}
use lib.Dec.{eqb, leb}
use Rattle.rules.specs.Words.{bit}
use Rattle.rules.proofs.Circles.{get_d_tabulate, length_tabulate}
use Rattle.graph.specs.Sets.{those}
use Rattle.graph.proofs.Sets.{those_at}
use Rattle.finest.specs.Operations.{Operation, no_operation, operation, program_of, same_program, may_undo, one_block, conflicting}
use Rattle.finest.specs.Finest.{linked_for}
use Rattle.finest.specs.Rows.{operation_at, operations_in}

pub length-operations : (words : List ℕ) → length (operations_in words) ≡ length words / 4
unfolding operations_in
length-operations words = length_tabulate (length words / 4) 0 (operation_at words)

pub operation_at_lem : (words : List ℕ) (i : ℕ) → i < length words / 4 → operation (operations_in words) i ≡ operation_at words i
unfolding operations_in
operation_at_lem words i h = get_d_tabulate (length words / 4) 0 (operation_at words) no_operation i h ∙ ap (operation_at words) (zero-add i)

module _ (words : List ℕ) (i j : ℕ) (a : i < length words / 4) (b : j < length words / 4) where
  pub same_test : eqb (get_or words (i * 4) 0) (get_or words (j * 4) 0) ≡ same_program (operations_in words) i j
  same_test = ap₂ (λ (x y : Operation). eqb x.program y.program) (sym (operation_at_lem words i a)) (sym (operation_at_lem words j b))

  pub undo_test :
      (leb i j && (eqb (get_or words (i * 4) 0) (get_or words (j * 4) 0) && eqb (get_or words (j * 4 + 3) 0) 1))
      ≡ (leb i j && (same_program (operations_in words) i j && (operation (operations_in words) j).marked))
  undo_test = ap₂ (λ (x y : Operation). leb i j && (eqb x.program y.program && y.marked)) (sym (operation_at_lem words i a)) (sym (operation_at_lem words j b))

  pub conflict_test :
      (not (eqb (get_or words (i * 4) 0) (get_or words (j * 4) 0))
      && (eqb (get_or words (i * 4 + 1) 0) (get_or words (j * 4 + 1) 0) && (eqb (get_or words (i * 4 + 2) 0) 1 || eqb (get_or words (j * 4 + 2) 0) 1)))
      ≡ conflicting (operations_in words) i j
  unfolding conflicting
  conflict_test =
      ap₂ (λ (x y : Operation). not (eqb x.program y.program) && (eqb x.item y.item && (x.writes || y.writes)))
      (sym (operation_at_lem words i a)) (sym (operation_at_lem words j b))

  -- the test for a link, with the set of those that may be undone
  pub link_test :
      (undo t : ℕ) → undo ≡ those (length words / 4) (may_undo (operations_in words))
      → (conflicting (operations_in words) i j || (eqb (get_or words (i * 4) 0) (get_or words (j * 4) 0) && (not (eqb (get_or words (i * 4) 0) t) || (eqb i j || (eqb (get_or words (i * 4) 0) (get_or words (j * 4) 0) && (bit undo i && bit undo j))))))
      ≡ linked_for (operations_in words) t i j
  unfolding linked_for one_block
  link_test undo t e =
      ap₂ (λ (x y : Operation). conflicting os i j || (eqb x.program y.program && (not (eqb x.program t) || (eqb i j || (eqb x.program y.program && (bit undo i && bit undo j))))))
      (sym (operation_at_lem words i a)) (sym (operation_at_lem words j b))
      ∙ ap₂ (λ (u v : Bool). conflicting os i j || (same_program os i j && (not (eqb (program_of os i) t) || (eqb i j || (same_program os i j && (u && v))))))
      (known i a) (known j b)
    where
      os : List Operation
      os = operations_in words

      known : (k : ℕ) → k < length words / 4 → bit undo k ≡ may_undo (operations_in words) k
      known k l = ap (λ (u : ℕ). bit u k) e ∙ those_at (length words / 4) (may_undo (operations_in words)) k l

-- for a test of as many as there are rows
pub ruleset undone = (length-operations, undo_test)
