-- What code writes down: the piece of an operation in words, names with zeros behind them, and the outcome for rows.
use Prim.Native.Nat.{ℕ, zero, suc, ◌+◌, ◌-◌, ◌*◌, ◌/◌, ◌≤◌, ◌<◌}
use mathlib.Core.Path.{◌≡◌, refl, sym, ap, ap₂, ◌∙◌}
use mathlib.Core.Bool.{true, false}
use mathlib.Core.List.{List, ◌++◌}
use native.Mathlib.Omega.{arith}
use lib.ListN.{length, get_or, set, take, drop, replicate, take-append-drop}
use lib.Seq.{drop-set-lt, drop-drop}
use lib.Bits.{bit_and}
use borrow.Author.Tests.{lt-ltb, le-ltb}
use Rattle.rules.proofs.Circles.{length_tabulate}
use Rattle.graph.specs.Sets.{those}
use Rattle.graph.specs.Near.{joined}
use Rattle.finest.specs.declared.Finding.TheVariants.{Cut}
use Rattle.finest.specs.declared.Named.{Named}
use Rattle.finest.specs.Operations.{Operation, most, same_program}
use Rattle.finest.specs.Finest.{links_for, all, piece_at, finest_cut}
use Rattle.finest.specs.Rows.{operations_in, some_unknown, some_malformed, too_many_operations, unknown_item, malformed, cut, rows_cut, shows}
use Rattle.finest.proofs.InRows.{length-operations, operation_at_lem}

-- the piece of operation i, with the numbers of the rows
pub piece-words :
    (words : List ℕ) (i : ℕ) → i < length words / 4
    → bit_and (those (length words / 4) (same_program (operations_in words) i)) (joined (links_for (operations_in words) (get_or words (i * 4) 0)) (all (length words / 4)) i)
    ≡ piece_at (operations_in words) i
unfolding piece_at
piece-words words i a =
    let os = operations_in words in
    ap₂ (λ (n t : ℕ). bit_and (those n (same_program os i)) (joined (links_for os t) (all n) i)) (sym (length-operations words)) (ap (λ (o : Operation). o.program) (sym (operation_at_lem words i a)))

-- ---- zeros behind what is written
drop-zeros : (n : ℕ) → drop {A = ℕ} 1 (replicate n 0) ≡ replicate (n - 1) 0
drop-zeros zero = refl
drop-zeros (suc n) = ap (λ (k : ℕ). replicate {A = ℕ} k 0) (let e : n ≡ suc n - 1 = omega arith in e)

pub zeros_turn : (n x : ℕ) (out : List ℕ) → drop n out ≡ replicate (most - n) 0 → drop (n + 1) (set out n x) ≡ replicate (most - (n + 1)) 0
zeros_turn n x out e =
    drop-set-lt (n + 1) out n x (omega arith)
    ∙ sym (drop-drop 1 n out)
    ∙ ap (λ (l : List ℕ). drop 1 l) e
    ∙ drop-zeros (most - n)
    ∙ ap (λ (k : ℕ). replicate {A = ℕ} k 0) (let q : most - n - 1 ≡ most - (n + 1) = omega arith in q)

pub written : (n : ℕ) (out front : List ℕ) → take n out ≡ front → drop n out ≡ replicate (most - n) 0 → out ≡ front ++ replicate (most - n) 0
written n out front e f = sym (take-append-drop n out) ∙ ap₂ ◌++◌ e f

-- ---- the outcome
pub length_cut : (os : List Operation) → length (finest_cut os) ≡ length os
unfolding finest_cut
length_cut os = length_tabulate (length os) 0 _

pub named_is :
    (words names : List ℕ) → names ≡ finest_cut (operations_in words) ++ replicate (most - length words / 4) 0
    → ◌≡◌ {A = Named} (record { finding = Cut; count = length words / 4; names = names }) (shows Cut (finest_cut (operations_in words)))
unfolding shows
named_is words names e =
    let q = length_cut (operations_in words) ∙ length-operations words in
    let f = e ∙ ap (λ (n : ℕ). finest_cut (operations_in words) ++ replicate (most - n) 0) (sym q) in
    λ k. record { finding = Cut; count = sym q k; names = f k }

module _ (words : List ℕ) where
  pub rows-many : most < length words / 4 → rows_cut words ≡ too_many_operations
  unfolding rows_cut
  rows-many l = rw (lt-ltb most (length words / 4) l)

  pub rows-unknown : length words / 4 ≤ most → some_unknown words ≡ true → rows_cut words ≡ unknown_item
  unfolding rows_cut
  rows-unknown l u = rw (le-ltb most (length words / 4) l, u)

  pub rows-malformed : length words / 4 ≤ most → some_unknown words ≡ false → some_malformed words ≡ true → rows_cut words ≡ malformed
  unfolding rows_cut
  rows-malformed l u m = rw (le-ltb most (length words / 4) l, u, m)

  pub rows_cut_lem :
      length words / 4 ≤ most → some_unknown words ≡ false → some_malformed words ≡ false → rows_cut words ≡ cut (finest_cut (operations_in words))
  unfolding rows_cut
  rows_cut_lem l u m = rw (le-ltb most (length words / 4) l, u, m)
