-- A relaxed query leaves: the rows passed have what the readers that stay ask for, with nothing hidden from it; the others are as they were.
use Prim.Native.Nat.{ℕ, ◌+◌, ◌<◌, ◌≤◌}
use mathlib.Core.Path.{◌≡◌, sym, ap, ◌∙◌, subst}
use mathlib.Core.List.{List}
use native.Mathlib.Omega.{arith}
use lib.ListN.{length}
use Rattle.names.specs.Sizes.{base}
use Rattle.rules.specs.Words.{row}
use Rattle.rules.specs.Tables.{version_row, Reader, outside}
use Rattle.rules.specs.Versions.{Version, versions_in, versions_of, place, row_of, kept, rewritten, revealed}
use Rattle.rules.proofs.Choice.{Falls, Nests}
use Rattle.packing.specs.Changed.{TidyRow, shown_to}
use Rattle.rewrites.specs.Written.{with_row, Showing, Revealable}
use Rattle.rewrites.proofs.Table.{so_far, none_yet, all_done, row_so_far, one_more_lem}
use Rattle.rewrites.proofs.Kept.{shown-kept}

abbrev shown : ℕ → ℕ → List Version → List Version
shown s x vs = revealed s vs

-- the rows of cur below i
abbrev pub ShownTo : List ℕ → ℕ → List ℕ → List ℕ → ℕ → Type 0
ShownTo v s q cur i = (qs : List Reader) → Showing v qs s q → cur ≡ so_far qs (λ x vs. revealed s vs) v i

pub none_shown : (v : List ℕ) (s : ℕ) (q : List ℕ) → ShownTo v s q v 0
none_shown v s q = λ qs k. sym (none_yet qs (shown s) v)

module _ (v : List ℕ) (s : ℕ) (q : List ℕ) (p : Revealable v s q) (cur : List ℕ) (i : ℕ) (f : ShownTo v s q cur i) where
  is : cur ≡ so_far p.readers (shown s) v i
  is = f p.readers p.showing

  pub all_shown :
      i ≤ base.items → base.items ≤ i → (qs : List Reader) → Showing v qs s q → cur ≡ rewritten base qs (λ x vs. revealed s vs) v
  all_shown a b qs k = f qs k ∙ ap (so_far qs (shown s) v) (let e : i ≡ base.items = omega arith in e) ∙ all_done qs (shown s) v

  module _ (inside : i < base.items) where
    next_row : row (version_row base) i cur ≡ row (version_row base) i v
    next_row = row_so_far p.readers (shown s) v p.showing.few p.tidy.size i inside cur is

    pub next-tidy : TidyRow (row (version_row base) i cur)
    next-tidy = subst TidyRow (sym next_row) (p.tidy.rows i inside)

    pub next-found : place (outside s) (versions_in base (row (version_row base) i cur)) < length (versions_in base (row (version_row base) i cur))
    unfolding versions_of
    next-found = subst (λ (r : List ℕ). place (outside s) (versions_in base r) < length (versions_in base r)) (sym next_row) (p.found i inside)

    one_kept : (qs : List Reader) → Showing v qs s q → shown_to s q (versions_in base (row (version_row base) i cur)) ≡ kept qs (revealed s (versions_in base (row (version_row base) i cur)))
    unfolding versions_of Falls Nests
    one_kept qs k =
        subst (λ (r : List ℕ). shown_to s q (versions_in base r) ≡ kept qs (revealed s (versions_in base r))) (sym next_row)
        (shown-kept qs k.starts k.relaxed k.split q k.ordered s k.gone (versions_of base v i) (p.tidy.rows i inside).sound.fall (p.tidy.rows i inside).sound.nest (λ j. k.known i j inside) (p.low i inside) (p.found i inside) (λ j a b. k.read i j inside a b))

    pub one_shown :
        {new : List ℕ} → new ≡ with_row i (row_of base (shown_to s q (versions_in base (row (version_row base) i cur)))) cur
        → ShownTo v s q new (i + 1)
    one_shown e =
        λ qs k.
        e
        ∙ ap (λ (vs : List Version). with_row i (row_of base vs) cur) (one_kept qs k)
        ∙ one_more_lem qs (shown s) v k.few p.tidy.size i inside cur (f qs k)
