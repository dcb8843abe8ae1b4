-- One who read by s leaves: the rows passed have what the readers that stay ask for, the others are as they were.
use Prim.Native.Nat.{ℕ, ◌+◌, ◌<◌, ◌≤◌}
use mathlib.Core.Path.{◌≡◌, sym, ap, ◌∙◌, subst}
use mathlib.Core.Logic.{◌⊎◌, inl, inr}
use mathlib.Core.Bool.{◌||◌}
use mathlib.Core.List.{List, Memᴰ}
use native.Mathlib.Omega.{arith}
use lib.ListN.{length, get_or}
use lib.Dec.{T, eqb, le→leb}
use Rattle.names.specs.Sizes.{base}
use Rattle.rules.specs.Words.{row}
use Rattle.rules.specs.Tables.{version_row, Reader, up_to}
use Rattle.rules.specs.Versions.{Version, no_version, versions_in, versions_of, stamp_at, sees, place, read_by_some, row_of, kept, rewritten}
use Rattle.rules.proofs.Tests.{or_left, or_right, is_true, eq_make}
use Rattle.rules.proofs.Counts.{some_mem}
use Rattle.rules.proofs.Choice.{Falls, Nests}
use Rattle.rules.proofs.Reading.{reads-newest}
use Rattle.rules.proofs.Leaving.{reader-leaves}
use Rattle.starts.specs.Ordered.{guard}
use Rattle.packing.specs.Changed.{TidyRow, left_by}
use Rattle.packing.proofs.Words.{row_same}
use Rattle.rewrites.specs.Written.{with_row, Staying, Leavable}
use Rattle.rewrites.proofs.Table.{so_far, none_yet, all_done, row_so_far, one_more_lem, rows_same}
use Rattle.rewrites.proofs.Kept.{left-kept}

abbrev same : ℕ → List Version → List Version
same x vs = vs

-- the rows of cur below i
abbrev pub Forgotten : List ℕ → ℕ → ℕ → ℕ → List ℕ → ℕ → Type 0
Forgotten v s below next cur i = (qs : List Reader) → Staying v qs s below next → cur ≡ so_far qs (λ x vs. vs) v i

pub none_forgotten : (v : List ℕ) (s below next : ℕ) → Forgotten v s below next v 0
none_forgotten v s below next = λ qs k. sym (none_yet qs same v)

module _ (v : List ℕ) (s below next : ℕ) (p : Leavable v s below next) (cur : List ℕ) (i : ℕ) (f : Forgotten v s below next cur i) where
  is : cur ≡ so_far p.readers same v i
  is = f p.readers p.staying

  pub all_forgotten :
      i ≤ base.items → base.items ≤ i → (qs : List Reader) → Staying v qs s below next → cur ≡ rewritten base qs (λ x vs. vs) v
  all_forgotten a b qs k = f qs k ∙ ap (so_far qs same v) (let e : i ≡ base.items = omega arith in e) ∙ all_done qs same v

  module _ (inside : i < base.items) where
    next_row : row (version_row base) i cur ≡ row (version_row base) i v
    next_row = row_so_far p.readers same v p.staying.few p.tidy.size i inside cur is

    pub next-tidy : TidyRow (row (version_row base) i cur)
    next-tidy = subst TidyRow (sym next_row) (p.tidy.rows i inside)

    pub next-found : place (up_to s) (versions_in base (row (version_row base) i cur)) < length (versions_in base (row (version_row base) i cur))
    unfolding versions_of
    next-found = subst (λ (r : List ℕ). place (up_to s) (versions_in base r) < length (versions_in base r)) (sym next_row) (p.found i inside)

    one_kept : (qs : List Reader) → Staying v qs s below next → left_by s below next (versions_in base (row (version_row base) i cur)) ≡ kept qs (versions_in base (row (version_row base) i cur))
    unfolding versions_of Falls Nests
    one_kept qs k =
        subst (λ (r : List ℕ). left_by s below next (versions_in base r) ≡ kept qs (versions_in base r)) (sym next_row)
        (left-kept qs k.starts k.relaxed k.split s below next k.beside (versions_of base v i) (p.tidy.rows i inside).sound.fall (p.tidy.rows i inside).sound.nest (λ j. k.known i j inside) (p.low i inside) (p.found i inside) (λ j a b. k.read i j inside a b))

    pub one_forgotten :
        {new : List ℕ} → new ≡ with_row i (row_of base (left_by s below next (versions_in base (row (version_row base) i cur)))) cur
        → Forgotten v s below next new (i + 1)
    one_forgotten e =
        λ qs k.
        e
        ∙ ap (λ (vs : List Version). with_row i (row_of base vs) cur) (one_kept qs k)
        ∙ one_more_lem qs same v k.few p.tidy.size i inside cur (f qs k)

-- ---- another reads by the same start, or every version is as old: nothing goes
module _ (v : List ℕ) (s below next : ℕ) (p : Leavable v s below next) (equal : next ≡ s) (qs : List Reader) (k : Staying v qs s below next) where
  module _ (x : ℕ) (inside : x < base.items) where
    abbrev vs : List Version
    vs = versions_of base v x

    read : (next ≡ guard) ⊎ (Memᴰ next k.starts × (s ≤ next)) → T (eqb (place (up_to s) (versions_of base v x)) 0 || read_by_some qs (versions_of base v x) (place (up_to s) (versions_of base v x)))
    unfolding read_by_some
    read (inl e) =
        let l = p.low x inside in
        let m = p.found x inside in
        or_left (eqb (place (up_to s) vs) 0) (read_by_some qs vs (place (up_to s) vs))
        (eq_make (place (up_to s) vs) 0 (reads-newest (up_to s) vs (omega arith) (unfold sees stamp_at in (le→leb (get_or vs 0 no_version).stamp s (omega arith)))))
    read (inr e) =
        or_right (eqb (place (up_to s) vs) 0) (read_by_some qs vs (place (up_to s) vs))
        (some_mem (λ q. eqb (place q vs) (place (up_to s) vs)) (k.split.start next e.0) (eq_make (place (up_to next) vs) (place (up_to s) vs) (ap (λ (q : ℕ). place (up_to q) vs) equal)))

    row_stays : row_of base (kept qs (versions_in base (row (version_row base) x v))) ≡ row (version_row base) x v
    unfolding versions_of
    row_stays =
        ap (row_of base) (reader-leaves (up_to s) qs vs (λ j a b. k.read x j inside a b) ∙ rw (is_true (eqb (place (up_to s) vs) 0 || read_by_some qs vs (place (up_to s) vs)) (read k.beside.next_is)))
        ∙ sym (row_same (row (version_row base) x v) (p.tidy.rows x inside))

  pub none_goes : v ≡ rewritten base qs (λ x vs. vs) v
  none_goes =
      sym (rows_same qs same v k.few p.tidy.size row_stays base.items (omega arith))
      ∙ all_done qs same v
