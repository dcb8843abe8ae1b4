-- The table while its rows are replaced one by one: the rows passed are new, the others as they were.
use Prim.Native.Nat.{ℕ, zero, suc, ◌+◌, ◌-◌, ◌*◌, ◌<◌, ◌≤◌}
use mathlib.Core.Path.{◌≡◌, refl, sym, ap, ap₂, ◌∙◌}
use mathlib.Core.List.{List, ◌++◌, append_assoc}
use native.Mathlib.Omega.{arith}
use native.Mathlib.Nat.{add-zero, zero-add, mul-zero}
use native.Mathlib.Numerals.{add-one}
use lib.ListN.{length, take, drop, length-drop, take-append-drop}
use lib.Seq.{take-append-add, drop-append-add, drop-drop, length-take-le}
use Rattle.names.specs.Sizes.{base}
use Rattle.rules.specs.Words.{row, map_rows}
use Rattle.rules.specs.Tables.{version_row, version_words, Reader}
use Rattle.rules.specs.Versions.{Version, versions_in, row_of, kept, rewritten}
use Rattle.rules.proofs.Rows.{row_next, row_first}
use Rattle.rules.proofs.Choice.{length-row_of}
use Rattle.rules.proofs.Trim.{length-kept}
use Rattle.choices.proofs.Lent.{wide, lent}
use Rattle.rewrites.specs.Written.{with_row}

-- ---- rows of any width
module _ (w : ℕ) (f : ℕ → List ℕ → List ℕ) (keeps : (i : ℕ) (r : List ℕ) → length r ≡ w → length (f i r) ≡ w) where
  past : (n i : ℕ) (l : List ℕ) → w * suc n ≤ length l → drop (w * n) (map_rows n w f i l) ≡ drop (w * n) l
  unfolding map_rows
  past zero i l h = refl
  past (suc n) i l h =
      let a = f i (take w l) in
      let b = map_rows n w f (suc i) (drop w l) in
      let e : length a ≡ w = keeps i (take w l) (length-take-le w l (omega arith)) in
      ap (λ (k : ℕ). drop k (a ++ b)) (let z : w * suc n ≡ length a + w * n = omega arith in z)
      ∙ drop-append-add a b (w * n)
      ∙ past n (suc i) (drop w l) (rw length-drop (omega arith))
      ∙ drop-drop (w * n) w l
      ∙ ap (λ (k : ℕ). drop k l) (let z : w + w * n ≡ w * suc n = omega arith in z)

  -- the next row is as it was
  row-past : (n i : ℕ) (l : List ℕ) → w * suc n ≤ length l → row w n (map_rows n w f i l) ≡ row w n l
  unfolding row
  row-past n i l h = ap (take w) (past n i l h)

  -- with its new words in its place, one row more is replaced
  row_more :
      (n i : ℕ) (l : List ℕ) → w * suc n ≤ length l
      → take (w * n) (map_rows n w f i l) ++ (f (i + n) (row w n l) ++ drop w (drop (w * n) (map_rows n w f i l))) ≡ map_rows (suc n) w f i l
  unfolding map_rows
  row_more zero i l h = rw (mul-zero, add-zero, row_first)
  row_more (suc n) i l h =
      let a = f i (take w l) in
      let b = map_rows n w f (suc i) (drop w l) in
      let e : length a ≡ w = keeps i (take w l) (length-take-le w l (omega arith)) in
      let k : w * suc n ≡ length a + w * n = omega arith in
      let t : take (w * suc n) (a ++ b) ≡ a ++ take (w * n) b = ap (λ (m : ℕ). take m (a ++ b)) k ∙ take-append-add a b (w * n) in
      let d : drop (w * suc n) (a ++ b) ≡ drop (w * n) b = ap (λ (m : ℕ). drop m (a ++ b)) k ∙ drop-append-add a b (w * n) in
      let g : f (i + suc n) (row w (suc n) l) ≡ f (suc i + n) (row w n (drop w l)) =
      ap₂ (λ (x : ℕ) (r : List ℕ). f x r) (let z : i + suc n ≡ suc i + n = omega arith in z) (sym (row_next w n l)) in
      ap₂ (λ (x y : List ℕ). x ++ y) t (ap₂ (λ (x y : List ℕ). x ++ drop w y) g d)
      ∙ append_assoc a (take (w * n) b) _
      ∙ ap (λ (x : List ℕ). a ++ x) (row_more n (suc i) (drop w l) (rw length-drop (omega arith)))

-- a row put back in its place changes nothing
pub row_back : (x : ℕ) (v : List ℕ) → with_row x (row (version_row base) x v) v ≡ v
unfolding row
row_back x v = ap (λ (l : List ℕ). take (version_row base * x) v ++ l) (take-append-drop (version_row base) (drop (version_row base * x) v)) ∙ take-append-drop (version_row base * x) v

-- a row that is lent, as the middle part of the table, comes back rewritten
pub lent_back :
    (x : ℕ) (v : List ℕ) (words : List ℕ → List ℕ) {ys : List ℕ}
    → ys ≡ words (take ((version_row base * x + version_row base) - version_row base * x) (drop (version_row base * x) v))
    → take (version_row base * x) v ++ (ys ++ drop ((version_row base * x + version_row base) - version_row base * x) (drop (version_row base * x) v))
    ≡ with_row x (words (row (version_row base) x v)) v
lent_back x v words e =
    ap₂ (λ (ys : List ℕ) (n : ℕ). take (version_row base * x) v ++ (ys ++ drop n (drop (version_row base * x) v))) (e ∙ ap words (lent x v)) (wide x)

-- ---- the rows of the version table
-- the words of row x as f makes them
abbrev pub new_row : List Reader → (ℕ → List Version → List Version) → ℕ → List ℕ → List ℕ
new_row qs f x r = row_of base (kept qs (f x (versions_in base r)))

-- the first n rows are rewritten
unfoldable pub so_far : List Reader → (ℕ → List Version → List Version) → List ℕ → ℕ → List ℕ
so_far qs f v n = map_rows n (version_row base) (new_row qs f) 0 v

module _ (qs : List Reader) (f : ℕ → List Version → List Version) (v : List ℕ) where
  pub none_yet : so_far qs f v 0 ≡ v
  unfolding so_far map_rows
  none_yet = refl

  pub all_done : so_far qs f v base.items ≡ rewritten base qs f v
  unfolding so_far rewritten
  all_done = refl

  module _ (room : length qs < base.places) (exact : length v ≡ version_words base) where
    keeps : (x : ℕ) (r : List ℕ) → length r ≡ version_row base → length (new_row qs f x r) ≡ version_row base
    keeps x r e = length-row_of base (kept qs (f x (versions_in base r))) (let a = length-kept qs (f x (versions_in base r)) in omega arith)

    module _ (n : ℕ) (inside : n < base.items) (cur : List ℕ) (is : cur ≡ so_far qs f v n) where
      -- the next row is as it was
      pub row_so_far : row (version_row base) n cur ≡ row (version_row base) n v
      unfolding so_far
      row_so_far = ap (row (version_row base) n) is ∙ row-past (version_row base) (new_row qs f) keeps n 0 v (omega arith)

      -- with its new words in its place, one row more is rewritten
      pub one_more_lem : with_row n (new_row qs f n (row (version_row base) n cur)) cur ≡ so_far qs f v (n + 1)
      unfolding so_far
      one_more_lem =
          ap₂ (λ (r l : List ℕ). with_row n (new_row qs f n r) l) row_so_far is
          ∙ ap (λ (x : ℕ). with_row n (new_row qs f x (row (version_row base) n v)) (map_rows n (version_row base) (new_row qs f) 0 v)) (sym (zero-add n))
          ∙ row_more (version_row base) (new_row qs f) keeps n 0 v (omega arith)
          ∙ ap (λ (m : ℕ). map_rows m (version_row base) (new_row qs f) 0 v) (sym (add-one n))

    -- where each row has its new words already, nothing changes
    pub rows_same :
        ((x : ℕ) → x < base.items → new_row qs f x (row (version_row base) x v) ≡ row (version_row base) x v)
        → (n : ℕ) → n ≤ base.items → so_far qs f v n ≡ v
    rows_same each zero h = none_yet
    rows_same each (suc n) h =
        let is : v ≡ so_far qs f v n = sym (rows_same each n (omega arith)) in
        ap (so_far qs f v) (sym (add-one n))
        ∙ sym (one_more_lem n (omega arith) v is)
        ∙ ap (λ (ws : List ℕ). with_row n ws v) (each n (omega arith))
        ∙ row_back n v
