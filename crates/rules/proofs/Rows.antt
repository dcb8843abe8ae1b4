-- Rows of a table: a test of every row says what it says, and a table whose rows are replaced has the new rows.
use Prim.Native.Nat.{ℕ, zero, suc, ◌+◌, ◌*◌, ◌≤◌, ◌<◌}
use mathlib.Core.Path.{◌≡◌, refl, sym, ap, ap₂, ◌∙◌}
use mathlib.Core.Bool.{Bool}
use mathlib.Core.List.{List, [], ◌∷◌, ◌++◌}
use native.Mathlib.Omega.{arith}
use native.Mathlib.Nat.{add-zero, add-suc, suc-add, le_of_suc-le-suc, not-suc-le-zero, mul-zero}
use lib.ListN.{length, get_or, take, drop, length-append, length-drop}
use lib.Seq.{get_or-take, get_or-drop, drop-drop, drop_at, take_at, length-take-le}
use lib.Dec.{T}
use Rattle.rules.specs.Words.{every_row, map_rows, row}
use Rattle.rules.proofs.Tests.{and_left, and_right, and_both}

-- row i of a list from row 1 on is row i + 1
pub row_next : (w i : ℕ) (l : List ℕ) → row w i (drop w l) ≡ row w (suc i) l
unfolding row
row_next w i l = ap (take w) (drop-drop (w * i) w l ∙ ap (λ (m : ℕ). drop m l) (let e : w + w * i ≡ w * suc i = omega arith in e))

pub row_first : (w : ℕ) (l : List ℕ) → row w 0 l ≡ take w l
unfolding row
row_first w l = simp mul-zero

pub every_row→ : (n w : ℕ) (p : ℕ → List ℕ → Bool) (i : ℕ) (l : List ℕ) → T (every_row n w p i l) → (k : ℕ) → k < n → T (p (i + k) (row w k l))
unfolding every_row
every_row→ zero w p i l h k b = absurd (not-suc-le-zero b)
every_row→ (suc n) w p i l h zero b = rw (add-zero, row_first) (and_left (p i (take w l)) (every_row n w p (suc i) (drop w l)) h)
every_row→ (suc n) w p i l h (suc k) b =
    rw (add-suc, ← row_next) (rw suc-add at (every_row→ n w p (suc i) (drop w l) (and_right (p i (take w l)) (every_row n w p (suc i) (drop w l)) h) k (le_of_suc-le-suc b)))

pub →every_row : (n w : ℕ) (p : ℕ → List ℕ → Bool) (i : ℕ) (l : List ℕ) → ((k : ℕ) → k < n → T (p (i + k) (row w k l))) → T (every_row n w p i l)
unfolding every_row
→every_row zero w p i l h = tt
→every_row (suc n) w p i l h =
    and_both (p i (take w l)) (every_row n w p (suc i) (drop w l))
    (rw (add-zero, row_first) at (h 0 (omega arith)))
    (→every_row n w p (suc i) (drop w l) (λ k b. rw (suc-add, row_next) (rw add-suc at (h (suc k) (omega arith)))))

-- ---- each row replaced by a row of the same length
module _ (w : ℕ) (f : ℕ → List ℕ → List ℕ) (keeps : (i : ℕ) (r : List ℕ) → length r ≡ w → length (f i r) ≡ w) where
  pub length-map_rows : (n i : ℕ) (l : List ℕ) → w * n ≤ length l → length (map_rows n w f i l) ≡ length l
  unfolding map_rows
  length-map_rows zero i l h = refl
  length-map_rows (suc n) i l h =
      length-append (f i (take w l)) (map_rows n w f (suc i) (drop w l))
      ∙ (let a : w ≤ length l = omega arith in
      let b : length (f i (take w l)) ≡ w = keeps i (take w l) (length-take-le w l a) in
      let c : length (map_rows n w f (suc i) (drop w l)) ≡ length (drop w l) = length-map_rows n (suc i) (drop w l) (rw length-drop (omega arith)) in
      omega (arith, length-drop w l))

  pub row-map_rows : (n i : ℕ) (l : List ℕ) → w * n ≤ length l → (k : ℕ) → k < n → row w k (map_rows n w f i l) ≡ f (i + k) (row w k l)
  unfolding map_rows
  row-map_rows zero i l h k b = absurd (not-suc-le-zero b)
  row-map_rows (suc n) i l h zero b =
      let a : w ≤ length l = omega arith in
      let e : length (f i (take w l)) ≡ w = keeps i (take w l) (length-take-le w l a) in
      row_first w (f i (take w l) ++ map_rows n w f (suc i) (drop w l))
      ∙ take_at (f i (take w l)) (map_rows n w f (suc i) (drop w l)) w e
      ∙ rw (add-zero, row_first)
  row-map_rows (suc n) i l h (suc k) b =
      let a : w ≤ length l = omega arith in
      let e : length (f i (take w l)) ≡ w = keeps i (take w l) (length-take-le w l a) in
      sym (row_next w k (f i (take w l) ++ map_rows n w f (suc i) (drop w l)))
      ∙ ap (row w k) (drop_at (f i (take w l)) (map_rows n w f (suc i) (drop w l)) w e)
      ∙ row-map_rows n (suc i) (drop w l) (rw length-drop (omega arith)) k (le_of_suc-le-suc b)
      ∙ rw (add-suc, ← suc-add, row_next)

-- two tables whose rows become the same rows become the same table
no_words : (l : List ℕ) → length l ≡ 0 → l ≡ []
no_words [] e = refl
no_words (a ∷ l) e = absurd (omega arith)

pub rows_mapped :
    (w : ℕ) (f g : ℕ → List ℕ → List ℕ) (n i : ℕ) (l m : List ℕ) → length l ≡ w * n → length m ≡ w * n
    → ((k : ℕ) → k < n → f (i + k) (row w k l) ≡ g (i + k) (row w k m)) → map_rows n w f i l ≡ map_rows n w g i m
unfolding map_rows
rows_mapped w f g zero i l m a b h = no_words l (omega arith) ∙ sym (no_words m (omega arith))
rows_mapped w f g (suc n) i l m a b h =
    ap₂ ◌++◌
    (rw (add-zero, row_first w l, row_first w m) at (h 0 (omega arith)))
    (rows_mapped w f g n (suc i) (drop w l) (drop w m) (rw length-drop (omega arith)) (rw length-drop (omega arith))
    (λ k c. rw (suc-add, row_next w k l, row_next w k m) (rw add-suc at (h (suc k) (omega arith)))))

-- a word of a row is a word of the table
pub row_word : (w x j : ℕ) (l : List ℕ) → j < w → get_or (row w x l) j 0 ≡ get_or l (w * x + j) 0
unfolding row
row_word w x j l h = rw (get_or-take, get_or-drop)
