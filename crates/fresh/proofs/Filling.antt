-- Words set to 0, and the counts of version rows set to 1 row by row.
use Prim.Native.Nat.{ℕ, zero, suc, ◌+◌, ◌-◌, ◌*◌, ◌/◌, ◌%◌, ◌≤◌, ◌<◌}
use mathlib.Core.Path.{◌≡◌, refl, sym, ap, ◌∙◌, subst}
use mathlib.Core.Logic.{◌≢◌, ◌⊎◌, inl, inr}
use mathlib.Core.List.{List, ◌∷◌}
use native.Mathlib.Omega.{arith}
use Rattle.std.specs.Array.{IsWholeChunk}
use lib.ListN.{length, get_or, set, drop, replicate, length-set}
use lib.Seq.{ext_get_or, get_or-set_same, get_or-set_other, get_or-drop}
use Rattle.names.specs.Sizes.{base}
use Rattle.rules.specs.Words.{row}
use Rattle.rules.specs.Tables.{with_counts, version_row, version_words}
use Rattle.rules.proofs.Tests.{same?}
use Rattle.rules.proofs.Rows.{row_word}
use Rattle.rules.proofs.Fresh.{length-with_counts, row-with_counts}

-- ---- the words of an array that was a whole slice, all 0
pub zeroed : {xs ys : List ℕ} {n : ℕ} {z : List ℕ} → IsWholeChunk xs ys n → z ≡ replicate (length ys) 0 → z ≡ replicate n 0
zeroed w e = e ∙ ap (λ (m : ℕ). replicate m 0) (ap length w.same ∙ w.long)

-- ---- the words of a version row, and those behind its count
abbrev row_words : ℕ
row_words = version_row base

abbrev behind : ℕ
behind = version_row base - 1

-- ---- the rows below x have the count 1, and no other word is changed
pub record Counted (before after : List ℕ) (x : ℕ) : Type 0 where
  pub within : x ≤ base.items
  pub size : length after ≡ version_words base
  pub done : (y : ℕ) → y < x → get_or after (row_words * y) 0 ≡ 1
  pub rest : (y k : ℕ) → k < behind → get_or after (row_words * y + suc k) 0 ≡ get_or before (row_words * y + suc k) 0

pub none_counted : (l : List ℕ) → length l ≡ version_words base → Counted l l 0
none_counted l e = record { within = omega arith; size = e; done = λ y b. absurd (omega arith); rest = λ y k b. refl }

pub one_counted : (before after : List ℕ) (x : ℕ) → x < base.items → Counted before after x → Counted before (set after (row_words * x) 1) (x + 1)
one_counted before after x i r =
    record {
      within = omega arith;
      size = length-set after (row_words * x) 1 ∙ r.size;
      done = λ y b. go y b (same? y x);
      rest = λ y k b. get_or-set_other after (row_words * x) (row_words * y + suc k) 1 0 (λ q. omega arith) ∙ r.rest y k b;
    }
  where
    go : (y : ℕ) → y < x + 1 → (y ≡ x) ⊎ (y ≢ x) → get_or (set after (row_words * x) 1) (row_words * y) 0 ≡ 1
    go y b (inl q) =
        subst (λ (z : ℕ). get_or (set after (row_words * x) 1) (row_words * z) 0 ≡ 1) (sym q)
        (get_or-set_same after (row_words * x) 1 0 (let s = r.size in omega arith))
    go y b (inr d) = get_or-set_other after (row_words * x) (row_words * y) 1 0 (λ q. d (omega arith)) ∙ r.done y (omega arith)

pub all_counted :
    (before after : List ℕ) (x : ℕ) → length before ≡ version_words base → base.items ≤ x → Counted before after x → after ≡ with_counts base before
all_counted before after x e b r =
    ext_get_or 0 after (with_counts base before) (r.size ∙ sym (length-with_counts base before e))
    (λ j i. word j (let s = r.size in omega arith) (j % row_words) refl)
  where
    new :
        (j : ℕ) → j < version_words base → (k : ℕ) → k < row_words
        → get_or (with_counts base before) (row_words * (j / row_words) + k) 0 ≡ get_or (1 ∷ drop 1 (row row_words (j / row_words) before)) k 0
    new j i k h =
        sym (row_word row_words (j / row_words) k (with_counts base before) h)
        ∙ ap (λ (m : List ℕ). get_or m k 0) (row-with_counts base before e (j / row_words) (omega arith))

    word : (j : ℕ) → j < version_words base → (k : ℕ) → j % row_words ≡ k → get_or after j 0 ≡ get_or (with_counts base before) j 0
    word j i zero q =
        let p : row_words * (j / row_words) ≡ j = omega arith in
        let n : row_words * (j / row_words) + 0 ≡ j = omega arith in
        subst (λ (m : ℕ). get_or after m 0 ≡ 1) p (r.done (j / row_words) (omega arith))
        ∙ sym (subst (λ (m : ℕ). get_or (with_counts base before) m 0 ≡ 1) n (new j i 0 (omega arith)))
    word j i (suc k) q =
        let h : k < behind = omega arith in
        let p : row_words * (j / row_words) + suc k ≡ j = omega arith in
        let n : 1 + k ≡ suc k = omega arith in
        subst (λ (m : ℕ). get_or after m 0 ≡ get_or (with_counts base before) m 0) p
        (r.rest (j / row_words) k h
        ∙ sym (row_word row_words (j / row_words) (suc k) before (omega arith))
        ∙ sym (get_or-drop 1 (row row_words (j / row_words) before) k 0 ∙ ap (λ (m : ℕ). get_or (row row_words (j / row_words) before) m 0) n)
        ∙ sym (new j i (suc k) (omega arith)))
