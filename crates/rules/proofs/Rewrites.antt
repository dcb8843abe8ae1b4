-- A table of versions whose rows are all rewritten and trimmed: its size, its rows, its versions.
use Prim.Native.Nat.{ℕ, ◌*◌, ◌≤◌, ◌<◌}
use mathlib.Core.Path.{◌≡◌, sym, ap, ◌∙◌, subst}
use mathlib.Core.List.{List}
use native.Mathlib.Omega.{arith}
use native.Mathlib.Nat.{zero-add}
use lib.ListN.{length}
use Rattle.names.specs.declared.Sizes.{Sizes}
use Rattle.rules.specs.Words.{row}
use Rattle.rules.specs.Tables.{version_row, version_words, Reader}
use Rattle.rules.specs.Versions.{Version, versions_in, versions_of, row_of, kept, rewritten}
use Rattle.rules.proofs.Rows.{length-map_rows, row-map_rows, rows_mapped}
use Rattle.rules.proofs.Choice.{length-row_of, versions_in-row_of}
use Rattle.rules.proofs.Trim.{length-kept}

module _
    (S : Sizes) (qs : List Reader) (f : ℕ → List Version → List Version) (v : List ℕ)
    (room : length qs < S.places) (exact : length v ≡ version_words S)
  where
    abbrev new : ℕ → List ℕ → List ℕ
    new x r = row_of S (kept qs (f x (versions_in S r)))

    few : (vs : List Version) → length (kept qs vs) ≤ S.places
    few vs = let a = length-kept qs vs in omega arith

    keeps : (x : ℕ) (r : List ℕ) → length r ≡ version_row S → length (new x r) ≡ version_row S
    keeps x r e = length-row_of S (kept qs (f x (versions_in S r))) (few (f x (versions_in S r)))

    fits : version_row S * S.items ≤ length v
    fits = omega arith

    pub length-rewritten : length (rewritten S qs f v) ≡ version_words S
    unfolding rewritten
    length-rewritten = length-map_rows (version_row S) new keeps S.items 0 v fits ∙ exact

    pub row-rewritten :
        (x : ℕ) → x < S.items
        → row (version_row S) x (rewritten S qs f v) ≡ row_of S (kept qs (f x (versions_in S (row (version_row S) x v))))
    unfolding rewritten
    row-rewritten x h =
        row-map_rows (version_row S) new keeps S.items 0 v fits x h
        ∙ ap (λ (y : ℕ). new y (row (version_row S) x v)) (zero-add x)

    pub versions-rewritten : (x : ℕ) → x < S.items → versions_of S (rewritten S qs f v) x ≡ kept qs (f x (versions_of S v x))
    unfolding versions_of
    versions-rewritten x h =
        ap (versions_in S) (row-rewritten x h) ∙ versions_in-row_of S (kept qs (f x (versions_in S (row (version_row S) x v)))) (few (f x (versions_in S (row (version_row S) x v))))

-- rewritten once more with the same readers, where what was kept first makes no difference
pub rewritten_twice :
    (S : Sizes) (qs : List Reader) (f : ℕ → List Version → List Version) (v : List ℕ) → length qs < S.places → length v ≡ version_words S
    → ((x : ℕ) → x < S.items → kept qs (f x (kept qs (versions_of S v x))) ≡ kept qs (f x (versions_of S v x)))
    → rewritten S qs f (rewritten S qs (λ x vs. vs) v) ≡ rewritten S qs f v
unfolding rewritten versions_of
rewritten_twice S qs f v room exact same =
    rows_mapped (version_row S) (new S qs f v room exact) (new S qs f v room exact) S.items 0 (rewritten S qs (λ x vs. vs) v) v
    (length-rewritten S qs (λ x vs. vs) v room exact)
    exact
    (λ k h.
    subst (λ (y : ℕ). new S qs f v room exact y (row (version_row S) k (rewritten S qs (λ x vs. vs) v)) ≡ new S qs f v room exact y (row (version_row S) k v)) (sym (zero-add k))
    (ap (λ (vs : List Version). row_of S (kept qs (f k vs))) (versions-rewritten S qs (λ x vs. vs) v room exact k h)
    ∙ ap (row_of S) (same k h)))
