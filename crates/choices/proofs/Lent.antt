-- The part of the table that is lent for an item is the item's row.
use Prim.Native.Nat.{ℕ, zero, suc, ◌+◌, ◌-◌, ◌*◌, ◌<◌}
use mathlib.Core.Path.{◌≡◌, sym, ap, ◌∙◌}
use mathlib.Core.List.{List, []}
use native.Mathlib.Omega.{arith}
use native.Mathlib.Nat.{mul-zero, mul-suc}
use lib.ListN.{get_or, length, take, drop, length-take, length-drop}
use Rattle.std.specs.Simd.{first_chunks}
use Rattle.std.proofs.lemmas.List.{drop-drop}
use Rattle.names.specs.Sizes.{base}
use Rattle.rules.specs.Words.{row}
use Rattle.rules.specs.Tables.{version_row, version_words}

-- a part's length is said by its two ends
pub wide : (x : ℕ) → (version_row base * x + version_row base) - version_row base * x ≡ version_row base
wide x = omega arith

pub lent :
    (x : ℕ) (v : List ℕ)
    → take ((version_row base * x + version_row base) - version_row base * x) (drop (version_row base * x) v) ≡ row (version_row base) x v
unfolding row
lent x v = ap (λ (n : ℕ). take n (drop (version_row base * x) v)) (wide x)

pub length-row : (x : ℕ) (v : List ℕ) → length v ≡ version_words base → x < base.items → length (row (version_row base) x v) ≡ version_row base
unfolding row
length-row x v l h = simp (length-take, length-drop) (omega arith)

-- a table cut into rows has the item's row at the item's place
chunk-row : (n k x : ℕ) (v : List ℕ) → x < k → get_or (first_chunks n k v) x [] ≡ take n (drop (n * x) v)
chunk-row n zero x v h = absurd (omega arith)
chunk-row n (suc k) zero v h = ap (λ (m : ℕ). take n (drop m v)) (sym (mul-zero n))
chunk-row n (suc k) (suc x) v h =
    chunk-row n k x (drop n v) (omega arith)
    ∙ ap (take n) (drop-drop (n * x) n v ∙ ap (λ (m : ℕ). drop m v) (let e = mul-suc n x in let f : n + n * x ≡ n * suc x = omega arith in f))

pub cut_row : (k x : ℕ) (v : List ℕ) → x < k → get_or (first_chunks (version_row base) k v) x [] ≡ row (version_row base) x v
unfolding row
cut_row k x v h = chunk-row (version_row base) k x v h
