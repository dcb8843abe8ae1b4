-- One word of each row rewritten, row by row.
use Prim.Native.Nat.{ℕ, ◌+◌, ◌<◌}
use mathlib.Core.Path.{◌≡◌, sym, ap, ◌∙◌}
use mathlib.Core.List.{List}
use native.Mathlib.Numerals.{add-one}
use native.Mathlib.Nat.{le_refl}
use lib.ListN.{set}
use Rattle.names.specs.Layout.{txn_row}
use Rattle.rules.specs.Tables.{Txn, txn_at, txn, reworded}
use Rattle.rules.proofs.Views.{txn-reworded-out}

-- one row more
pub reworded-more :
    (k : ℕ) → k < txn_row → (n : ℕ) (f : Txn → ℕ) (t : List ℕ)
    → set (reworded k n f t) (txn_at n + k) (f (txn (reworded k n f t) n)) ≡ reworded k (n + 1) f t
unfolding reworded
reworded-more k l n f t =
    ap (λ (r : Txn). set (reworded k n f t) (txn_at n + k) (f r)) (txn-reworded-out k l n f t n (le_refl n))
    ∙ ap (λ (m : ℕ). reworded k m f t) (sym (add-one n))
