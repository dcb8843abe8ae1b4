-- Rows that are cut have not too many operations, on known items.
use Prim.Native.Nat.{ℕ, ◌+◌, ◌*◌, ◌/◌, ◌≤◌, ◌<◌}
use mathlib.Core.Path.{◌≡◌, refl, sym, subst}
use mathlib.Core.Bool.{Bool, true, false, not}
use mathlib.Core.List.{List}
use native.Mathlib.Omega.{arith}
use lib.ListN.{length, get_or}
use lib.Dec.{ltb}
use borrow.Author.Tests.{ltb-true, ltb-false}
use Rattle.rules.proofs.Tests.{false_is, not_make}
use Rattle.rules.proofs.Counts.{→some_below}
use Rattle.finest.specs.Operations.{Operation, most, items, Fits}
use Rattle.finest.specs.Finest.{finest_cut}
use Rattle.finest.specs.Rows.{operations_in, some_unknown, some_malformed, Outcome, too_many_operations, unknown_item, malformed, cut, rows_cut}
use Rattle.finest.proofs.InRows.{length-operations, operation_at_lem}
use Rattle.finest.proofs.Writing.{rows-many, rows-unknown, rows-malformed, rows_cut_lem}

not_many : (o : Outcome) (l : List ℕ) → o ≡ too_many_operations → o ≡ cut l → ⊥
not_many o l e f = let z : ◌≡◌ {A = ℕ} 0 1 = cc in omega arith

not_unknown : (o : Outcome) (l : List ℕ) → o ≡ unknown_item → o ≡ cut l → ⊥
not_unknown o l e f = let z : ◌≡◌ {A = ℕ} 0 1 = cc in omega arith

not_malformed : (o : Outcome) (l : List ℕ) → o ≡ malformed → o ≡ cut l → ⊥
not_malformed o l e f = let z : ◌≡◌ {A = ℕ} 0 1 = cc in omega arith

same_names : (o : Outcome) (k l : List ℕ) → o ≡ cut k → o ≡ cut l → l ≡ k
same_names o k l e f = cc

module _ (words : List ℕ) where
  item-known : some_unknown words ≡ false → (i : ℕ) → i < length words / 4 → get_or words (i * 4 + 1) 0 < items
  unfolding some_unknown
  item-known u i l = go (ltb (get_or words (i * 4 + 1) 0) items) refl
    where
      go : (b : Bool) → ltb (get_or words (i * 4 + 1) 0) items ≡ b → get_or words (i * 4 + 1) 0 < items
      go true e = ltb-true (get_or words (i * 4 + 1) 0) items e
      go false e =
          absurd
          (false_is u
          (→some_below (length words / 4) (λ k. not (ltb (get_or words (k * 4 + 1) 0) items)) i l (not_make (ltb (get_or words (i * 4 + 1) 0) items) (false_is e))))

  fits : length words / 4 ≤ most → some_unknown words ≡ false → Fits (operations_in words)
  fits l u =
      record {
        few = let e = length-operations words in omega arith;
        known = λ i m.
            let n : i < length words / 4 = (let e = length-operations words in omega arith) in
            subst (λ (o : Operation). o.item < items) (sym (operation_at_lem words i n)) (item-known u i n);
      }

  pub cut_fitting : (l : List ℕ) → rows_cut words ≡ cut l → Fits (operations_in words) × (l ≡ finest_cut (operations_in words))
  cut_fitting l r = go (ltb most (length words / 4)) refl (some_unknown words) refl (some_malformed words) refl
    where
      go :
          (a : Bool) → ltb most (length words / 4) ≡ a → (b : Bool) → some_unknown words ≡ b → (c : Bool) → some_malformed words ≡ c
          → Fits (operations_in words) × (l ≡ finest_cut (operations_in words))
      go true e b f c g = absurd (not_many (rows_cut words) l (rows-many words (ltb-true most (length words / 4) e)) r)
      go false e true f c g = absurd (not_unknown (rows_cut words) l (rows-unknown words (ltb-false most (length words / 4) e) f) r)
      go false e false f true g = absurd (not_malformed (rows_cut words) l (rows-malformed words (ltb-false most (length words / 4) e) f g) r)
      go false e false f false g =
          (fits (ltb-false most (length words / 4) e) f, same_names (rows_cut words) (finest_cut (operations_in words)) l (rows_cut_lem words (ltb-false most (length words / 4) e) f g) r)
