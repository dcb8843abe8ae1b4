-- What holds of an array that is a function holds of a list of as many numbers as there are items.
use Prim.Native.Nat.{ℕ, ◌<◌}
use mathlib.Core.Path.{◌≡◌, sym, ◌∙◌, subst}
use mathlib.Core.Logic.{◌≢◌, ◌⊎◌, inl, inr}
use mathlib.Core.List.{List, [], ◌∷◌}
use native.Mathlib.Omega.{arith}
use lib.ListN.{length, get_or, set, length-set, length-replicate}
use lib.Seq.{get_or-set_same, get_or-set_other}
use lib.Dec.{T, eqb}
use Rattle.names.specs.declared.Sizes.{Sizes}
use Rattle.rules.proofs.Tests.{and_left, and_right, and_both}
use Rattle.rules.proofs.Tests.{same?}
use Rattle.rules.proofs.Fresh as fresh
use Rattle.history.specs.Happened.{Access, got, put}
use Rattle.history.specs.Serial as lists
use Rattle.history.proofs.Plain.{Array, zeros, store, agrees, final}
use Rattle.history.proofs.Replay.{Within, store_here, store_there}

-- the list m has a number for each item, those of a
pub record Same (items : ℕ) (m : List ℕ) (a : Array) : Type 0 where
  pub size : length m ≡ items
  pub each : (x : ℕ) → x < items → get_or m x 0 ≡ a x

same_store : (items : ℕ) (m : List ℕ) (a : Array) (x v : ℕ) → x < items → Same items m a → Same items (set m x v) (store a x v)
same_store items m a x v b R = record { size = length-set m x v ∙ R.size; each = λ y c. go y c (same? y x) }
  where
    go : (y : ℕ) → y < items → (y ≡ x) ⊎ (y ≢ x) → get_or (set m x v) y 0 ≡ store a x v y
    go y c (inl e) = subst (λ (k : ℕ). get_or (set m x v) k 0 ≡ store a x v k) (sym e) (get_or-set_same m x v 0 (let k = R.size in omega arith) ∙ sym (store_here a x v))
    go y c (inr d) = get_or-set_other m x y v 0 d ∙ R.each y c ∙ sym (store_there a x v y d)

pub to_agrees : (items : ℕ) (l : List Access) (m : List ℕ) (a : Array) → Same items m a → Within (λ x. x < items) l → T (agrees l a) → T (lists.agrees l m)
unfolding agrees lists.agrees Within
to_agrees items [] m a R w h = tt
to_agrees items (got x v ∷ l) m a R w h =
    and_both (eqb (get_or m x 0) v) _ (subst (λ (k : ℕ). T (eqb k v)) (sym (R.each x w.0)) (and_left (eqb (a x) v) _ h)) (to_agrees items l m a R w.1 (and_right (eqb (a x) v) _ h))
to_agrees items (put x v ∷ l) m a R w h = to_agrees items l (set m x v) (store a x v) (same_store items m a x v w.0 R) w.1 h

pub to_final : (items : ℕ) (l : List Access) (m : List ℕ) (a : Array) → Same items m a → Within (λ x. x < items) l → (x : ℕ) → x < items → get_or (lists.final l m) x 0 ≡ final l a x
unfolding final lists.final Within
to_final items [] m a R w y c = R.each y c
to_final items (got x v ∷ l) m a R w y c = to_final items l m a R w.1 y c
to_final items (put x v ∷ l) m a R w y c = to_final items l (set m x v) (store a x v) (same_store items m a x v w.0 R) w.1 y c

pub same-zeros : (S : Sizes) → Same S.items (lists.zeros S) zeros
same-zeros S = record { size = length-replicate {A = ℕ} S.items 0; each = λ x b. fresh.zeros S.items x }
