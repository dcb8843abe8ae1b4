-- What a search that found somebody says, and one that found nobody.
use Prim.Native.Nat.{ℕ, ◌≤◌, ◌<◌}
use mathlib.Core.Path.{◌≡◌, refl, sym, ap, ◌∙◌}
use mathlib.Core.Logic.{◌≢◌, ◌⊎◌, inl, inr}
use mathlib.Core.Bool.{Bool, true, false, ◌&&◌, ◌||◌}
use mathlib.Core.List.{List}
use native.Mathlib.Omega.{arith}
use lib.Dec.{T, eqb, ltb, leb, eqb→eq}
use borrow.Author.Tests.{eqb-true, eqb-false, ltb-true, ltb-false, le-leb, lt-leb}
use Rattle.names.specs.Sizes.{base, last_word}
use Rattle.names.specs.Words.{item_of, number_of}
use Rattle.names.specs.declared.Slot.{Slot}
use Rattle.names.specs.declared.Item.{Item}
use Rattle.names.specs.declared.Number.{Number}
use Rattle.std.specs.Prelude.{Some, None}
use Rattle.rules.specs.Tables.{txn, live, slot_of, free_slot}
use Rattle.rules.proofs.Counts.{first-le, first_passes}
use Rattle.rules.proofs.Tests.{and_left, and_right, same?}
use Rattle.rules.proofs.EqualRows.{live-number}
use Rattle.rows.specs.Founds.{found_at}
use Rattle.callers.specs.Searchable.{Searchable}

-- ---- a slot that was searched for
pub record FoundSlot (k : ℕ) (s : Slot) : Type 0 where
  pub is : s.0 ≡ k
  pub some : eqb k base.slots ≡ false
  pub inside : k ≤ base.slots → s.0 < base.slots

pub found-slot : (k : ℕ) (s : Slot) → found_at k ≡ Some s → FoundSlot k s
unfolding found_at
found-slot k s e = go (eqb k base.slots) refl
  where
    go : (b : Bool) → eqb k base.slots ≡ b → FoundSlot k s
    go true h = absurd (let z : ◌≡◌ {A = ℕ} 0 1 = (let w : None ≡ Some s = sym (rw h) ∙ e in cc) in omega arith)
    go false h =
        let w : Some (record { 0 = k }) ≡ Some s = sym (rw h) ∙ e in
        let q : record { 0 = k } ≡ s = cc in
        let z : s.0 ≡ k = ap (λ (x : Slot). x.0) (sym q) in
        record { is = z; some = h; inside = λ l. let d = eqb-false k base.slots h in omega arith }

pub found_nobody : (k : ℕ) → found_at k ≡ None → eqb k base.slots ≡ true
unfolding found_at
found_nobody k e = go (eqb k base.slots) refl
  where
    go : (b : Bool) → eqb k base.slots ≡ b → eqb k base.slots ≡ true
    go true h = h
    go false h = absurd (let z : ◌≡◌ {A = ℕ} 0 1 = (let w : Some (record { 0 = k }) ≡ None = sym (rw h) ∙ e in cc) in omega arith)

pub slot-most : (t : List ℕ) (n : ℕ) → slot_of base t n ≤ base.slots
unfolding slot_of
slot-most t n = first-le (λ s. live (txn t s) && eqb (txn t s).number n) 0 base.slots

pub free-most : (t : List ℕ) → free_slot base t ≤ base.slots
unfolding free_slot
free-most t = first-le _ 0 base.slots

-- ---- a word that no transaction can have as its number is found nowhere
pub impossible : (t : List ℕ) → Searchable t → (n : ℕ) → number_of n ≡ None → slot_of base t n ≡ base.slots
unfolding number_of slot_of
impossible t R n e = go (same? (slot_of base t n) base.slots)
  where
    P : ℕ → Bool
    P s = live (txn t s) && eqb (txn t s).number n

    ruled : (b : Bool) → (eqb n 0 || ltb last_word n) ≡ b → (n ≡ 0) ⊎ (last_word < n)
    ruled true h = cases (eqb n 0) refl
      where
        cases : (b : Bool) → eqb n 0 ≡ b → (n ≡ 0) ⊎ (last_word < n)
        cases true q = inl (eqb-true n 0 q)
        cases false q = inr (ltb-true last_word n (let w : (eqb n 0 || ltb last_word n) ≡ ltb last_word n = rw q in sym w ∙ h))
    ruled false h = absurd (let z : ◌≡◌ {A = ℕ} 0 1 = (let w : Some (record { 0 = n }) ≡ None = sym (rw h) ∙ e in cc) in omega arith)

    clash : (s : ℕ) → s < base.slots → T (P s) → (n ≡ 0) ⊎ (last_word < n) → ⊥
    clash s i h (inl z) = live-number (txn t s) (and_left (live (txn t s)) _ h) (eqb→eq (txn t s).number n (and_right (live (txn t s)) _ h) ∙ z)
    clash s i h (inr l) = let q = eqb→eq (txn t s).number n (and_right (live (txn t s)) _ h) in let g = R.given s i in absurd (omega arith)

    go : (slot_of base t n ≡ base.slots) ⊎ (slot_of base t n ≢ base.slots) → slot_of base t n ≡ base.slots
    go (inl q) = q
    go (inr d) =
        let l : slot_of base t n < base.slots = omega (arith, first-le P 0 base.slots) in
        absurd (clash (slot_of base t n) l (first_passes P 0 base.slots l) (ruled (eqb n 0 || ltb last_word n) refl))

pub possible : (n : ℕ) (m : Number) → number_of n ≡ Some m → m.0 ≡ n
unfolding number_of
possible n m e = go (eqb n 0 || ltb last_word n) refl
  where
    go : (b : Bool) → (eqb n 0 || ltb last_word n) ≡ b → m.0 ≡ n
    go true h = absurd (let z : ◌≡◌ {A = ℕ} 0 1 = (let w : None ≡ Some m = sym (rw h) ∙ e in cc) in omega arith)
    go false h = let w : Some (record { 0 = n }) ≡ Some m = sym (rw h) ∙ e in let q : record { 0 = n } ≡ m = cc in ap (λ (x : Number). x.0) (sym q)

-- ---- an item
pub known : (x : ℕ) (i : Item) → item_of x ≡ Some i → (i.0 ≡ x) × (leb base.items x ≡ false) × (i.0 < base.items)
unfolding item_of
known x i e = go (ltb x base.items) refl
  where
    go : (b : Bool) → ltb x base.items ≡ b → (i.0 ≡ x) × (leb base.items x ≡ false) × (i.0 < base.items)
    go true h =
        let w : Some (record { 0 = x }) ≡ Some i = sym (rw h) ∙ e in
        let q : record { 0 = x } ≡ i = cc in
        let z : i.0 ≡ x = ap (λ (y : Item). y.0) (sym q) in
        let l = ltb-true x base.items h in
        (z, lt-leb base.items x l, omega arith)
    go false h = absurd (let z : ◌≡◌ {A = ℕ} 0 1 = (let w : None ≡ Some i = sym (rw h) ∙ e in cc) in omega arith)

pub unknown : (x : ℕ) → item_of x ≡ None → leb base.items x ≡ true
unfolding item_of
unknown x e = go (ltb x base.items) refl
  where
    go : (b : Bool) → ltb x base.items ≡ b → leb base.items x ≡ true
    go true h = absurd (let z : ◌≡◌ {A = ℕ} 0 1 = (let w : Some (record { 0 = x }) ≡ None = sym (rw h) ∙ e in cc) in omega arith)
    go false h = le-leb base.items x (ltb-false x base.items h)
