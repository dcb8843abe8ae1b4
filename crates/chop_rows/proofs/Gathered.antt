-- The pieces of the first n rows are what the rows say, by induction on n: a row more is noted at its piece, or begins one.
use Prim.Native.Nat.{ℕ, suc, ◌^◌, ◌<◌}
use mathlib.Core.Path.{◌≡◌, refl, sym, subst}
use mathlib.Core.Logic.{◌⊎◌, inl, inr, ◌↔◌}
use mathlib.Core.Bool.{Bool, true, false, ◌&&◌, cond}
use mathlib.Core.List.{List}
use native.Mathlib.Omega.{arith}
use lib.ListN.{length, get_or}
use lib.Bits.{bit_or}
use lib.Dec.{T, eqb, ltb, eqb→eq}
use borrow.Author.Tests.{lt-ltb, eq-eqb, ltb-true}
use Rattle.rules.specs.Words.{bit}
use Rattle.rules.proofs.Tests.{or_cases, or_left, or_right, true_is, eq_make}
use Rattle.rules.proofs.Counts.{split-le}
use Rattle.rules.proofs.Bits.{one_bit_at}
use Rattle.words.proofs.SlotWords.{or_at, no_bit, alone-only}
use Rattle.chop_rows.specs.declared.Row.{Row}
use Rattle.chop_rows.specs.declared.Noted.{Noted}
use Rattle.chop_rows.specs.RowPieces.{row_at, items, read_mode, write_mode, no_noted, is_of, with_item}
use Rattle.chop_rows.specs.Promises.{Touch}

-- ---- the set with the row's item
module _ (r : Row) (mode s x : ℕ) where
  pub item_in : T (bit (with_item r mode s) x) → T (bit s x) ⊎ ((r.item ≡ x) × (x < items) × (r.mode ≡ mode))
  item_in = go (ltb r.item items) refl (eqb r.mode mode) refl
    where
      go :
          (c : Bool) → ltb r.item items ≡ c → (d : Bool) → eqb r.mode mode ≡ d
          → T (bit (cond (c && d) (bit_or s (2 ^ r.item)) s) x) → T (bit s x) ⊎ ((r.item ≡ x) × (x < items) × (r.mode ≡ mode))
      go false e d f t = inl t
      go true e false f t = inl t
      go true e true f t = both (or_cases (bit s x) (bit (2 ^ r.item) x) (subst T (or_at s (2 ^ r.item) x) t))
        where
          both : T (bit s x) ⊎ T (bit (2 ^ r.item) x) → T (bit s x) ⊎ ((r.item ≡ x) × (x < items) × (r.mode ≡ mode))
          both (inl u) = inl u
          both (inr u) =
              let i = alone-only r.item x u in
              let l = ltb-true r.item items e in
              inr (sym i, (omega arith), eqb→eq r.mode mode (true_is f))

  pub item-keeps : T (bit s x) → T (bit (with_item r mode s) x)
  item-keeps t = go (ltb r.item items && eqb r.mode mode)
    where
      go : (c : Bool) → T (bit (cond c (bit_or s (2 ^ r.item)) s) x)
      go true = subst T (sym (or_at s (2 ^ r.item) x)) (or_left (bit s x) (bit (2 ^ r.item) x) t)
      go false = t

  pub item_new : r.item ≡ x → x < items → r.mode ≡ mode → T (bit (with_item r mode s) x)
  item_new i l m =
      let a = lt-ltb r.item items (omega arith) in
      let b = eq-eqb r.mode mode m in
      let u : T (bit (2 ^ r.item) x) = subst T (sym (one_bit_at r.item x)) (eq_make r.item x i) in
      rw (a, b) (subst T (sym (or_at s (2 ^ r.item) x)) (or_right (bit s x) (bit (2 ^ r.item) x) u))

-- ---- which items the rows of a pair touch, with one row more
module _ (words : List ℕ) (n t q mode : ℕ) where
  abbrev pub Says : ℕ → ℕ → Type 0
  Says m s = (x : ℕ) → T (bit s x) ↔ Touch words m t q mode x

  wider : (x : ℕ) → Touch words n t q mode x → Touch words (suc n) t q mode x
  wider x W =
      let i = W.inside in
      record { row = W.row; inside = omega arith; transaction = W.transaction; number = W.number; item = W.item; known = W.known; so = W.so }

  -- the row is of another pair
  pub says_other : (s : ℕ) → ((row_at words n).transaction ≡ t → (row_at words n).number ≡ q → ⊥) → Says n s → Says (suc n) s
  says_other s d S x = (λ b. wider x ((S x).0 b), λ W. (S x).1 (back W (split-le W.row n W.inside)))
    where
      back : (W : Touch words (suc n) t q mode x) → (W.row < n) ⊎ (W.row ≡ n) → Touch words n t q mode x
      back W (inl l) = record { row = W.row; inside = l; transaction = W.transaction; number = W.number; item = W.item; known = W.known; so = W.so }
      back W (inr e) =
          absurd
          (d (subst (λ (i : ℕ). (row_at words i).transaction ≡ t) e W.transaction) (subst (λ (i : ℕ). (row_at words i).number ≡ q) e W.number))

  -- the row is of that pair
  pub says-more :
      (s : ℕ) → (row_at words n).transaction ≡ t → (row_at words n).number ≡ q → Says n s → Says (suc n) (with_item (row_at words n) mode s)
  says-more s a b S x = (λ u. there (item_in (row_at words n) mode s x u), λ W. back W (split-le W.row n W.inside))
    where
      there : T (bit s x) ⊎ (((row_at words n).item ≡ x) × (x < items) × ((row_at words n).mode ≡ mode)) → Touch words (suc n) t q mode x
      there (inl u) = wider x ((S x).0 u)
      there (inr u) = record { row = n; inside = omega arith; transaction = a; number = b; item = u.0; known = u.1; so = u.2 }

      back : (W : Touch words (suc n) t q mode x) → (W.row < n) ⊎ (W.row ≡ n) → T (bit (with_item (row_at words n) mode s) x)
      back W (inl l) =
          item-keeps (row_at words n) mode s x
          ((S x).1 (record { row = W.row; inside = l; transaction = W.transaction; number = W.number; item = W.item; known = W.known; so = W.so }))
      back W (inr e) =
          item_new (row_at words n) mode s x (subst (λ (i : ℕ). (row_at words i).item ≡ x) e W.item) W.known (subst (λ (i : ℕ). (row_at words i).mode ≡ mode) e W.so)

  -- no row is of that pair
  pub says_none : ((i : ℕ) → i < n → (row_at words i).transaction ≡ t → (row_at words i).number ≡ q → ⊥) → Says n 0
  says_none d x = (λ u. absurd (no_bit x u), λ W. absurd (d W.row W.inside W.transaction W.number))

-- ---- the pieces of the first n rows
pub record Gathered (words : List ℕ) (n : ℕ) (ps : List Noted) : Type 0 where
  pub rows : (i : ℕ) → i < n → (k : ℕ) × (k < length ps) × T (is_of (row_at words i) (get_or ps k no_noted))
  pub pieces : (k : ℕ) → k < length ps → (i : ℕ) × (i < n) × T (is_of (row_at words i) (get_or ps k no_noted))
  pub apart :
      (j k : ℕ) → j < length ps → k < length ps → (get_or ps j no_noted).transaction ≡ (get_or ps k no_noted).transaction
      → (get_or ps j no_noted).number ≡ (get_or ps k no_noted).number → j ≡ k
  pub order :
      (j k i : ℕ) → j < k → k < length ps → i < n → T (is_of (row_at words i) (get_or ps k no_noted))
      → (h : ℕ) × (h < i) × T (is_of (row_at words h) (get_or ps j no_noted))
  pub reads : (k : ℕ) → k < length ps → Says words n (get_or ps k no_noted).transaction (get_or ps k no_noted).number read_mode n (get_or ps k no_noted).reads
  pub writes : (k : ℕ) → k < length ps → Says words n (get_or ps k no_noted).transaction (get_or ps k no_noted).number write_mode n (get_or ps k no_noted).writes
