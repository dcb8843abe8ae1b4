-- The test of the sets is what the rules ask: of the rows of versions beside the versions themselves, and of the sets.
use Prim.Native.Nat.{ℕ, zero, suc, ◌+◌, ◌*◌, ◌^◌, ◌≤◌, ◌<◌}
use mathlib.Core.Path.{◌≡◌, refl, sym, ap, ◌∙◌, subst}
use mathlib.Core.Logic.{⊎_elim}
use mathlib.Core.Bool.{Bool, true, false, ◌&&◌, not, cond}
use mathlib.Core.List.{List}
use native.Mathlib.Omega.{arith}
use native.Mathlib.Nat.{zero-add}
use lib.ListN.{get_or, take, drop}
use lib.Seq.{get_or-drop}
use lib.Bits.{bit_or}
use lib.Dec.{T, eqb, leb, ltb, eqb→eq, leb→le}
use borrow.Author.Tests.{eqb-true}
use Rattle.names.specs.Sizes.{base}
use Rattle.rules.specs.Words.{bit, implies, every, every_below, every_row, row, contains}
use Rattle.rules.specs.Tables.{version_row, masks_at, Reader, last_number, clock, Txn, txn, live_relaxed, lock, holds_shared, holds_exclusive, relaxed_in, have_read}
use Rattle.rules.specs.Versions.{no_version, versions_from, versions_in, versions_of, hidden_at, hidden_now}
use Rattle.rules.specs.Tested.{tops_most, free_zero, listed, start_good, awaited_good, reads_good, notes_good, falls, nests, versions_good, holders_joined, sets_good}
use Rattle.rules.proofs.Tests.{iff_eq, is_true, and_left, and_right, and_both, implies_make, implies_use, not_make}
use Rattle.rules.proofs.Counts.{every_below→, →every_below}
use Rattle.rules.proofs.Rows.{every_row→, →every_row, row_word}
use Rattle.rules.proofs.Bits.{or_in, contains→, →contains, slots→, →slots}
use Rattle.words.proofs.SlotWords.{no_bit}
use Rattle.shapes.specs.Shape.{row_good, rows_good}
use Rattle.sets.specs.Joined.{hidden_word, joined_at, all_joined, sets_test}

-- ---- the word of the first version is what it is hidden from
pub hidden-first : (r : List ℕ) → 1 ≤ get_or r 0 0 → get_or r (masks_at base) 0 ≡ hidden_at (versions_in base r) 0
unfolding hidden_at versions_in
hidden-first r h = go (get_or r 0 0) h
  where
    go : (n : ℕ) → 1 ≤ n → get_or r (masks_at base) 0 ≡ (get_or (versions_from n (drop 1 r) (drop (masks_at base) r)) 0 no_version).hidden
    go zero k = absurd (omega arith)
    go (suc n) k = unfold versions_from in (sym (get_or-drop (masks_at base) r 0 0))

-- ---- what a row of versions that passes says
module _ (now : ℕ) (qs : List Reader) (m : ℕ) (r : List ℕ) (h : T (versions_good base now qs m r)) where
  has_one : 1 ≤ get_or r 0 0
  unfolding versions_good
  has_one = leb→le 1 (get_or r 0 0) (and_left (leb 1 (get_or r 0 0)) _ h)

  hidden-within : T (contains m (hidden_at (versions_in base r) 0))
  unfolding versions_good
  hidden-within =
      let h₁ = and_right (leb 1 (get_or r 0 0)) _ h in
      let h₂ = and_right (leb (get_or r 0 0) base.places) _ h₁ in
      let h₃ = and_right (every (λ w. eqb w 0) (drop (1 + 2 * get_or r 0 0) (take (masks_at base) r))) _ h₂ in
      let h₄ = and_right (every (λ w. eqb w 0) (drop (masks_at base + get_or r 0 0) r)) _ h₃ in
      let h₅ = and_right (falls (versions_in base r)) _ h₄ in
      let h₆ = and_right (nests (versions_in base r)) _ h₅ in
      and_left (contains m (hidden_at (versions_in base r) 0)) _ h₆

-- ---- what a row of transactions that passes says
row_notes : (t : List ℕ) (r : Txn) → T (row_good base t r) → T (notes_good base r)
unfolding row_good
row_notes t r h =
    let h₁ = and_right (free_zero r) _ h in
    let h₂ = and_right (leb r.number (last_number t)) _ h₁ in
    let h₃ = and_right (listed r) _ h₂ in
    let h₄ = and_right (start_good (clock t) r) _ h₃ in
    let h₅ = and_right (awaited_good base r) _ h₄ in
    and_right (reads_good r) _ h₅

-- ---- on rows that pass
module _ (t l v : List ℕ) (rows : T (rows_good base t)) (now : ℕ) (qs : List Reader)
    (versions : (x : ℕ) → x < base.items → T (versions_good base now qs (relaxed_in base t) (row (version_row base) x v))) where
  -- what the rules ask of item x
  abbrev asked : ℕ → Bool
  asked x = holders_joined base t x (lock l x) (hidden_now base v x)

  joined_is : (x : ℕ) → x < base.items → joined_at base t l v x ≡ asked x
  unfolding joined_at hidden_word hidden_now versions_of
  joined_is x i =
      ap (holders_joined base t x (lock l x))
      (sym (row_word (version_row base) x (masks_at base) v (omega arith)) ∙ hidden-first (row (version_row base) x v) (has_one now qs (relaxed_in base t) (row (version_row base) x v) (versions x i)))

  -- without a relaxed query nothing was read, and nothing is hidden
  module _ (none : relaxed_in base t ≡ 0) where
    no_relaxed : (s : ℕ) → s < base.slots → T (live_relaxed (txn t s)) → ⊥
    unfolding relaxed_in
    no_relaxed s i k = no_bit s (subst (λ (m : ℕ). T (bit m s)) none (→slots base.slots (λ s. live_relaxed (txn t s)) s i k))

    no_items : (s : ℕ) → s < base.slots → (txn t s).items_read ≡ 0
    unfolding rows_good notes_good
    no_items s i =
        let h = row_notes t (txn t s) (every_below→ base.slots (λ s. row_good base t (txn t s)) (and_right (tops_most t) _ rows) s i) in
        let k = and_right (ltb (txn t s).items_read (2 ^ base.items)) _ h in
        eqb→eq (txn t s).items_read 0
        (implies_use (not (live_relaxed (txn t s))) _ (and_left (implies (not (live_relaxed (txn t s))) (eqb (txn t s).items_read 0)) _ k) (not_make (live_relaxed (txn t s)) (no_relaxed s i)))

    no_reader : (x s : ℕ) → T (bit (have_read base t x) s) → ⊥
    unfolding have_read
    no_reader x s k =
        let w = slots→ base.slots (λ s. bit (txn t s).items_read x) s k in
        no_bit x (subst (λ (m : ℕ). T (bit m x)) (no_items s w.0) w.1)

    no_hidden : (x : ℕ) → x < base.items → (s : ℕ) → T (bit (hidden_now base v x) s) → ⊥
    unfolding hidden_now versions_of
    no_hidden x i s k =
        no_bit s
        (subst (λ (m : ℕ). T (bit m s)) none
        (contains→ (relaxed_in base t) (hidden_now base v x) (hidden-within now qs (relaxed_in base t) (row (version_row base) x v) (versions x i)) s k))

    joined_none : (x : ℕ) → x < base.items → T (asked x)
    unfolding holders_joined
    joined_none x i =
        →every_below base.slots _
        (λ s j.
        and_both (implies (holds_exclusive (lock l x) s) (contains (txn t s).later_for (bit_or (have_read base t x) (hidden_now base v x)))) _
        (implies_make (holds_exclusive (lock l x) s) _
        (λ z. →contains (txn t s).later_for (bit_or (have_read base t x) (hidden_now base v x))
        (λ q k. absurd (⊎_elim (no_reader x q) (no_hidden x i q) (or_in (have_read base t x) (hidden_now base v x) q k)))))
        (implies_make (holds_shared (lock l x) s) _ (λ z. →contains (txn t s).later_for (hidden_now base v x) (λ q k. absurd (no_hidden x i q k)))))

  -- so the test is the rules'
  pub sets_same : sets_test base t l v ≡ (sets_good base t && every_below base.items asked)
  unfolding sets_test all_joined
  sets_same = ap (λ (b : Bool). sets_good base t && b) (go (eqb (relaxed_in base t) 0) refl)
    where
      go : (b : Bool) → eqb (relaxed_in base t) 0 ≡ b → cond b true (every_below base.items (joined_at base t l v)) ≡ every_below base.items asked
      go true e = sym (is_true (every_below base.items asked) (→every_below base.items asked (joined_none (eqb-true (relaxed_in base t) 0 e))))
      go false e =
          iff_eq (every_below base.items (joined_at base t l v)) (every_below base.items asked)
          (λ h. →every_below base.items asked (λ x i. subst T (joined_is x i) (every_below→ base.items (joined_at base t l v) h x i)))
          (λ h. →every_below base.items (joined_at base t l v) (λ x i. subst T (sym (joined_is x i)) (every_below→ base.items asked h x i)))

-- ---- the rules' one test of all rows of versions is a test of the versions, and one of those who hold the items
pub rows_apart :
    (t l v : List ℕ) (now : ℕ) (qs : List Reader) (m : ℕ)
    → every_row base.items (version_row base) (λ x r. versions_good base now qs m r && holders_joined base t x (lock l x) (hidden_at (versions_in base r) 0)) 0 v
    ≡ (every_row base.items (version_row base) (λ x r. versions_good base now qs m r) 0 v && every_below base.items (λ x. holders_joined base t x (lock l x) (hidden_now base v x)))
unfolding hidden_now versions_of
rows_apart t l v now qs m =
    iff_eq (every_row base.items (version_row base) both 0 v) (every_row base.items (version_row base) good 0 v && every_below base.items joined)
    (λ h.
    and_both (every_row base.items (version_row base) good 0 v) _
    (→every_row base.items (version_row base) good 0 v (λ x i. and_left (good x (row (version_row base) x v)) _ (at h x i)))
    (→every_below base.items joined (λ x i. and_right (good x (row (version_row base) x v)) _ (at h x i))))
    (λ h.
    →every_row base.items (version_row base) both 0 v (λ x i.
    subst (λ (n : ℕ). T (both n (row (version_row base) x v))) (sym (zero-add x))
    (and_both (good x (row (version_row base) x v)) _
    (every_row→ base.items (version_row base) good 0 v (and_left (every_row base.items (version_row base) good 0 v) _ h) x i)
    (every_below→ base.items joined (and_right (every_row base.items (version_row base) good 0 v) _ h) x i))))
  where
    good : ℕ → List ℕ → Bool
    good x r = versions_good base now qs m r

    both : ℕ → List ℕ → Bool
    both x r = versions_good base now qs m r && holders_joined base t x (lock l x) (hidden_at (versions_in base r) 0)

    joined : ℕ → Bool
    joined x = holders_joined base t x (lock l x) (hidden_at (versions_in base (row (version_row base) x v)) 0)

    at : T (every_row base.items (version_row base) both 0 v) → (x : ℕ) → x < base.items → T (both x (row (version_row base) x v))
    at h x i = subst (λ (n : ℕ). T (both n (row (version_row base) x v))) (zero-add x) (every_row→ base.items (version_row base) both 0 v h x i)
