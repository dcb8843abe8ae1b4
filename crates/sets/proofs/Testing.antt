-- The test as the code makes it: by words of slots, and slot by slot.
use Prim.Native.Nat.{ℕ, suc, ◌+◌, ◌/◌, ◌%◌, ◌^◌}
use mathlib.Core.Path.{◌≡◌, refl, sym, ap, ap₂, ◌∙◌, subst}
use mathlib.Core.Logic.{◌≢◌}
use mathlib.Core.Bool.{Bool, true, false, ◌&&◌, ◌||◌, not, cond}
use mathlib.Core.List.{List}
use native.Mathlib.Numerals.{add-one}
use lib.Bits.{bit_or}
use lib.Dec.{T, eqb, eqb→eq, eqb-zero-suc}
use borrow.Author.Tests.{eq-eqb, ne_eqb}
use Rattle.names.specs.Sizes.{base}
use Rattle.rules.specs.Words.{bit, implies, every_below, some_below, slots_that, contains}
use Rattle.rules.specs.Tables.{txn, Lock, lock, holds_shared, holds_exclusive, live_settled, live_relaxed, some_settled, some_relaxed, relaxed_in, have_read}
use Rattle.rules.specs.Tested.{sets_good, holders_joined}
use Rattle.rules.proofs.Tests.{iff_eq, is_true, true_is, false_is, and_left, and_right, and_both, implies_make, not_make, ne_use}
use Rattle.rules.proofs.Counts.{some_below→, →some_below, →every_below}
use Rattle.rules.proofs.Bits.{slots_lt, slots→, →slots}
use Rattle.words.proofs.SlotWords.{no_bit, has_bit}
use Rattle.words.proofs.Turns.{or_zero}
use Rattle.shapes.specs.Shape.{settled_in, later_in}
use Rattle.shapes.proofs.Masks.{within_or}
use Rattle.sets.specs.Joined.{slot_joined, hidden_word, joined_at, all_joined, sets_test}

-- ---- an implication as the code makes it
pub implies_or : (p q : Bool) → (not p || q) ≡ implies p q
unfolding implies
implies_or true q = refl
implies_or false q = refl

-- slot s as the code tests it, its word of sets being w
pub slot-joined : (t : List ℕ) (h : Lock) (all m s : ℕ) {w : ℕ} → w ≡ (txn t s).later_for
    → ((not (eqb h.exclusive (s + 1)) || eqb (bit_or w all) w) && (not (eqb (h.shared / 2 ^ s % 2) 1) || eqb (bit_or w m) w)) ≡ slot_joined t h all m s
unfolding slot_joined holds_exclusive holds_shared bit contains
slot-joined t h all m s {w} e =
    ap (λ (w : ℕ). (not (eqb h.exclusive (s + 1)) || eqb (bit_or w all) w) && (not (eqb (h.shared / 2 ^ s % 2) 1) || eqb (bit_or w m) w)) e
    ∙ ap₂ ◌&&◌
    (ap (λ (n : ℕ). not (eqb h.exclusive n) || eqb (bit_or (txn t s).later_for all) (txn t s).later_for) (add-one s) ∙ implies_or (eqb h.exclusive (suc s)) _)
    (implies_or (eqb (h.shared / 2 ^ s % 2) 1) _)

-- ---- somebody passes where the word of those who do is not 0
some_slots : (n : ℕ) (p : ℕ → Bool) → some_below n p ≡ not (eqb (slots_that n p) 0)
some_slots n p =
    iff_eq (some_below n p) (not (eqb (slots_that n p) 0))
    (λ h.
    let w = some_below→ n p h in
    not_make (eqb (slots_that n p) 0) (λ z. no_bit w.0 (subst (λ (m : ℕ). T (bit m w.0)) (eqb→eq (slots_that n p) 0 z) (→slots n p w.0 w.1 w.2))))
    (λ h.
    let w = has_bit n (slots_that n p) (slots_lt n p) (ne_use (slots_that n p) 0 h) in
    →some_below n p w.0 w.1 (slots→ n p w.0 w.2).1)

-- ---- the words of the pass over the rows say whether the sets are good
abbrev tested : Bool → Bool → Bool → Bool → Bool
tested p r c j = (not (not p && not r) && c) && cond r true j

module _ (t l v : List ℕ) where
  sets_words :
      sets_good base t
      ≡ (not (not (eqb (settled_in base t) 0) && not (eqb (relaxed_in base t) 0)) && eqb (bit_or (relaxed_in base t) (later_in base t)) (relaxed_in base t))
  unfolding sets_good some_settled some_relaxed settled_in relaxed_in later_in contains
  sets_words =
      ap₂ (λ (a b : Bool). not a && b)
      (ap₂ ◌&&◌ (some_slots base.slots (λ s. live_settled (txn t s))) (some_slots base.slots (λ s. live_relaxed (txn t s))))
      (sym (within_or (slots_that base.slots (λ s. live_relaxed (txn t s))) base.slots (λ s. (txn t s).later_for)))

  module _ {p r o : ℕ} (ep : p ≡ settled_in base t) (er : r ≡ relaxed_in base t) (eo : o ≡ later_in base t) where
    whole : tested (eqb p 0) (eqb r 0) (eqb (bit_or r o) r) (all_joined base t l v) ≡ sets_test base t l v
    unfolding sets_test
    whole = rw (ep, er, eo) (ap (λ (b : Bool). b && cond (eqb (relaxed_in base t) 0) true (all_joined base t l v)) (sym sets_words))

    -- a set of nobody's
    pub sets_out : bit_or r o ≢ r → false ≡ sets_test base t l v
    sets_out d = go (eqb p 0) (eqb r 0) (all_joined base t l v) ∙ ap (λ (c : Bool). tested (eqb p 0) (eqb r 0) c (all_joined base t l v)) (sym (ne_eqb (bit_or r o) r d)) ∙ whole
      where
        go : (p r j : Bool) → false ≡ tested p r false j
        go true r j = refl
        go false true j = refl
        go false false j = refl

    module _ (h : bit_or r o ≡ r) where
      -- no relaxed query
      pub sets_none : r ≡ 0 → true ≡ sets_test base t l v
      sets_none z =
          go (eqb p 0)
          ∙ ap₂ (λ (a c : Bool). tested (eqb p 0) a c (all_joined base t l v)) (sym (eq-eqb r 0 z)) (sym (eq-eqb (bit_or r o) r h)) ∙ whole
        where
          go : (p : Bool) → true ≡ tested p true true (all_joined base t l v)
          go true = refl
          go false = refl

      module _ (d : r ≢ 0) where
        -- one beside somebody past its writing
        pub sets_beside : p ≢ 0 → false ≡ sets_test base t l v
        sets_beside q = ap₂ (λ (a b : Bool). tested a b (eqb (bit_or r o) r) (all_joined base t l v)) (sym (ne_eqb p 0 q)) (sym (ne_eqb r 0 d)) ∙ whole

        pub sets_joined : p ≡ 0 → all_joined base t l v ≡ sets_test base t l v
        sets_joined q =
            ap (λ (a : Bool). tested a false true (all_joined base t l v)) (sym (eq-eqb p 0 q))
            ∙ ap₂ (λ (b c : Bool). tested (eqb p 0) b c (all_joined base t l v)) (sym (ne_eqb r 0 d)) (sym (eq-eqb (bit_or r o) r h)) ∙ whole

-- ---- nobody holds a lock without holders
module _ (t l v : List ℕ) (x : ℕ) where
  pub joined_free : bit_or (lock l x).exclusive (lock l x).shared ≡ 0 → true ≡ joined_at base t l v x
  unfolding joined_at holders_joined holds_exclusive holds_shared
  joined_free e =
      let z = true_is (sym (or_zero (lock l x).exclusive (lock l x).shared) ∙ eq-eqb (bit_or (lock l x).exclusive (lock l x).shared) 0 e) in
      let a = eqb→eq (lock l x).shared 0 (and_left (eqb (lock l x).shared 0) (eqb (lock l x).exclusive 0) z) in
      let b = eqb→eq (lock l x).exclusive 0 (and_right (eqb (lock l x).shared 0) (eqb (lock l x).exclusive 0) z) in
      sym
      (is_true (joined_at base t l v x)
      (→every_below base.slots _
      (λ s i.
      and_both (implies (eqb (lock l x).exclusive (suc s)) (contains (txn t s).later_for (bit_or (have_read base t x) (hidden_word base v x)))) _
      (implies_make (eqb (lock l x).exclusive (suc s)) _ (λ k. absurd (false_is (ap (λ (n : ℕ). eqb n (suc s)) b ∙ eqb-zero-suc s) k)))
      (implies_make (bit (lock l x).shared s) _ (λ k. absurd (no_bit s (subst (λ (n : ℕ). T (bit n s)) a k)))))))

  -- and else it is each slot
  pub joined_slots : every_below base.slots (slot_joined t (lock l x) (bit_or (have_read base t x) (hidden_word base v x)) (hidden_word base v x)) ≡ joined_at base t l v x
  unfolding joined_at holders_joined slot_joined
  joined_slots = refl
