-- Items as a word of bits: one more, as the code adds it, and what the bits say.
use Prim.Native.Nat.{ℕ, ◌*◌, ◌^◌, ◌%◌, ◌<◌, ◌≤◌}
use mathlib.Core.Path.{◌≡◌, refl, sym, ap, ◌∙◌}
use mathlib.Core.Bool.{Bool, true, false, cond, ◌||◌}
use mathlib.Core.List.{List, [], ◌∷◌, ◌++◌}
use native.Mathlib.Omega.{arith}
use lib.Dec.{eqb}
use lib.Bits.{bit_or}
use borrow.Author.Tests.{lt-ltb, le-ltb, ltb-true, eqb-true, eqb-false, ne_eqb}
use Rattle.rules.specs.Words.{some, bit, with_bit}
use Rattle.rules.proofs.Bits.{with_bit_here, with_bit_there, bit_none}
use Rattle.words.proofs.SlotWords.{shifted, set_is}
use Rattle.piece_lines.specs.Says.{piece}
use Rattle.piece_lines.specs.Items.{unknown, word_with, word_of, unknown_in}
use Rattle.line_words.proofs.Snoc.{some_snoc, or_false, or_true, or_assoc, or_swap}

pub item-unknown : (h i : ℕ) → 63 < i → h ≡ word_with h (i ∷ [])
unfolding word_with
item-unknown h i l = rw (lt-ltb 63 i l) refl

pub item-known : (h i : ℕ) → i ≤ 63 → bit_or h (1 * 2 ^ i % 2 ^ 64) ≡ word_with h (i ∷ [])
unfolding word_with
item-known h i l = rw (le-ltb 63 i l, shifted i (omega arith), set_is h i) refl

-- an item more
word_with_snoc : (items : List ℕ) (h i : ℕ) → word_with h (items ++ (i ∷ [])) ≡ word_with (word_with h items) (i ∷ [])
unfolding word_with
word_with_snoc [] h i = refl
word_with_snoc (x ∷ xs) h i = go (unknown x) (word_with_snoc xs h i) (word_with_snoc xs (with_bit h x) i)
  where
    go : (t : Bool)
        → word_with h (xs ++ (i ∷ [])) ≡ word_with (word_with h xs) (i ∷ [])
        → word_with (with_bit h x) (xs ++ (i ∷ [])) ≡ word_with (word_with (with_bit h x) xs) (i ∷ [])
        → cond t (word_with h (xs ++ (i ∷ []))) (word_with (with_bit h x) (xs ++ (i ∷ [])))
        ≡ word_with (cond t (word_with h xs) (word_with (with_bit h x) xs)) (i ∷ [])
    go true past on = past
    go false past on = on

pub word_of_snoc : (items : List ℕ) (i : ℕ) → word_of (items ++ (i ∷ [])) ≡ word_with (word_of items) (i ∷ [])
unfolding word_of
word_of_snoc items i = word_with_snoc items 0 i

module _ (n r w : List ℕ) (i : ℕ) where
  pub unknown-read : unknown_in (piece n (r ++ (i ∷ [])) w) ≡ (unknown_in (piece n r w) || unknown i)
  unfolding unknown_in
  unknown-read = ap (λ (t : Bool). t || some unknown w) (some_snoc unknown r i) ∙ or_swap (some unknown r) (some unknown w) (unknown i)

  pub unknown-written : unknown_in (piece n r (w ++ (i ∷ []))) ≡ (unknown_in (piece n r w) || unknown i)
  unfolding unknown_in
  unknown-written = ap (λ (t : Bool). some unknown r || t) (some_snoc unknown w i) ∙ or_assoc (some unknown r) (some unknown w) (unknown i)

-- ---- what the bits say

set_at : (h i x : ℕ) → bit (with_bit h i) x ≡ (bit h x || eqb x i)
set_at h i x = go (eqb x i) refl
  where
    go : (t : Bool) → eqb x i ≡ t → bit (with_bit h i) x ≡ (bit h x || eqb x i)
    go true e =
        let q : x ≡ i = eqb-true x i e in
        ap (bit (with_bit h i)) q ∙ with_bit_here h i ∙ sym (ap (λ (t : Bool). bit h x || t) e ∙ or_true (bit h x))
    go false e =
        with_bit_there h i x (eqb-false x i e) ∙ sym (ap (λ (t : Bool). bit h x || t) e ∙ or_false (bit h x))

bits_with : (items : List ℕ) (h x : ℕ) → x ≤ 63 → bit (word_with h items) x ≡ (bit h x || some (eqb x) items)
unfolding word_with some
bits_with [] h x l = sym (or_false (bit h x))
bits_with (i ∷ is) h x l = go (unknown i) refl (bits_with is h x l) (bits_with is (with_bit h i) x l)
  where
    go : (t : Bool)
        → unknown i ≡ t
        → bit (word_with h is) x ≡ (bit h x || some (eqb x) is)
        → bit (word_with (with_bit h i) is) x ≡ (bit (with_bit h i) x || some (eqb x) is)
        → bit (cond t (word_with h is) (word_with (with_bit h i) is)) x ≡ (bit h x || (eqb x i || some (eqb x) is))
    go true e past on =
        let m = ltb-true 63 i e in
        past ∙ ap (λ (t : Bool). bit h x || (t || some (eqb x) is)) (sym (ne_eqb x i (λ z. omega arith)))
    go false e past on =
        on ∙ ap (λ (t : Bool). t || some (eqb x) is) (set_at h i x) ∙ sym (or_assoc (bit h x) (eqb x i) (some (eqb x) is))

-- the bits of the word are the items that are known
pub items_are_bits : (items : List ℕ) (x : ℕ) → x ≤ 63 → bit (word_of items) x ≡ some (eqb x) items
unfolding word_of
items_are_bits items x l = bits_with items 0 x l ∙ ap (λ (t : Bool). t || some (eqb x) items) (bit_none x)
