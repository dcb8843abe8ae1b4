-- Items as they are printed, read back: the word of a piece, and none that is unknown.
use Prim.Native.Nat.{ℕ, zero, suc, ◌+◌, ◌^◌, ◌≤◌}
use mathlib.Core.Path.{◌≡◌, refl, sym, ap, ap₂, ◌∙◌}
use mathlib.Core.Bool.{Bool, true, false, cond, ◌||◌}
use mathlib.Core.List.{[], ◌∷◌, ◌++◌, append-nil}
use native.Mathlib.Omega.{arith}
use lib.Bits.{bit_or}
use borrow.Author.Tests.{le-ltb}
use Rattle.rules.specs.Words.{some, bit, with_bit}
use Rattle.words.proofs.SlotWords.{set_is}
use Rattle.graph.specs.Sets.{those}
use Rattle.graph.proofs.Sets.{those_at}
use Rattle.piece_lines.specs.Items.{unknown, word_with, word_of}
use Rattle.piece_lines.proofs.Items.{word_of_snoc}
use Rattle.finest.specs.Choppings.{passing}
use Rattle.cut_lines.specs.Text.{items_in}
use Rattle.cut_lines.proofs.Printing.{passing-more, passing-same}

one_item : (h x : ℕ) → x ≤ 63 → word_with h (x ∷ []) ≡ bit_or h (2 ^ x)
unfolding word_with
one_item h x l = ap (λ (t : Bool). cond t h (with_bit h x)) (le-ltb 63 x l) ∙ sym (set_is h x)

no_items : word_of [] ≡ 0
unfolding word_of word_with
no_items = refl

word-those : (p : ℕ → Bool) (n : ℕ) → n ≤ 64 → word_of (passing p 0 n) ≡ those n p
unfolding passing those
word-those p zero h = no_items
word-those p (suc n) h =
    ap word_of (passing-more p 0 n ∙ ap (λ (k : ℕ). passing p 0 n ++ cond (p k) (k ∷ []) []) (let e : 0 + n ≡ n = omega arith in e))
    ∙ go (p n) (word-those p n (omega arith))
  where
    go : (t : Bool) → word_of (passing p 0 n) ≡ those n p → word_of (passing p 0 n ++ cond t (n ∷ []) []) ≡ cond t (bit_or (those n p) (2 ^ n)) (those n p)
    go true e = word_of_snoc (passing p 0 n) n ∙ ap (λ (h : ℕ). word_with h (n ∷ [])) e ∙ one_item (those n p) n (omega arith)
    go false e = ap word_of (append-nil (passing p 0 n)) ∙ e

-- THE ITEMS ARE THE SET
pub items_back : (p : ℕ → Bool) → word_of (items_in (those 64 p)) ≡ those 64 p
unfolding items_in
items_back p = ap word_of (passing-same (bit (those 64 p)) p 0 64 (λ x a b. those_at 64 p x (omega arith))) ∙ word-those p 64 (omega arith)

none_unknown : (p : ℕ → Bool) (i n : ℕ) → i + n ≤ 64 → some unknown (passing p i n) ≡ false
unfolding passing some
none_unknown p i zero h = refl
none_unknown p i (suc n) h = go (p i) (none_unknown p (suc i) n (omega arith))
  where
    go : (t : Bool) → some unknown (passing p (suc i) n) ≡ false → some unknown (cond t (i ∷ passing p (suc i) n) (passing p (suc i) n)) ≡ false
    go true e = ap₂ ◌||◌ (le-ltb 63 i (omega arith)) e
    go false e = e

pub items-known : (set : ℕ) → some unknown (items_in set) ≡ false
unfolding items_in
items-known set = none_unknown (bit set) 0 64 (omega arith)
