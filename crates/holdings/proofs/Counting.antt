-- How many items each slot holds exclusively, counted lock by lock.
use Prim.Native.Nat.{ℕ, suc, ◌+◌, ◌-◌, ◌<◌, ◌≤◌}
use mathlib.Core.Path.{◌≡◌, refl, sym, ap, ap₂, ◌∙◌, subst}
use mathlib.Core.Logic.{◌≢◌, ⊎_elim}
use mathlib.Core.Bool.{Bool, true, ◌&&◌}
use mathlib.Core.List.{List}
use native.Mathlib.Omega.{arith}
use lib.Bits.{bit_or, or_add_and, and_le_l, and_le_r}
use lib.ListN.{get_or, set, length, length-set, replicate}
use lib.Seq.{get_or-set_same, get_or-set_other}
use borrow.Author.Tests.{eq-eqb, ne_eqb}
use Rattle.names.specs.Sizes.{base}
use Rattle.rules.specs.Words.{every_below, count_below}
use Rattle.rules.specs.Tables.{lock, holds_exclusive, exclusives_of}
use Rattle.rules.proofs.Tests.{same?}
use Rattle.rules.proofs.Counts.{count_yes, count_no, count-le}
use Rattle.words.proofs.Turns.{every_more}
use Rattle.holdings.specs.Holding.{lock_ok, locks_ok, Counted}
use Rattle.words.proofs.ZeroWords.{no_word}

-- ---- what is known once the locks of the items below i were passed
pub record Counting (u w : ℕ) (l c : List ℕ) (most : ℕ) (ok : Bool) (i : ℕ) : Type 0 where
  pub size : length c ≡ base.slots
  pub right : ok ≡ every_below i (λ x. lock_ok u w (lock l x))
  pub at : (s : ℕ) → s < base.slots → get_or c s 0 ≡ count_below i (λ x. holds_exclusive (lock l x) s)
  pub bound : (s : ℕ) → s < base.slots → get_or c s 0 ≤ most

pub counting_begin : (u w : ℕ) (l : List ℕ) → Counting u w l (replicate base.slots 0) 0 true 0
unfolding every_below count_below
counting_begin u w l =
    record {
      size = refl;
      right = refl;
      at = λ s k. no_word base.slots s;
      bound = λ s k. (let z = no_word base.slots s in omega arith);
    }

module _ (u w : ℕ) (l c : List ℕ) (most : ℕ) (ok : Bool) (i : ℕ) (k : i < base.items) (h : Counting u w l c most ok i) where
  abbrev test : ℕ → Bool
  test x = lock_ok u w (lock l x)

  -- no count is so great that one more is no word
  pub few : (s : ℕ) → s < base.slots → get_or c s 0 ≤ base.items
  few s j = let e = h.at s j in let b = count-le i (λ x. holds_exclusive (lock l x) s) in omega arith

  -- no slot holds lock i exclusively
  pub counting_none :
      {b : Bool} → b ≡ lock_ok u w (lock l i) → ((s : ℕ) → s < base.slots → (lock l i).exclusive ≢ suc s)
      → {c' : List ℕ} {most' : ℕ} {ok' : Bool} → c' ≡ c → most' ≡ most → ok' ≡ (b && ok) → Counting u w l c' most' ok' (i + 1)
  unfolding holds_exclusive
  counting_none e n p q r =
      rw (p, q, r)
      (record {
        size = h.size;
        right = ap₂ ◌&&◌ e h.right ∙ sym (every_more test i);
        at = λ s j. h.at s j ∙ sym (count_no i (λ x. holds_exclusive (lock l x) s) (ne_eqb (lock l i).exclusive (suc s) (n s j)));
        bound = h.bound;
      })

  -- one slot does
  pub counting_one :
      {b : Bool} → b ≡ lock_ok u w (lock l i) → (lock l i).exclusive ≢ 0 → (lock l i).exclusive ≤ base.slots
      → {c' : List ℕ} {most' : ℕ} {ok' : Bool}
      → c' ≡ set c ((lock l i).exclusive - 1) (get_or c ((lock l i).exclusive - 1) 0 + 1)
      → most' ≡ bit_or most (get_or c ((lock l i).exclusive - 1) 0 + 1)
      → ok' ≡ (b && ok) → Counting u w l c' most' ok' (i + 1)
  unfolding holds_exclusive
  counting_one e d m p q r =
      let z = h.size in
      rw (p, q, r)
      (record {
        size = length-set c a v ∙ h.size;
        right = ap₂ ◌&&◌ e h.right ∙ sym (every_more test i);
        at = λ s j. ⊎_elim
            (λ (x : s ≡ a).
            subst (λ (s : ℕ). get_or (set c a v) s 0 ≡ count_below (i + 1) (λ x. holds_exclusive (lock l x) s)) (sym x)
            (get_or-set_same c a v 0 (omega arith) ∙ ap (λ (m : ℕ). m + 1) (h.at a (omega arith)) ∙ sym (count_yes i (λ x. holds_exclusive (lock l x) a) (eq-eqb (lock l i).exclusive (suc a) (omega arith)))))
            (λ (x : s ≢ a).
            get_or-set_other c a s v 0 x ∙ h.at s j ∙ sym (count_no i (λ x. holds_exclusive (lock l x) s) (ne_eqb (lock l i).exclusive (suc s) (λ y. x (omega arith)))))
            (same? s a);
        bound = λ s j. ⊎_elim
            (λ (x : s ≡ a). let y = get_or-set_same c a v 0 (omega arith) in subst (λ (s : ℕ). get_or (set c a v) s 0 ≤ bit_or most v) (sym x) (omega (arith, or_add_and most v, and_le_l most v)))
            (λ (x : s ≢ a). let y = get_or-set_other c a s v 0 x in let o = h.bound s j in omega (arith, or_add_and most v, and_le_r most v))
            (same? s a);
      })
    where
      a : ℕ
      a = (lock l i).exclusive - 1

      v : ℕ
      v = get_or c a 0 + 1

-- ---- once all were passed
module _ (u w : ℕ) (l c : List ℕ) (most : ℕ) (ok : Bool) (h : Counting u w l c most ok base.items) where
  pub counting_right : {b : Bool} → ok ≡ b → locks_ok u w l ≡ b
  unfolding locks_ok
  counting_right e = sym h.right ∙ e

  pub counting_end : Counted l c most
  unfolding exclusives_of
  counting_end = record { size = h.size; at = h.at; bound = h.bound }
