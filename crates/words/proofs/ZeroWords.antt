-- Words that are zero: in two parts, and as a list; words that were filled with zeros.
use Prim.Native.Nat.{ℕ, zero, suc, ◌+◌, ◌-◌, ◌<◌, ◌≤◌}
use mathlib.Core.Path.{◌≡◌, refl, sym, ◌∙◌, subst}
use mathlib.Core.Bool.{Bool, true, false, ◌&&◌}
use mathlib.Core.List.{List}
use native.Mathlib.Omega.{arith}
use lib.ListN.{get_or, length, drop, replicate, get_or-eq_default}
use lib.Seq.{get_or-drop}
use lib.Dec.{T, eqb, ltb, eqb→eq}
use borrow.Author.Tests.{ltb-true, ltb-false}
use Rattle.rules.specs.Words.{every_below, every}
use Rattle.rules.proofs.Tests.{and_left, and_right, and_both, eq_make}
use Rattle.rules.proofs.Counts.{every_below→, →every_below}
use Rattle.rules.proofs.Choice.{zero_each, zero_all}
use Rattle.words.specs.Zeros.{zero_words}
use Rattle.words.proofs.Turns.{iff_eq}

module _ (l : List ℕ) where
  abbrev at : ℕ → ℕ → Bool
  at from k = eqb (get_or l (from + k) 0) 0

  at_same : {a b : ℕ} → a ≡ b → T (eqb (get_or l a 0) 0) → T (eqb (get_or l b 0) 0)
  at_same e t = subst (λ (m : ℕ). T (eqb (get_or l m 0) 0)) e t

  -- in two parts
  pub zero_split : (from a b : ℕ) → zero_words l from (a + b) ≡ (zero_words l from a && zero_words l (from + a) b)
  unfolding zero_words
  zero_split from a b =
      iff_eq (every_below (a + b) (at from)) (every_below a (at from) && every_below b (at (from + a)))
      (λ t.
      and_both (every_below a (at from)) (every_below b (at (from + a)))
      (→every_below a (at from) (λ k h. every_below→ (a + b) (at from) t k (omega arith)))
      (→every_below b (at (from + a))
      (λ k h. at_same (let e : from + (a + k) ≡ from + a + k = omega arith in e) (every_below→ (a + b) (at from) t (a + k) (omega arith)))))
      (λ t. →every_below (a + b) (at from) (λ k h. part t k h (ltb k a) refl))
    where
      part : T (every_below a (at from) && every_below b (at (from + a))) → (k : ℕ) → k < a + b → (c : Bool) → ltb k a ≡ c → T (at from k)
      part t k h true e = every_below→ a (at from) (and_left (every_below a (at from)) (every_below b (at (from + a))) t) k (ltb-true k a e)
      part t k h false e =
          let o : a ≤ k = ltb-false k a e in
          at_same (let z : from + a + (k - a) ≡ from + k = omega arith in z)
          (every_below→ b (at (from + a)) (and_right (every_below a (at from)) (every_below b (at (from + a))) t) (k - a) (omega arith))

  -- the words from place k on, as a list
  pub zeros→ : (k n : ℕ) → T (every (λ w. eqb w 0) (drop k l)) → T (zero_words l k n)
  unfolding zero_words
  zeros→ k n t = →every_below n (at k) (λ j h. eq_make (get_or l (k + j) 0) 0 (sym (get_or-drop k l j 0) ∙ zero_each (drop k l) t j))

  pub →zeros : (k n : ℕ) → length l ≤ k + n → T (zero_words l k n) → T (every (λ w. eqb w 0) (drop k l))
  unfolding zero_words
  →zeros k n h t = zero_all (drop k l) (λ j. get_or-drop k l j 0 ∙ go j (ltb j n) refl)
    where
      go : (j : ℕ) (c : Bool) → ltb j n ≡ c → get_or l (k + j) 0 ≡ 0
      go j true e = eqb→eq (get_or l (k + j) 0) 0 (every_below→ n (at k) t j (ltb-true j n e))
      go j false e = let o : n ≤ j = ltb-false j n e in get_or-eq_default l 0 {n = k + j} (omega arith)

-- an array of zeros
pub no_word : (n k : ℕ) → ◌≡◌ {A = ℕ} (get_or {A = ℕ} (replicate n 0) k 0) 0
no_word zero k = refl
no_word (suc n) zero = refl
no_word (suc n) (suc k) = no_word n k
