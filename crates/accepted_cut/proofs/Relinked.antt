-- The judgement goes by links alone: pieces that are joined in the same ways are judged the same.
use Prim.Native.Nat.{ℕ, zero, suc, ◌+◌, ◌<◌, ◌≤◌}
use mathlib.Core.Path.{◌≡◌, refl, ap, ap₂, ◌∙◌}
use mathlib.Core.Bool.{Bool, true, false, not, cond}
use mathlib.Core.List.{List, ◌∷◌}
use native.Mathlib.Omega.{arith}
use lib.Bits.{bit_and, bit_or}
use lib.Dec.{eqb, ltb}
use lib.ListN.{length}
use borrow.Author.Tests.{ltb-true}
use Rattle.rules.specs.Words.{first_from, tabulate_from}
use Rattle.graph.specs.Sets.{those, lowest}
use Rattle.graph.specs.Near.{joined, path}
use Rattle.graph.proofs.Sets.{those-same}
use Rattle.chop.specs.Pieces.{Piece, most, siblings, conflict}
use Rattle.chop.specs.Verdicts.{Verdict, too_many_pieces, refused, accepted}
use Rattle.chop.specs.Judgement.{siblings_of, conflicts_of, links_of, others, closing, turning, circle_at, verdict_at, verdict_by, judgement}

first-same : (p q : ℕ → Bool) (s n : ℕ) → ((i : ℕ) → s ≤ i → i < s + n → p i ≡ q i) → first_from p s n ≡ first_from q s n
unfolding first_from
first-same p q s zero f = refl
first-same p q s (suc n) f =
    ap₂ (λ (t : Bool) (r : ℕ). cond t s r) (f s (omega arith) (omega arith)) (first-same p q (suc s) n (λ i a b. f i (omega arith) (omega arith)))

tabulate_same : (f g : ℕ → ℕ) (s n : ℕ) → ((i : ℕ) → s ≤ i → i < s + n → f i ≡ g i) → tabulate_from s n f ≡ tabulate_from s n g
unfolding tabulate_from
tabulate_same f g s zero h = refl
tabulate_same f g s (suc n) h =
    ap₂ (λ (x : ℕ) (l : List ℕ). x ∷ l) (h s (omega arith) (omega arith)) (tabulate_same f g (suc s) n (λ i a b. h i (omega arith) (omega arith)))

module _ (ps qs : List Piece) (size : length ps ≡ length qs)
    (as-siblings : (a b : ℕ) → a < length ps → b < length ps → siblings ps a b ≡ siblings qs a b)
    (as-conflicts : (a b : ℕ) → a < length ps → b < length ps → conflict ps a b ≡ conflict qs a b) where
  siblings-same : (b : ℕ) → b < length ps → siblings_of ps b ≡ siblings_of qs b
  unfolding siblings_of
  siblings-same b h = those-same (length ps) (siblings ps b) (siblings qs b) (λ i l. as-siblings b i h l) ∙ ap (λ (n : ℕ). those n (siblings qs b)) size

  conflicts-same : (b : ℕ) → b < length ps → conflicts_of ps b ≡ conflicts_of qs b
  unfolding conflicts_of
  conflicts-same b h = those-same (length ps) (conflict ps b) (conflict qs b) (λ i l. as-conflicts b i h l) ∙ ap (λ (n : ℕ). those n (conflict qs b)) size

  links-same : links_of ps ≡ links_of qs
  unfolding links_of
  links-same =
      tabulate_same (λ a. bit_or (siblings_of ps a) (conflicts_of ps a)) (λ a. bit_or (siblings_of qs a) (conflicts_of qs a)) 0 (length ps)
      (λ i a b. ap₂ bit_or (siblings-same i (omega arith)) (conflicts-same i (omega arith)))
      ∙ ap (λ (n : ℕ). tabulate_from 0 n (λ a. bit_or (siblings_of qs a) (conflicts_of qs a))) size

  module _ (w : List ℕ) where
    closing_same : (b : ℕ) → b < length ps → closing ps w b ≡ closing qs w b
    unfolding closing
    closing_same b h =
        ap₂ (λ (s c : ℕ). cond (eqb s 0) 0 (bit_and c (joined w (others (length ps) b) (lowest s)))) (siblings-same b h) (conflicts-same b h)
        ∙ ap (λ (n : ℕ). cond (eqb (siblings_of qs b) 0) 0 (bit_and (conflicts_of qs b) (joined w (others n b) (lowest (siblings_of qs b))))) size

    turning-same : turning ps w ≡ turning qs w
    unfolding turning
    turning-same =
        first-same (λ b. not (eqb (closing ps w b) 0)) (λ b. not (eqb (closing qs w b) 0)) 0 (length ps)
        (λ i a b. ap (λ (c : ℕ). not (eqb c 0)) (closing_same i (omega arith)))
        ∙ ap (first_from (λ b. not (eqb (closing qs w b) 0)) 0) size

    circle-same : (b : ℕ) → b < length ps → circle_at ps w b ≡ circle_at qs w b
    unfolding circle_at
    circle-same b h =
        ap₂ (λ (s c : ℕ). b ∷ path w (others (length ps) b) (lowest s) (lowest c)) (siblings-same b h) (closing_same b h)
        ∙ ap (λ (n : ℕ). b ∷ path w (others n b) (lowest (siblings_of qs b)) (lowest (closing qs w b))) size

    at_same : (b : ℕ) → verdict_at ps w b ≡ verdict_at qs w b
    unfolding verdict_at
    at_same b = go (ltb b (length ps)) refl ∙ ap (λ (n : ℕ). cond (ltb b n) (refused (circle_at qs w b)) accepted) size
      where
        go : (t : Bool) → ltb b (length ps) ≡ t → cond (ltb b (length ps)) (refused (circle_at ps w b)) accepted ≡ cond (ltb b (length ps)) (refused (circle_at qs w b)) accepted
        go true e = ap (λ (l : List ℕ). cond (ltb b (length ps)) (refused l) accepted) (circle-same b (ltb-true b (length ps) e))
        go false e = rw e refl

  pub judged-same : judgement ps ≡ judgement qs
  unfolding judgement verdict_by
  judged-same =
      ap (λ (v : Verdict). cond (ltb most (length ps)) too_many_pieces v)
      (at_same (links_of ps) (turning ps (links_of ps))
      ∙ ap (verdict_at qs (links_of ps)) (turning-same (links_of ps))
      ∙ ap (λ (w : List ℕ). verdict_at qs w (turning qs w)) links-same)
      ∙ ap (λ (n : ℕ). cond (ltb most n) too_many_pieces (verdict_at qs (links_of qs) (turning qs (links_of qs)))) size
