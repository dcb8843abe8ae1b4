-- The links of pieces as words: who is in them; siblings of one piece; all pieces but one, as a room for ways.
use Prim.Native.Nat.{ℕ, ◌^◌, ◌<◌}
use mathlib.Core.Path.{◌≡◌, refl, sym, ap, ◌∙◌, subst}
use mathlib.Core.Logic.{◌≢◌, ◌⊎◌, inl, inr}
use mathlib.Core.Bool.{Bool, true, false, ◌||◌, not}
use mathlib.Core.List.{List}
use native.Mathlib.Omega.{arith}
use native.Mathlib.Nat.{zero-add}
use lib.ListN.{length, get_or, get_or-eq_default}
use lib.Bits.{bit_or}
use lib.Dec.{T, eqb, ltb, eqb→eq}
use borrow.Author.Tests.{ltb-true, ltb-false}
use Rattle.rules.specs.Words.{bit}
use Rattle.rules.proofs.Tests.{and_both, and_left, and_right, or_cases, or_left, or_right, ne_make, ne_use, eq_make}
use Rattle.rules.proofs.Circles.{get_d_tabulate, length_tabulate}
use Rattle.words.proofs.SlotWords.{or_at, no_bit}
use Rattle.graph.specs.Ways.{linked}
use Rattle.graph.proofs.Sets.{those_in, those_below, those_pass, those-small}
use Rattle.graph.proofs.Ways.{Room}
use Rattle.chop.specs.Pieces.{Piece, piece, siblings, clash, conflict, joins}
use Rattle.chop.specs.Judgement.{siblings_of, conflicts_of, links_of, others}

module _ (ps : List Piece) where
  -- ---- siblings and conflicts
  pub sibling-other : (a b : ℕ) → T (siblings ps a b) → a ≢ b
  sibling-other a b t = ne_use a b (and_left (not (eqb a b)) (eqb (piece ps a).transaction (piece ps b).transaction) t)

  pub sibling-same : (a b : ℕ) → T (siblings ps a b) → (piece ps a).transaction ≡ (piece ps b).transaction
  sibling-same a b t = eqb→eq _ _ (and_right (not (eqb a b)) (eqb (piece ps a).transaction (piece ps b).transaction) t)

  sibling_make : (a b : ℕ) → a ≢ b → (piece ps a).transaction ≡ (piece ps b).transaction → T (siblings ps a b)
  sibling_make a b d e = and_both (not (eqb a b)) (eqb (piece ps a).transaction (piece ps b).transaction) (ne_make a b d) (eq_make _ _ e)

  pub sibling_turned : (a b : ℕ) → T (siblings ps a b) → T (siblings ps b a)
  sibling_turned a b t = sibling_make b a (λ e. sibling-other a b t (sym e)) (sym (sibling-same a b t))

  -- two siblings of one piece are siblings
  pub siblings_of_one : (a b c : ℕ) → T (siblings ps b a) → T (siblings ps b c) → a ≢ c → T (siblings ps a c)
  siblings_of_one a b c s t d = sibling_make a c d (sym (sibling-same b a s) ∙ sibling-same b c t)

  pub conflict-other : (a b : ℕ) → T (conflict ps a b) → (piece ps a).transaction ≢ (piece ps b).transaction
  conflict-other a b t =
      ne_use (piece ps a).transaction (piece ps b).transaction
      (and_left (not (eqb (piece ps a).transaction (piece ps b).transaction)) (clash (piece ps a) (piece ps b)) t)

  -- no two pieces are joined in both ways
  pub not_both : (a b : ℕ) → T (siblings ps a b) → T (conflict ps a b) → ⊥
  not_both a b s t = conflict-other a b t (sibling-same a b s)

  -- ---- the words of pieces
  pub in_siblings : (b a : ℕ) → a < length ps → T (siblings ps b a) → T (bit (siblings_of ps b) a)
  unfolding siblings_of
  in_siblings b a l t = those_in (length ps) (siblings ps b) a l t

  pub siblings_in : (b a : ℕ) → T (bit (siblings_of ps b) a) → (a < length ps) × T (siblings ps b a)
  unfolding siblings_of
  siblings_in b a t = (those_below (length ps) (siblings ps b) a t, those_pass (length ps) (siblings ps b) a t)

  pub siblings-small : (b : ℕ) → siblings_of ps b < 2 ^ length ps
  unfolding siblings_of
  siblings-small b = those-small (length ps) (siblings ps b)

  pub in_conflicts : (b a : ℕ) → a < length ps → T (conflict ps b a) → T (bit (conflicts_of ps b) a)
  unfolding conflicts_of
  in_conflicts b a l t = those_in (length ps) (conflict ps b) a l t

  pub conflicts_in : (b a : ℕ) → T (bit (conflicts_of ps b) a) → (a < length ps) × T (conflict ps b a)
  unfolding conflicts_of
  conflicts_in b a t = (those_below (length ps) (conflict ps b) a t, those_pass (length ps) (conflict ps b) a t)

  link_word : ℕ → ℕ
  link_word a = bit_or (siblings_of ps a) (conflicts_of ps a)

  pub links-length : length (links_of ps) ≡ length ps
  unfolding links_of
  links-length = length_tabulate (length ps) 0 _

  links_at : (a : ℕ) → a < length ps → get_or (links_of ps) a 0 ≡ link_word a
  unfolding links_of link_word
  links_at a l = get_d_tabulate (length ps) 0 link_word 0 a l ∙ ap link_word (zero-add a)

  pub joins-linked : (a b : ℕ) → a < length ps → b < length ps → T (joins ps a b) → T (linked (links_of ps) a b)
  unfolding linked link_word
  joins-linked a b l m t =
      rw (links_at a l, or_at (siblings_of ps a) (conflicts_of ps a) b) (go (or_cases (siblings ps a b) (conflict ps a b) t))
    where
      go : T (siblings ps a b) ⊎ T (conflict ps a b) → T (bit (siblings_of ps a) b || bit (conflicts_of ps a) b)
      go (inl s) = or_left (bit (siblings_of ps a) b) (bit (conflicts_of ps a) b) (in_siblings a b m s)
      go (inr s) = or_right (bit (siblings_of ps a) b) (bit (conflicts_of ps a) b) (in_conflicts a b m s)

  pub linked-joins : (a b : ℕ) → T (linked (links_of ps) a b) → T (joins ps a b)
  unfolding linked link_word
  linked-joins a b t = known (ltb a (length ps)) refl
    where
      go : T (bit (siblings_of ps a) b) ⊎ T (bit (conflicts_of ps a) b) → T (joins ps a b)
      go (inl s) = or_left (siblings ps a b) (conflict ps a b) (siblings_in a b s).1
      go (inr s) = or_right (siblings ps a b) (conflict ps a b) (conflicts_in a b s).1

      known : (c : Bool) → ltb a (length ps) ≡ c → T (joins ps a b)
      known true e =
          let u : T (bit (bit_or (siblings_of ps a) (conflicts_of ps a)) b) = subst (λ (m : ℕ). T (bit m b)) (links_at a (ltb-true a (length ps) e)) t in
          go (or_cases (bit (siblings_of ps a) b) (bit (conflicts_of ps a) b) (subst T (or_at (siblings_of ps a) (conflicts_of ps a) b) u))
      known false e =
          let l = ltb-false a (length ps) e in
          let z : get_or (links_of ps) a 0 ≡ 0 = get_or-eq_default (links_of ps) 0 {n = a} (let q = links-length in omega arith) in
          absurd (no_bit b (subst (λ (m : ℕ). T (bit m b)) z t))

  -- ---- all but one
  pub others_in : (b a : ℕ) → T (bit (others (length ps) b) a) → a ≢ b
  unfolding others
  others_in b a t = ne_use a b (those_pass (length ps) (λ i. not (eqb i b)) a t)

  pub in_others : (b a : ℕ) → a < length ps → a ≢ b → T (bit (others (length ps) b) a)
  unfolding others
  in_others b a l d = those_in (length ps) (λ i. not (eqb i b)) a l (ne_make a b d)

  pub others-room : (b goal : ℕ) → goal < length ps → goal ≢ b → Room (links_of ps) (others (length ps) b) goal
  unfolding others
  others-room b goal l d =
      record {
        small = subst (λ (n : ℕ). others (length ps) b < 2 ^ n) (sym links-length) (those-small (length ps) (λ i. not (eqb i b)));
        inside = in_others b goal l d;
      }
