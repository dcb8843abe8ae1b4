-- The links of operations when one program is in blocks and the others are whole, and who is reached along them.
use Prim.Native.Nat.{ℕ, suc, ◌^◌, ◌<◌}
use mathlib.Core.Path.{◌≡◌, refl, sym, ap, ◌∙◌, subst}
use mathlib.Core.Logic.{◌≢◌, ◌⊎◌, inl, inr}
use mathlib.Core.Bool.{Bool, true, ◌&&◌, ◌||◌, not}
use mathlib.Core.List.{List}
use native.Mathlib.Nat.{zero-add}
use lib.ListN.{length, get_or}
use lib.Dec.{T, eqb, eqb→eq}
use Rattle.rules.specs.Words.{bit}
use Rattle.rules.proofs.Tests.{and_both, and_left, and_right, or_cases, or_left, or_right, ne_make, ne_use, eq_make, true_is}
use Rattle.rules.proofs.Circles.{get_d_tabulate, length_tabulate}
use Rattle.graph.specs.Sets.{those}
use Rattle.graph.specs.Ways.{linked, Way, here, link}
use Rattle.graph.specs.Near.{joined}
use Rattle.graph.proofs.Sets.{those_in, those_below, those_pass, those-small}
use Rattle.graph.proofs.Ways.{Room}
use Rattle.graph.proofs.Settling.{way-joined, joined-way}
use Rattle.finest.specs.Operations.{Operation, program_of, same_program, one_block, conflicting}
use Rattle.finest.specs.Finest.{linked_for, links_for, all}

-- operations in conflict are of different programs
pub conflict-apart : (os : List Operation) (i j : ℕ) → T (conflicting os i j) → program_of os i ≢ program_of os j
unfolding conflicting
conflict-apart os i j t = ne_use (program_of os i) (program_of os j) (and_left (not (same_program os i j)) _ t)

module _ (os : List Operation) (t : ℕ) where
  -- ---- what a link is
  pub data Linked (i j : ℕ) : Type 0 where
    by_conflict : T (conflicting os i j) → Linked i j
    by_whole : program_of os i ≡ program_of os j → program_of os i ≢ t → Linked i j
    by_block : program_of os i ≡ program_of os j → T (one_block os i j) → Linked i j

  pub linked_is : (i j : ℕ) → T (linked_for os t i j) → Linked i j
  unfolding linked_for
  linked_is i j s = go (or_cases (conflicting os i j) _ s)
    where
      fine : program_of os i ≡ program_of os j → T (not (eqb (program_of os i) t)) ⊎ T (one_block os i j) → Linked i j
      fine e (inl u) = by_whole e (ne_use (program_of os i) t u)
      fine e (inr u) = by_block e u

      go : T (conflicting os i j) ⊎ T (same_program os i j && (not (eqb (program_of os i) t) || one_block os i j)) → Linked i j
      go (inl u) = by_conflict u
      go (inr u) =
          fine (eqb→eq _ _ (and_left (same_program os i j) _ u))
          (or_cases (not (eqb (program_of os i) t)) (one_block os i j) (and_right (same_program os i j) _ u))

  pub linked-conflict : (i j : ℕ) → T (conflicting os i j) → T (linked_for os t i j)
  unfolding linked_for
  linked-conflict i j u = or_left (conflicting os i j) _ u

  pub linked-whole : (i j : ℕ) → program_of os i ≡ program_of os j → program_of os i ≢ t → T (linked_for os t i j)
  unfolding linked_for
  linked-whole i j e d =
      or_right (conflicting os i j) _
      (and_both (same_program os i j) _ (eq_make _ _ e) (or_left (not (eqb (program_of os i) t)) (one_block os i j) (ne_make _ _ d)))

  pub linked-block : (i j : ℕ) → program_of os i ≡ program_of os j → T (one_block os i j) → T (linked_for os t i j)
  unfolding linked_for
  linked-block i j e u =
      or_right (conflicting os i j) _
      (and_both (same_program os i j) _ (eq_make _ _ e) (or_right (not (eqb (program_of os i) t)) (one_block os i j) u))

  -- ---- the words of links
  link_word : ℕ → ℕ
  link_word i = those (length os) (linked_for os t i)

  pub links-length : length (links_for os t) ≡ length os
  unfolding links_for
  links-length = length_tabulate (length os) 0 _

  links_at : (i : ℕ) → i < length os → get_or (links_for os t) i 0 ≡ link_word i
  unfolding links_for link_word
  links_at i l = get_d_tabulate (length os) 0 link_word 0 i l ∙ ap link_word (zero-add i)

  in_links : (i j : ℕ) → i < length os → j < length os → T (linked_for os t i j) → T (linked (links_for os t) i j)
  unfolding linked link_word
  in_links i j l m s = rw (links_at i l) (those_in (length os) (linked_for os t i) j m s)

  pub links_in : (i j : ℕ) → i < length os → T (linked (links_for os t) i j) → T (linked_for os t i j)
  unfolding linked link_word
  links_in i j l s = those_pass (length os) (linked_for os t i) j (rw (links_at i l) at s)

  in_all : (i : ℕ) → i < length os → T (bit (all (length os)) i)
  unfolding all
  in_all i l = those_in (length os) (λ i. true) i l (true_is refl)

  pub all_in : (i : ℕ) → T (bit (all (length os)) i) → i < length os
  unfolding all
  all_in i s = those_below (length os) (λ i. true) i s

  pub all_room : (i : ℕ) → i < length os → Room (links_for os t) (all (length os)) i
  unfolding all
  all_room i l =
      record {
        small = subst (λ (n : ℕ). all (length os) < 2 ^ n) (sym links-length) (those-small (length os) (λ i. true));
        inside = in_all i l;
      }

  -- ---- who is reached
  abbrev pub reached : ℕ → ℕ → Bool
  reached i z = bit (joined (links_for os t) (all (length os)) i) z

  pub reached_self : (i : ℕ) → i < length os → T (reached i i)
  reached_self i l = way-joined (links_for os t) (all (length os)) i (all_room i l) 0 i (here (in_all i l))

  pub reached_on : (i y z : ℕ) → i < length os → y < length os → z < length os → T (linked_for os t y z) → T (reached i z) → T (reached i y)
  reached_on i y z l m n s r =
      let v = joined-way (links_for os t) (all (length os)) i (all_room i l) z r in
      way-joined (links_for os t) (all (length os)) i (all_room i l) (suc v.0) y (link (in_all y m) (in_links y z m n s) v.1)

  pub reached-way : (i z : ℕ) → i < length os → T (reached i z) → (k : ℕ) × Way (links_for os t) (all (length os)) k z i
  reached-way i z l r = joined-way (links_for os t) (all (length os)) i (all_room i l) z r
