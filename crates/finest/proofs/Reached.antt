-- Who is reached from whom: both ways, and onwards; the pieces of the finest cut are those that reach each other in one program.
use Prim.Native.Nat.{ℕ, ◌≤◌, ◌<◌}
use mathlib.Core.Path.{◌≡◌, refl, sym, ap, ◌∙◌, subst}
use mathlib.Core.Logic.{◌⊎◌, inl, inr}
use mathlib.Core.Bool.{◌&&◌, ◌||◌, not}
use mathlib.Core.List.{List}
use native.Mathlib.Omega.{arith}
use native.Mathlib.Nat.{zero-add}
use lib.ListN.{length, get_or}
use lib.Dec.{T, eqb, eqb→eq}
use Rattle.rules.specs.Words.{bit}
use Rattle.rules.proofs.Tests.{and_both, and_left, and_right, or_cases, or_left, or_right, eq_make, ne_make}
use Rattle.rules.proofs.Bits.{below_bits}
use Rattle.rules.proofs.Circles.{get_d_tabulate}
use Rattle.words.proofs.SlotWords.{and_at, no_bit}
use Rattle.graph.specs.Sets.{those, lowest}
use Rattle.graph.specs.Ways.{Way, here, link}
use Rattle.graph.specs.Near.{joined}
use Rattle.graph.proofs.Sets.{those_in, those_below, those_pass, lowest_in, lowest-least}
use Rattle.finest.specs.Operations.{Operation, operation, program_of, same_program, may_undo, one_block, conflicting, Fits}
use Rattle.finest.specs.Finest.{linked_for, links_for, all, piece_at, finest_cut}
use Rattle.finest.specs.Choppings.{together}
use Rattle.finest.proofs.Linking.{Linked, by_conflict, by_whole, by_block, conflict-apart, linked_is, linked-conflict, linked-whole, linked-block, links_in, all_in, reached, reached_self, reached_on, reached-way}
use Rattle.finest.proofs.Together.{together_label, together_make}

-- ---- links both ways
pub conflict_turned : (os : List Operation) (i j : ℕ) → T (conflicting os i j) → T (conflicting os j i)
unfolding conflicting
conflict_turned os i j t =
    let u = and_right (not (same_program os i j)) _ t in
    let e : (operation os i).item ≡ (operation os j).item = eqb→eq _ _ (and_left (eqb (operation os i).item (operation os j).item) _ u) in
    let w = and_right (eqb (operation os i).item (operation os j).item) _ u in
    and_both (not (same_program os j i)) _ (ne_make _ _ (λ q. conflict-apart os i j t (sym q)))
    (and_both (eqb (operation os j).item (operation os i).item) _ (eq_make _ _ (sym e)) (go (or_cases (operation os i).writes (operation os j).writes w)))
  where
    go : T (operation os i).writes ⊎ T (operation os j).writes → T ((operation os j).writes || (operation os i).writes)
    go (inl s) = or_right (operation os j).writes (operation os i).writes s
    go (inr s) = or_left (operation os j).writes (operation os i).writes s

pub block_turned : (os : List Operation) (i j : ℕ) → T (one_block os i j) → T (one_block os j i)
unfolding one_block
block_turned os i j t = go (or_cases (eqb i j) (same_program os i j && (may_undo os i && may_undo os j)) t)
  where
    go : T (eqb i j) ⊎ T (same_program os i j && (may_undo os i && may_undo os j)) → T (eqb j i || (same_program os j i && (may_undo os j && may_undo os i)))
    go (inl s) = or_left (eqb j i) (same_program os j i && (may_undo os j && may_undo os i)) (eq_make j i (sym (eqb→eq i j s)))
    go (inr s) =
        let e : program_of os i ≡ program_of os j = eqb→eq (program_of os i) (program_of os j) (and_left (same_program os i j) (may_undo os i && may_undo os j) s) in
        let u = and_right (same_program os i j) (may_undo os i && may_undo os j) s in
        or_right (eqb j i) (same_program os j i && (may_undo os j && may_undo os i))
        (and_both (same_program os j i) (may_undo os j && may_undo os i) (eq_make (program_of os j) (program_of os i) (sym e)) (and_both (may_undo os j) (may_undo os i) (and_right (may_undo os i) (may_undo os j) u) (and_left (may_undo os i) (may_undo os j) u)))

pub block-program : (os : List Operation) (i j : ℕ) → T (one_block os i j) → program_of os i ≡ program_of os j
unfolding one_block
block-program os i j t = go (or_cases (eqb i j) (same_program os i j && (may_undo os i && may_undo os j)) t)
  where
    go : T (eqb i j) ⊎ T (same_program os i j && (may_undo os i && may_undo os j)) → program_of os i ≡ program_of os j
    go (inl s) = ap (λ (k : ℕ). program_of os k) (eqb→eq i j s)
    go (inr s) = eqb→eq (program_of os i) (program_of os j) (and_left (same_program os i j) (may_undo os i && may_undo os j) s)

module _ (os : List Operation) (t : ℕ) where
  linked_turned : (i j : ℕ) → T (linked_for os t i j) → T (linked_for os t j i)
  linked_turned i j s = go (linked_is os t i j s)
    where
      go : Linked os t i j → T (linked_for os t j i)
      go (by_conflict u) = linked-conflict os t j i (conflict_turned os i j u)
      go (by_whole e d) = linked-whole os t j i (sym e) (λ q. d (e ∙ q))
      go (by_block e u) = linked-block os t j i (sym e) (block_turned os i j u)

  way-start : {k a b : ℕ} → Way (links_for os t) (all (length os)) k a b → a < length os
  way-start (here r) = all_in os t _ r
  way-start (link r e v) = all_in os t _ r

  -- what a way starts from is reached from wherever its end is
  carried : {k a b : ℕ} (i : ℕ) → i < length os → Way (links_for os t) (all (length os)) k a b → T (reached os t i b) → T (reached os t i a)
  carried i l (here r) s = s
  carried i l (link {k} {a} {b} r e v) s =
      reached_on os t i a b l (all_in os t a r) (way-start v) (links_in os t a b (all_in os t a r) e) (carried i l v s)

  returned : {k a b : ℕ} → Way (links_for os t) (all (length os)) k a b → T (reached os t a b)
  returned (here r) = reached_self os t _ (all_in os t _ r)
  returned (link {k} {a} {b} {c} r e v) =
      let l = all_in os t a r in
      let m = way-start v in
      let s = reached_on os t a b a l m l (linked_turned a b (links_in os t a b l e)) (reached_self os t a l) in
      carried a l (reached-way os t b c m (returned v)).1 s

  pub reached_below : (i j : ℕ) → i < length os → T (reached os t i j) → j < length os
  reached_below i j l s = way-start (reached-way os t i j l s).1

  pub reached_turned : (i j : ℕ) → i < length os → T (reached os t i j) → T (reached os t j i)
  reached_turned i j l s = returned (reached-way os t i j l s).1

  pub reached-over : (i j k : ℕ) → i < length os → j < length os → T (reached os t i j) → T (reached os t j k) → T (reached os t i k)
  reached-over i j k l m s u = carried i l (reached-way os t j k m u).1 s

-- ---- the pieces of the finest cut
module _ (os : List Operation) (F : Fits os) where
  name : ℕ → ℕ
  name i = lowest (piece_at os i)

  pub cut_at : (i : ℕ) → i < length os → get_or (finest_cut os) i 0 ≡ lowest (piece_at os i)
  unfolding finest_cut name
  cut_at i l = get_d_tabulate (length os) 0 name 0 i l ∙ ap name (zero-add i)

  -- one of the piece of i
  pub record Of (i j : ℕ) : Type 0 where
    pub known : j < length os
    pub program : program_of os i ≡ program_of os j
    pub reach : T (reached os (program_of os i) i j)

  of_piece : (i j : ℕ) → T (bit (piece_at os i) j) → Of i j
  unfolding piece_at
  of_piece i j t =
      let u = subst T (and_at (those (length os) (same_program os i)) (joined (links_for os (program_of os i)) (all (length os)) i) j) t in
      let p = and_left (bit (those (length os) (same_program os i)) j) _ u in
      record {
        known = those_below (length os) (same_program os i) j p;
        program = eqb→eq _ _ (those_pass (length os) (same_program os i) j p);
        reach = and_right (bit (those (length os) (same_program os i)) j) _ u;
      }

  piece_of : (i j : ℕ) → Of i j → T (bit (piece_at os i) j)
  unfolding piece_at
  piece_of i j O =
      subst T (sym (and_at (those (length os) (same_program os i)) (joined (links_for os (program_of os i)) (all (length os)) i) j))
      (and_both (bit (those (length os) (same_program os i)) j) _ (those_in (length os) (same_program os i) j O.known (eq_make _ _ O.program)) O.reach)

  of_self : (i : ℕ) → i < length os → Of i i
  of_self i l = record { known = l; program = refl; reach = reached_self os (program_of os i) i l }

  of_turned : (i j : ℕ) → i < length os → Of i j → Of j i
  of_turned i j l O =
      record {
        known = l;
        program = sym O.program;
        reach = subst (λ (t : ℕ). T (reached os t j i)) O.program (reached_turned os (program_of os i) i j l O.reach);
      }

  of_over : (i j k : ℕ) → i < length os → j < length os → Of i j → Of j k → Of i k
  of_over i j k l m O P =
      record {
        known = P.known;
        program = O.program ∙ P.program;
        reach = reached-over os (program_of os i) i j k l m O.reach (subst (λ (t : ℕ). T (reached os t j k)) (sym O.program) P.reach);
      }

  -- the name of a piece is one of it
  pub name_of : (i : ℕ) → i < length os → Of i (lowest (piece_at os i))
  name_of i l =
      let few = F.few in
      let t = piece_of i i (of_self i l) in
      of_piece i (lowest (piece_at os i))
      (lowest_in (piece_at os i) (below_bits 64 (piece_at os i) (λ b s. let m = (of_piece i b s).known in omega arith))
      (λ z. no_bit i (subst (λ (x : ℕ). T (bit x i)) z t)))

  name-least : (i j : ℕ) → i < length os → Of i j → lowest (piece_at os i) ≤ j
  name-least i j l O = let few = F.few in let m = O.known in lowest-least (piece_at os i) j (omega arith) (piece_of i j O)

  pub of_together : (i j : ℕ) → i < length os → Of i j → T (together os (finest_cut os) i j)
  of_together i j l O =
      let m = O.known in
      let P = of_turned i j l O in
      let a = name-least i (lowest (piece_at os j)) l (of_over i j (lowest (piece_at os j)) l m O (name_of j m)) in
      let b = name-least j (lowest (piece_at os i)) m (of_over j i (lowest (piece_at os i)) m l P (name_of i l)) in
      let e : lowest (piece_at os i) ≡ lowest (piece_at os j) = omega arith in
      together_make os (finest_cut os) i j O.program (cut_at i l ∙ e ∙ sym (cut_at j m))

  pub together_of : (i j : ℕ) → i < length os → j < length os → T (together os (finest_cut os) i j) → Of i j
  together_of i j l m t =
      let e : lowest (piece_at os i) ≡ lowest (piece_at os j) = sym (cut_at i l) ∙ together_label os (finest_cut os) i j t ∙ cut_at j m in
      let O : Of i (lowest (piece_at os j)) = subst (Of i) e (name_of i l) in
      let k = O.known in
      of_over i (lowest (piece_at os j)) j l k O (of_turned j (lowest (piece_at os j)) m (name_of j m))
