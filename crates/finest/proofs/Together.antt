-- The pieces of any chopping: who is together with whom, and the first operation of each piece.
use Prim.Native.Nat.{ℕ, ◌≤◌, ◌<◌}
use mathlib.Core.Path.{◌≡◌, refl, sym, ◌∙◌, subst}
use mathlib.Core.List.{List}
use native.Mathlib.Omega.{arith}
use lib.ListN.{length, get_or}
use lib.Dec.{T, eqb→eq}
use Rattle.rules.specs.Words.{first_from}
use Rattle.rules.proofs.Tests.{and_both, and_left, and_right, eq_make}
use Rattle.rules.proofs.Counts.{first_passes, first-least}
use Rattle.finest.specs.Operations.{Operation, program_of, same_program}
use Rattle.finest.specs.Choppings.{together, leads, leaders}
use Rattle.finest.proofs.Passing.{passing_at, passing_has, passing-once, passing-few}

module _ (os : List Operation) (c : List ℕ) where
  -- ---- together
  pub together-program : (i j : ℕ) → T (together os c i j) → program_of os i ≡ program_of os j
  unfolding together
  together-program i j t = eqb→eq _ _ (and_left (same_program os i j) _ t)

  pub together_label : (i j : ℕ) → T (together os c i j) → get_or c i 0 ≡ get_or c j 0
  unfolding together
  together_label i j t = eqb→eq _ _ (and_right (same_program os i j) _ t)

  pub together_make : (i j : ℕ) → program_of os i ≡ program_of os j → get_or c i 0 ≡ get_or c j 0 → T (together os c i j)
  unfolding together
  together_make i j e f = and_both (same_program os i j) _ (eq_make _ _ e) (eq_make _ _ f)

  pub together_self : (i : ℕ) → T (together os c i i)
  together_self i = together_make i i refl refl

  pub together_turned : (i j : ℕ) → T (together os c i j) → T (together os c j i)
  together_turned i j t = together_make j i (sym (together-program i j t)) (sym (together_label i j t))

  pub together_on : (i j k : ℕ) → T (together os c i j) → T (together os c j k) → T (together os c i k)
  together_on i j k s t =
      together_make i k (together-program i j s ∙ together-program j k t) (together_label i j s ∙ together_label j k t)

  -- ---- the first of a piece
  first : ℕ → ℕ
  first i = first_from (together os c i) 0 (length os)

  first-before : (i j : ℕ) → j < length os → T (together os c i j) → first i ≤ j
  unfolding first
  first-before i j l t = first-least (together os c i) j 0 (length os) (omega arith) (omega arith) t

  first_with : (i j : ℕ) → j < length os → T (together os c i j) → T (together os c i (first i))
  unfolding first
  first_with i j l t = let h = first-before i j l t in first_passes (together os c i) 0 (length os) (omega arith)

  first-leads : (i : ℕ) → i < length os → T (leads os c (first i))
  unfolding leads first
  first-leads i l =
      let f = first i in
      let h = first-before i i l (together_self i) in
      let s = first_with i i l (together_self i) in
      let a = first-before f f (omega arith) (together_self f) in
      let u = first_with f f (omega arith) (together_self f) in
      let b = first-before i (first f) (omega arith) (together_on i f (first f) s u) in
      eq_make (first f) f (omega arith)

  -- two that lead and are together are one
  leads_one : (i j : ℕ) → i < length os → j < length os → T (leads os c i) → T (leads os c j) → T (together os c i j) → i ≡ j
  unfolding leads first
  leads_one i j l m s t u =
      let a = first-before i j m u in
      let b = first-before j i l (together_turned i j u) in
      let e : first i ≡ i = eqb→eq _ _ s in
      let f : first j ≡ j = eqb→eq _ _ t in
      omega arith

  -- ---- the leaders, by their places
  abbrev pub head : ℕ → ℕ
  head k = get_or (leaders os c) k 0

  pub head_known : (k : ℕ) → k < length (leaders os c) → head k < length os
  unfolding leaders
  head_known k l = let r = passing_at (leads os c) 0 (length os) k l in let h = r.2 in omega arith

  head_leads : (k : ℕ) → k < length (leaders os c) → T (leads os c (head k))
  unfolding leaders
  head_leads k l = (passing_at (leads os c) 0 (length os) k l).0

  pub leaders-few : length (leaders os c) ≤ length os
  unfolding leaders
  leaders-few = passing-few (leads os c) 0 (length os)

  -- no two places have leaders that are together
  pub heads_apart : (j k : ℕ) → j < length (leaders os c) → k < length (leaders os c) → T (together os c (head j) (head k)) → j ≡ k
  unfolding leaders
  heads_apart j k l m t =
      passing-once (leads os c) 0 (length os) j k l m
      (leads_one (head j) (head k) (head_known j l) (head_known k m) (head_leads j l) (head_leads k m) t)

  -- each operation has its leader
  pub home : (i : ℕ) → i < length os → (k : ℕ) × (k < length (leaders os c)) × T (together os c (head k) i)
  unfolding leaders first
  home i l =
      let h = first-before i i l (together_self i) in
      let r = passing_has (leads os c) 0 (length os) (first i) (omega arith) (omega arith) (first-leads i l) in
      let s = together_turned i (first i) (first_with i i l (together_self i)) in
      (r.0, r.1, subst (λ (x : ℕ). T (together os c x i)) (sym r.2) s)
