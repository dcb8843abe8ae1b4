-- The tests that code makes on rows, and the first operation of a piece by the piece's set.
use Prim.Native.Nat.{ℕ, ◌+◌, ◌*◌, ◌/◌, ◌^◌, ◌<◌, ◌≤◌}
use mathlib.Core.Path.{◌≡◌, refl, sym, ap, ap₂, subst, ◌∙◌}
use mathlib.Core.Bool.{Bool, true, false, ◌&&◌, ◌||◌, not, cond}
use mathlib.Core.List.{List}
use mathlib.Core.Logic.{inr}
use native.Mathlib.Omega.{arith}
use lib.ListN.{length, get_or}
use lib.Dec.{T, eqb}
use lib.Pow.{pow_mono}
use borrow.Author.Tests.{eq-eqb}
use Rattle.rules.specs.Words.{bit, first_from}
use Rattle.rules.proofs.Tests.{true_is}
use Rattle.words.proofs.SlotWords.{no_bit}
use Rattle.graph.specs.Sets.{those, lowest}
use Rattle.graph.proofs.Sets.{those_in, those_pass, those-small, first_is_lem, lowest_in, lowest-least}
use Rattle.finest.specs.Operations.{Operation, most, operation, program_of}
use Rattle.finest.specs.Choppings.{together, leads}
use Rattle.finest.specs.Rows.{operations_in}
use Rattle.finest.proofs.InRows.{length-operations, operation_at_lem, same_test}

-- ---- on rows

pub together_test : (words cut : List ℕ) (i j : ℕ) → i < length words / 4 → j < length words / 4 → (eqb (get_or words (i * 4) 0) (get_or words (j * 4) 0) && eqb (get_or cut i 0) (get_or cut j 0)) ≡ together (operations_in words) cut i j
unfolding together
together_test words cut i j a b = ap (λ (t : Bool). t && eqb (get_or cut i 0) (get_or cut j 0)) (same_test words i j a b)

either : (writing writes : Bool) → ((writing && writes) || (not writing && not writes)) ≡ cond writing writes (not writes)
either true true = refl
either true false = refl
either false true = refl
either false false = refl

pub touch_test : (words : List ℕ) (j : ℕ) → j < length words / 4 → {same one : Bool} (writing : Bool) (x : ℕ) → same ≡ one
    → (same && (eqb (get_or words (j * 4 + 1) 0) x && ((writing && eqb (get_or words (j * 4 + 2) 0) 1) || (not writing && not (eqb (get_or words (j * 4 + 2) 0) 1)))))
    ≡ (one && (eqb (operation (operations_in words) j).item x && cond writing (operation (operations_in words) j).writes (not (operation (operations_in words) j).writes)))
touch_test words j b {same} {one} writing x e =
    ap₂ (λ (t u : Bool). t && (eqb (get_or words (j * 4 + 1) 0) x && u)) e (either writing (eqb (get_or words (j * 4 + 2) 0) 1))
    ∙ ap (λ (o : Operation). one && (eqb o.item x && cond writing o.writes (not o.writes))) (sym (operation_at_lem words j b))

-- ---- the first of a piece

lowest-first : (n : ℕ) (p : ℕ → Bool) (i : ℕ) → n ≤ 64 → i < n → T (p i) → lowest (those n p) ≡ first_from p 0 n
lowest-first n p i h l t =
    let m = those n p in
    let here : T (bit m i) = those_in n p i l t in
    let low : lowest m ≤ i = lowest-least m i (omega arith) here in
    let small : m < 2 ^ 64 = (let a = those-small n p in let b = pow_mono {i = n} {j = 64} h in omega arith) in
    let some : T (bit m (lowest m)) = lowest_in m small (λ z. no_bit i (subst (λ (w : ℕ). T (bit w i)) z here)) in
    first_is_lem p n (lowest m) (omega arith)
    (λ j k u. let b = lowest-least m j (omega arith) (those_in n p j (omega arith) u) in omega arith)
    (inr (those_pass n p (lowest m) some))

own : (os : List Operation) (c : List ℕ) (i : ℕ) → T (together os c i i)
unfolding together
own os c i = true_is (ap₂ ◌&&◌ (eq-eqb (program_of os i) (program_of os i) refl) (eq-eqb (get_or c i 0) (get_or c i 0) refl))

pub lead_test : (words cut : List ℕ) (i : ℕ) → i < length words / 4 → length words / 4 ≤ most → {set : ℕ} → set ≡ those (length words / 4) (together (operations_in words) cut i) → eqb (lowest set) i ≡ leads (operations_in words) cut i
unfolding leads
lead_test words cut i l m e =
    let os = operations_in words in
    ap (λ (s : ℕ). eqb (lowest s) i) e
    ∙ ap (λ (f : ℕ). eqb f i) (lowest-first (length words / 4) (together os cut i) i (omega arith) l (own os cut i) ∙ ap (first_from (together os cut i) 0) (sym (length-operations words)))

-- for a test of as many as there are rows
pub ruleset touching = (length-operations, touch_test)
