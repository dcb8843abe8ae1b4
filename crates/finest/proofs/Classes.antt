-- The pieces of the finest cut are the classes of blocks that chains of conflicts through other programs join.
use Prim.Native.Nat.{ℕ, ◌<◌}
use mathlib.Core.Path.{◌≡◌, refl, sym, ◌∙◌, subst}
use mathlib.Core.Logic.{◌≢◌, ◌⊎◌, inl, inr}
use mathlib.Core.Bool.{Bool, ◌&&◌, ◌||◌}
use mathlib.Core.List.{List}
use lib.ListN.{length}
use lib.Dec.{T, eqb, eqb→eq}
use Rattle.rules.proofs.Tests.{and_both, and_left, and_right, or_cases, or_left, or_right, eq_make, same?}
use Rattle.graph.specs.Ways.{Way, here, link}
use Rattle.finest.specs.Operations.{Operation, program_of, same_program, may_undo, one_block, conflicting}
use Rattle.finest.specs.Finest.{links_for, all}
use Rattle.finest.specs.Chains.{Chain, within, on, Joined, Class, block, next}
use Rattle.finest.proofs.Linking.{Linked, by_conflict, by_whole, by_block, conflict-apart, linked_is, linked-conflict, linked-whole, linked-block, links_in, all_in, reached, reached_self, reached_on}
use Rattle.finest.proofs.Reached.{conflict_turned, block_turned, block-program}

-- ---- one block
block_self : (os : List Operation) (i : ℕ) → T (one_block os i i)
unfolding one_block
block_self os i = or_left (eqb i i) _ (eq_make i i refl)

block_on : (os : List Operation) (i j k : ℕ) → T (one_block os i j) → T (one_block os j k) → T (one_block os i k)
unfolding one_block
block_on os i j k s t = go (or_cases (eqb i j) (both i j) s) (or_cases (eqb j k) (both j k) t)
  where
    both : ℕ → ℕ → Bool
    both a b = same_program os a b && (may_undo os a && may_undo os b)

    go :
        T (eqb i j) ⊎ T (same_program os i j && (may_undo os i && may_undo os j)) → T (eqb j k) ⊎ T (same_program os j k && (may_undo os j && may_undo os k))
        → T (eqb i k || (same_program os i k && (may_undo os i && may_undo os k)))
    go (inl e) u = subst (λ (x : ℕ). T (one_block os x k)) (sym (eqb→eq i j e)) t
    go (inr u) (inl e) = subst (λ (x : ℕ). T (one_block os i x)) (eqb→eq j k e) s
    go (inr u) (inr v) =
        let p : program_of os i ≡ program_of os j = eqb→eq (program_of os i) (program_of os j) (and_left (same_program os i j) (may_undo os i && may_undo os j) u) in
        let q : program_of os j ≡ program_of os k = eqb→eq (program_of os j) (program_of os k) (and_left (same_program os j k) (may_undo os j && may_undo os k) v) in
        let a = and_left (may_undo os i) (may_undo os j) (and_right (same_program os i j) (may_undo os i && may_undo os j) u) in
        let b = and_right (may_undo os j) (may_undo os k) (and_right (same_program os j k) (may_undo os j && may_undo os k) v) in
        or_right (eqb i k) (same_program os i k && (may_undo os i && may_undo os k))
        (and_both (same_program os i k) (may_undo os i && may_undo os k) (eq_make (program_of os i) (program_of os k) (p ∙ q)) (and_both (may_undo os i) (may_undo os k) a b))

module _ (os : List Operation) (t : ℕ) where
  -- ---- chains
  chain-start : {a b : ℕ} → Chain os t a b → a < length os
  chain-start (within l m d e) = l
  chain-start (on C m d u l e) = chain-start C

  chain_end : {a b : ℕ} → Chain os t a b → b < length os
  chain_end (within l m d e) = m
  chain_end (on C m d u l e) = m

  -- a chain ends at any operation of its last program
  chain-within : {a b : ℕ} (c : ℕ) → Chain os t a b → c < length os → program_of os b ≡ program_of os c → Chain os t a c
  chain-within c (within l m d e) n f = within l n d (e ∙ f)
  chain-within c (on C m d u l e) n f = on C n (λ q. d (f ∙ q)) u l (e ∙ f)

  -- ---- what a class holds is reached
  module _ (i : ℕ) (known : i < length os) where
    chain-reached : {a b : ℕ} → Chain os t a b → T (reached os t i a) → T (reached os t i b)
    chain-reached (within {a} {b} l m d e) r = reached_on os t i b a known m l (linked-whole os t b a (sym e) (λ q. d (e ∙ q))) r
    chain-reached (on {a} {b} {c} {d} C m n u l e) r =
        let s = reached_on os t i c b known l (chain_end C) (linked-conflict os t c b (conflict_turned os b c u)) (chain-reached C r) in
        reached_on os t i d c known m l (linked-whole os t d c (sym e) n) s

    block-reached : (j k : ℕ) → j < length os → k < length os → T (one_block os j k) → T (reached os t i j) → T (reached os t i k)
    block-reached j k l m u r = reached_on os t i k j known m l (linked-block os t k j (sym (block-program os j k u)) (block_turned os j k u)) r

    joined-reached : (j k : ℕ) → j < length os → Joined os t j k → T (reached os t i j) → T (reached os t i k)
    joined-reached j k l J r =
        let a = block-reached j J.leaves l J.known.0 J.from_block r in
        let b = reached_on os t i J.first J.leaves known (chain-start J.chain) J.known.0 (linked-conflict os t J.first J.leaves (conflict_turned os J.leaves J.first J.out)) a in
        let c = chain-reached J.chain b in
        let d = reached_on os t i J.enters J.last known J.known.1 (chain_end J.chain) (linked-conflict os t J.enters J.last (conflict_turned os J.last J.enters J.back)) c in
        block-reached J.enters k J.known.1 J.known.2 J.to_block d

    pub class_end : {j : ℕ} → Class os t i j → j < length os
    class_end (block l e u) = l
    class_end (next C J) = J.known.2

    pub class_reached : {j : ℕ} → Class os t i j → T (reached os t i j)
    class_reached (block {j} l e u) = block-reached i _ known l u (reached_self os t i known)
    class_reached (next C J) = joined-reached _ _ (class_end C) J (class_reached C)

    pub class_program : {j : ℕ} → Class os t i j → program_of os j ≡ t
    class_program (block l e u) = sym (block-program os i _ u) ∙ e
    class_program (next C J) = J.of_program.1

    -- ---- what is reached, in the program, is in the class
    class_on : {j : ℕ} (k : ℕ) → Class os t i j → k < length os → T (one_block os j k) → Class os t i k
    class_on k (block {j = j} l e u) m s = block m e (block_on os i j k u s)
    class_on k (next {k = j} C J) m s =
        next C
        (record {
          leaves = J.leaves;
          first = J.first;
          last = J.last;
          enters = J.enters;
          known = (J.known.0, J.known.1, m);
          of_program = (J.of_program.0, sym (block-program os j k s) ∙ J.of_program.1);
          from_block = J.from_block;
          out = J.out;
          chain = J.chain;
          back = J.back;
          to_block = block_on os J.enters j k J.to_block s;
        })

    -- a chain that left the class and has come to z
    record Going (z : ℕ) : Type 0 where
      pub leaves : ℕ
      pub first : ℕ
      pub class : Class os t i leaves
      pub out : T (conflicting os leaves first)
      pub chain : Chain os t first z

    data Met (z : ℕ) : Type 0 where
      inside : Class os t i z → Met z
      outside : program_of os z ≢ t → Going z → Met z

    entered : (y z : ℕ) → y < length os → program_of os y ≡ t → T (conflicting os z y) → Going z → Class os t i y
    entered y z l e u G =
        next G.class
        (record {
          leaves = G.leaves;
          first = G.first;
          last = z;
          enters = y;
          known = (class_end G.class, l, l);
          of_program = (class_program G.class, e);
          from_block = block_self os G.leaves;
          out = G.out;
          chain = G.chain;
          back = u;
          to_block = block_self os y;
        })

    stepped : (y z : ℕ) → y < length os → Linked os t y z → Met z → Met y
    stepped y z l (by_conflict u) (inside C) =
        let d : program_of os y ≢ t = λ e. conflict-apart os y z u (e ∙ sym (class_program C)) in
        outside d (record { leaves = z; first = y; class = C; out = conflict_turned os y z u; chain = within l l d refl })
    stepped y z l (by_whole e d) (inside C) = absurd (d (e ∙ class_program C))
    stepped y z l (by_block e u) (inside C) = inside (class_on y C l (block_turned os y z u))
    stepped y z l (by_conflict u) (outside d G) = go (same? (program_of os y) t)
      where
        go : (program_of os y ≡ t) ⊎ (program_of os y ≢ t) → Met y
        go (inl e) = inside (entered y z l e (conflict_turned os y z u) G)
        go (inr f) =
            outside f
            (record { leaves = G.leaves; first = G.first; class = G.class; out = G.out; chain = on G.chain l f (conflict_turned os y z u) l refl })
    stepped y z l (by_whole e f) (outside d G) =
        outside f (record { leaves = G.leaves; first = G.first; class = G.class; out = G.out; chain = chain-within y G.chain l (sym e) })
    stepped y z l (by_block e u) (outside d G) =
        outside (λ q. d (sym e ∙ q))
        (record { leaves = G.leaves; first = G.first; class = G.class; out = G.out; chain = chain-within y G.chain l (sym e) })

    walked : {k z : ℕ} → program_of os i ≡ t → Way (links_for os t) (all (length os)) k z i → Met z
    walked p (here r) = inside (block known p (block_self os i))
    walked p (link {k} {a = y} {b = z} r e v) = stepped y z (all_in os t y r) (linked_is os t y z (links_in os t y z (all_in os t y r) e)) (walked p v)

    pub way_class : {k z : ℕ} → program_of os i ≡ t → program_of os z ≡ t → Way (links_for os t) (all (length os)) k z i → Class os t i z
    way_class {k} {z} p q v = go (walked p v)
      where
        go : Met z → Class os t i z
        go (inside C) = C
        go (outside d G) = absurd (d q)
