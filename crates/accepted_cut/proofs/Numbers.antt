-- Names numbered by the place of the first that is the same: two have one number exactly if they are the same.
use Prim.Native.Nat.{ℕ, zero, suc, ◌<◌}
use mathlib.Core.Path.{◌≡◌, refl, sym, ap, ◌∙◌}
use mathlib.Core.Bool.{Bool, true, false, cond, false≢true}
use mathlib.Core.List.{List, [], ◌∷◌, ◌++◌, append_assoc, append-nil}
use native.Mathlib.Omega.{arith}
use lib.Dec.{eqb}
use lib.ListN.{length, get_or, take}
use borrow.Author.Tests.{eq-eqb, ne_eqb}
use Rattle.line_words.specs.Words.{same}
use Rattle.piece_lines.specs.Says.{Piece}
use Rattle.line_words.proofs.Sameness.{same_refl, same_equal}
use Rattle.op_lines.specs.Says.{Operation}
use Rattle.told_lines.specs.Names.{place_of}
use Rattle.chop.specs.Pieces as chop
use Rattle.finest.specs.Operations as finest
use Rattle.fining.specs.Programs as fining
use Rattle.cutting.specs.Chopping as cutting
use Rattle.cutting.specs.Life.{names_of}

-- ---- the place among all names, not only those before

place-whole : (ns : List (List ℕ)) (k : ℕ) → k < length ns → place_of (get_or ns k []) (take k ns) ≡ place_of (get_or ns k []) ns
unfolding place_of
place-whole [] k h = absurd (omega arith)
place-whole (m ∷ ms) zero h = sym (ap (λ (t : Bool). cond t 0 (suc (place_of m ms))) (same_refl m))
place-whole (m ∷ ms) (suc k) h = ap (λ (r : ℕ). cond (same m (get_or ms k [])) 0 (suc r)) (place-whole ms k (omega arith))

place_found : (ns : List (List ℕ)) (k : ℕ) → k < length ns → get_or ns (place_of (get_or ns k []) ns) [] ≡ get_or ns k []
unfolding place_of
place_found [] k h = absurd (omega arith)
place_found (m ∷ ms) zero h = ap (λ (t : Bool). get_or (m ∷ ms) (cond t 0 (suc (place_of m ms))) []) (same_refl m)
place_found (m ∷ ms) (suc k) h = go (same m (get_or ms k [])) refl (place_found ms k (omega arith))
  where
    go : (t : Bool) → same m (get_or ms k []) ≡ t → get_or ms (place_of (get_or ms k []) ms) [] ≡ get_or ms k [] → get_or (m ∷ ms) (cond t 0 (suc (place_of (get_or ms k []) ms))) [] ≡ get_or ms k []
    go true e r = same_equal m (get_or ms k []) e
    go false e r = r

-- ONE NUMBER EXACTLY IF ONE NAME
pub same_number : (ns : List (List ℕ)) (a b : ℕ) → a < length ns → b < length ns → eqb (place_of (get_or ns a []) (take a ns)) (place_of (get_or ns b []) (take b ns)) ≡ same (get_or ns a []) (get_or ns b [])
same_number ns a b h l =
    ap (λ (x : ℕ). eqb x (place_of (get_or ns b []) (take b ns))) (place-whole ns a h)
    ∙ ap (eqb (place_of (get_or ns a []) ns)) (place-whole ns b l)
    ∙ go (same (get_or ns a []) (get_or ns b [])) refl
  where
    go : (t : Bool) → same (get_or ns a []) (get_or ns b []) ≡ t → eqb (place_of (get_or ns a []) ns) (place_of (get_or ns b []) ns) ≡ t
    go true e = eq-eqb _ _ (ap (λ (n : List ℕ). place_of n ns) (same_equal (get_or ns a []) (get_or ns b []) e))
    go false e =
        ne_eqb (place_of (get_or ns a []) ns) (place_of (get_or ns b []) ns)
        (λ z.
        let q : get_or ns a [] ≡ get_or ns b [] = sym (place_found ns a h) ∙ ap (λ (i : ℕ). get_or ns i []) z ∙ place_found ns b l in
        false≢true (sym e ∙ ap (λ (n : List ℕ). same n (get_or ns b [])) q ∙ same_refl (get_or ns b [])))

-- ---- the numbers of operations, and of pieces

operation-from : (os : List Operation) (ns : List (List ℕ)) (i : ℕ) → i < length os → finest.program_of (fining.numbered_from ns os) i ≡ place_of (get_or (fining.names_of os) i []) (ns ++ take i (fining.names_of os))
unfolding fining.numbered_from
operation-from [] ns i h = absurd (omega arith)
operation-from (o ∷ os) ns zero h = ap (place_of o.name) (sym (append-nil ns))
operation-from (o ∷ os) ns (suc i) h =
    operation-from os (ns ++ (o.name ∷ [])) i (omega arith)
    ∙ ap (place_of (get_or (fining.names_of os) i [])) (append_assoc ns (o.name ∷ []) (take i (fining.names_of os)))

pub operation-number : (os : List Operation) (i : ℕ) → i < length os → finest.program_of (fining.numbered os) i ≡ place_of (get_or (fining.names_of os) i []) (take i (fining.names_of os))
unfolding fining.numbered
operation-number os i h = operation-from os [] i h

piece-from : (ps : List Piece) (ns : List (List ℕ)) (i : ℕ) → i < length ps → (chop.piece (cutting.chopped_from ns ps) i).transaction ≡ place_of (get_or (names_of ps) i []) (ns ++ take i (names_of ps))
unfolding cutting.chopped_from
piece-from [] ns i h = absurd (omega arith)
piece-from (p ∷ ps) ns zero h = ap (place_of p.name) (sym (append-nil ns))
piece-from (p ∷ ps) ns (suc i) h =
    piece-from ps (ns ++ (p.name ∷ [])) i (omega arith)
    ∙ ap (place_of (get_or (names_of ps) i [])) (append_assoc ns (p.name ∷ []) (take i (names_of ps)))

pub piece-number : (ps : List Piece) (i : ℕ) → i < length ps → (chop.piece (cutting.chopped ps) i).transaction ≡ place_of (get_or (names_of ps) i []) (take i (names_of ps))
unfolding cutting.chopped
piece-number ps i h = piece-from ps [] i h
