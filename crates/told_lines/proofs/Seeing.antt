-- The input so far, byte by byte: in the end its lines.
use Prim.Native.Nat.{ℕ, ◌+◌, ◌<◌}
use mathlib.Core.Path.{◌≡◌, refl, sym, ap, ◌∙◌}
use mathlib.Core.Bool.{Bool, true, false, cond}
use mathlib.Core.List.{List, [], ◌∷◌, ◌++◌, map, append-nil, append_assoc}
use native.Mathlib.Numerals.{add-one}
use lib.Dec.{eqb, ltb}
use lib.ListN.{length, take, get_or}
use lib.Seq.{take-suc}
use Rattle.lines.specs.Lines.{lines_from, lines_of}
use Rattle.told_lines.specs.Seen.{Seen, seen, see_byte, see_all, see, all_lines}

-- ---- all bytes

cut : (bs l : List ℕ) (ls : List (List ℕ)) → all_lines (see_all (seen ls l) bs) ≡ ls ++ lines_from l bs
unfolding all_lines see_all see_byte lines_from
cut [] l ls = go (ltb 0 (length l))
  where
    go : (t : Bool) → cond t (ls ++ (l ∷ [])) ls ≡ ls ++ cond {A = List (List ℕ)} t (l ∷ []) []
    go true = refl
    go false = sym (append-nil ls)
cut (b ∷ bs) l ls = go (eqb b 10) (cut bs [] (ls ++ (l ∷ []))) (cut bs (l ++ (b ∷ [])) ls)
  where
    go : (t : Bool)
        → all_lines (see_all (seen (ls ++ (l ∷ [])) []) bs) ≡ (ls ++ (l ∷ [])) ++ lines_from [] bs
        → all_lines (see_all (seen ls (l ++ (b ∷ []))) bs) ≡ ls ++ lines_from (l ++ (b ∷ [])) bs
        → all_lines (see_all (cond t (seen (ls ++ (l ∷ [])) []) (seen ls (l ++ (b ∷ [])))) bs)
        ≡ ls ++ cond {A = List (List ℕ)} t (l ∷ lines_from [] bs) (lines_from (l ++ (b ∷ [])) bs)
    go true next on = next ∙ append_assoc ls (l ∷ []) (lines_from [] bs)
    go false next on = on

-- WHAT IS SEEN OF AN INPUT ARE ITS LINES
pub all_seen : (input : List ℕ) → all_lines (see input) ≡ lines_of input
unfolding see lines_of
all_seen input = cut input [] []

-- ---- a piece of the input more

pub see-append : (bs cs : List ℕ) (s : Seen) → see_all s (bs ++ cs) ≡ see_all (see_all s bs) cs
unfolding see_all
see-append [] cs s = refl
see-append (b ∷ bs) cs s = see-append bs cs (see_byte s b)

pub see-next : (piece : List ℕ) (k : ℕ) (s : Seen) → k < length piece → see_all s (take (k + 1) piece) ≡ see_byte (see_all s (take k piece)) (get_or piece k 0)
unfolding see_all
see-next piece k s h =
    ap (see_all s) (ap (λ (n : ℕ). take n piece) (add-one k) ∙ take-suc piece k 0 h) ∙ see-append (take k piece) (get_or piece k 0 ∷ []) s

-- a line more, by what is said of each
pub map_more : {A B : Type 0} (f : A → B) (ls : List A) (l : A) → map f (ls ++ (l ∷ [])) ≡ map f ls ++ (f l ∷ [])
map_more f [] l = refl
map_more {A} {B} f (k ∷ ks) l = ap (λ (ms : List B). f k ∷ ms) (map_more f ks l)
