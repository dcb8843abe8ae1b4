-- The lines of an input, by its sentences: empty input has none, a byte 10 ends a line, the end of input a begun one.
use Prim.Native.Nat.{ℕ, ◌<◌}
use mathlib.Core.Path.{◌≡◌, refl, sym, ap, ◌∙◌}
use mathlib.Core.List.{List, [], ◌∷◌, ◌++◌, append-nil}
use lib.ListN.{length}
use lib.Seq.{append_snoc}
use borrow.Author.Tests.{lt-ltb, ne_eqb}
use Rattle.lines.specs.Lines.{lines_from, lines_of, Plain, bare, with_byte}

-- "empty input prints nothing, and after a byte 10 that ends the input there is no further line"
pub lines_none : lines_of [] ≡ []
unfolding lines_of lines_from
lines_none = refl

ends-from : {l : List ℕ} (p rest : List ℕ) → Plain l → lines_from p (l ++ (10 ∷ rest)) ≡ (p ++ l) ∷ lines_from [] rest
unfolding lines_from
ends-from p rest bare = ap (λ (q : List ℕ). q ∷ lines_from [] rest) (sym (append-nil p))
ends-from p rest (with_byte {b} {l} d r) =
    rw (ne_eqb b 10 d) (ends-from (p ++ (b ∷ [])) rest r ∙ ap (λ (q : List ℕ). q ∷ lines_from [] rest) (append_snoc p b l))

-- "A line ends at byte 10, which isn't counted"
pub lines_end : {l : List ℕ} (rest : List ℕ) → Plain l → lines_of (l ++ (10 ∷ rest)) ≡ l ∷ lines_of rest
unfolding lines_of
lines_end rest r = ends-from [] rest r

last-from : {l : List ℕ} (p : List ℕ) → Plain l → 0 < length (p ++ l) → lines_from p l ≡ (p ++ l) ∷ []
unfolding lines_from
last-from p bare h =
    let e : p ++ [] ≡ p = append-nil p in
    let g : 0 < length p = rw e at h in
    rw (lt-ltb 0 (length p) g, e)
last-from p (with_byte {b} {l} d r) h =
    let e : p ++ (b ∷ []) ++ l ≡ p ++ (b ∷ l) = append_snoc p b l in
    rw (ne_eqb b 10 d) (last-from (p ++ (b ∷ [])) r (rw e h) ∙ ap (λ (q : List ℕ). q ∷ []) e)

-- "or at the end of input"
pub lines-last : {l : List ℕ} → Plain l → 0 < length l → lines_of l ≡ l ∷ []
unfolding lines_of
lines-last r h = last-from [] r h
