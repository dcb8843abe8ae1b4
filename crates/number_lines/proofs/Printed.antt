-- Numbers written with a space before each, one after the other.
use Prim.Native.Nat.{ℕ, ◌+◌, ◌<◌, ◌≤◌}
use mathlib.Core.Path.{◌≡◌, refl, sym, ap, ◌∙◌}
use mathlib.Core.List.{List, [], ◌∷◌, ◌++◌, append-nil, append_assoc}
use native.Mathlib.Numerals.{add-one}
use native.Mathlib.Omega.{arith}
use lib.ListN.{length, take, drop, get_or, length-append, length-take, length-drop, take-append-drop}
use lib.Seq.{take-suc}
use Rattle.numerals.specs.Print.{decimal, spaced}
use Rattle.texts.specs.Written.{written, Wrote}

pub spaced_one : (n : ℕ) → (32 ∷ []) ++ decimal n ≡ spaced (n ∷ [])
unfolding spaced
spaced_one n = ap (λ (ds : List ℕ). 32 ∷ ds) (sym (append-nil (decimal n)))

pub spaced-append : (ns ms : List ℕ) → spaced ns ++ spaced ms ≡ spaced (ns ++ ms)
unfolding spaced
spaced-append [] ms = refl
spaced-append (n ∷ ns) ms =
    ap (λ (ds : List ℕ). 32 ∷ ds) (append_assoc (decimal n) (spaced ns) (spaced ms) ∙ ap (λ (ds : List ℕ). decimal n ++ ds) (spaced-append ns ms))

-- a number more
pub spaced-next : (ns : List ℕ) (i : ℕ) → i < length ns → spaced (take i ns) ++ spaced (get_or ns i 0 ∷ []) ≡ spaced (take (i + 1) ns)
spaced-next ns i h = spaced-append (take i ns) (get_or ns i 0 ∷ []) ∙ ap spaced (sym (take-suc ns i 0 h) ∙ ap (λ (k : ℕ). take k ns) (sym (add-one i)))

-- no text at all
pub wrote_none : (l : List ℕ) (at : ℕ) → Wrote l at (spaced []) l at
unfolding spaced written
wrote_none l at =
    let z : at ≡ at + 0 = omega arith in
    record { bytes = sym (take-append-drop at l) ∙ ap (λ (k : ℕ). take at l ++ drop k l) z; index = z }

-- what is written ends within what keeps its length
pub wrote_within : {l m s : List ℕ} {at e : ℕ} → Wrote l at s m e → length m ≡ length l → at ≤ length l → e ≤ length l
unfolding written
wrote_within {l} {m} {s} {at} {e} w k h =
    let n : length (take at l ++ (s ++ drop (at + length s) l)) ≡ length l = sym (ap length w.bytes) ∙ k in
    omega (arith, w.index, simp (length-append, length-take, length-drop) at n)
