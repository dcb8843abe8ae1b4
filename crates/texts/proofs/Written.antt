-- Text written over bytes: its length, a byte more, and text after text.
use Prim.Native.Nat.{ℕ, ◌+◌, ◌<◌, ◌≤◌}
use mathlib.Core.Path.{◌≡◌, refl, sym, ap, ap₂, subst, ◌∙◌}
use mathlib.Core.List.{List, [], ◌∷◌, ◌++◌, append_assoc}
use native.Mathlib.Nat.{add-zero}
use native.Mathlib.Numerals.{add-one}
use native.Mathlib.Omega.{arith}
use lib.ListN.{length, get_or, take, drop, set, length-append, length-take, length-drop, take-append-drop}
use lib.Seq.{set_split, take_at, take-suc, drop-drop, drop-append-add}
use Rattle.texts.specs.Written.{written, Wrote}

pub length-written : (l : List ℕ) (at : ℕ) (text : List ℕ) → at + length text ≤ length l → length (written l at text) ≡ length l
unfolding written
length-written l at text h = simp (length-append, length-take, length-drop) (omega arith)

pub written_byte : (l : List ℕ) (at b : ℕ) → at < length l → set l at b ≡ written l at (b ∷ [])
unfolding written
written_byte l at b h = set_split l at b h ∙ ap (λ (k : ℕ). take at l ++ (b ∷ drop k l)) (sym (add-one at))

module _ (l : List ℕ) (at : ℕ) (s t : List ℕ) (h : at + length s ≤ length l) where
  -- what stands before the end of the text
  front : length (take at l ++ s) ≡ at + length s
  front = simp (length-append, length-take) (omega arith)

  pub written-more : written (written l at s) (at + length s) t ≡ written l at (s ++ t)
  unfolding written
  written-more =
      let p : List ℕ = take at l ++ s in
      let q : List ℕ = drop (at + length s) l in
      let r : List ℕ = drop (at + length s + length t) l in
      let d : drop (at + length s + length t) (p ++ q) ≡ drop (length t) q
      = subst (λ (k : ℕ). drop (k + length t) (p ++ q) ≡ drop (length t) q) front (drop-append-add p q (length t)) in
      let n : at + length s + length t ≡ at + length (s ++ t) = omega (arith, length-append s t) in
      ap (λ (x : List ℕ). take (at + length s) x ++ (t ++ drop (at + length s + length t) x)) (sym (append_assoc (take at l) s q))
      ∙ ap₂ (λ (u v : List ℕ). u ++ (t ++ v)) (take_at p q (at + length s) front) (d ∙ drop-drop (length t) (at + length s) l)
      ∙ append_assoc (take at l) s (t ++ r)
      ∙ ap (λ (x : List ℕ). take at l ++ x) (sym (append_assoc s t r))
      ∙ ap (λ (k : ℕ). take at l ++ ((s ++ t) ++ drop k l)) n

-- a text, and a text after it
pub wrote_more : {l m n s t : List ℕ} {at e k : ℕ} → at + length s ≤ length l → Wrote l at s m e → Wrote m e t n k → Wrote l at (s ++ t) n k
wrote_more {l} {m} {n} {s} {t} {at} {e} {k} h a b =
    record {
      bytes = b.bytes ∙ ap₂ (λ (x : List ℕ) (y : ℕ). written x y t) a.bytes a.index ∙ written-more l at s t h;
      index = omega (arith, length-append s t, a.index, b.index);
    }

pub wrote_byte : (l : List ℕ) (at b : ℕ) → at < length l → Wrote l at (b ∷ []) (set l at b) (at + 1)
wrote_byte l at b h = record { bytes = written_byte l at b h; index = refl }

-- nothing written, and the next byte of a text
pub wrote_nothing : (l : List ℕ) (at : ℕ) → Wrote l at [] l at
unfolding written
wrote_nothing l at =
    record { bytes = sym (ap (λ (k : ℕ). take at l ++ drop k l) (add-zero at) ∙ take-append-drop at l); index = sym (add-zero at) }

pub text_next : (text : List ℕ) (k : ℕ) → k < length text → take k text ++ (get_or text k 0 ∷ []) ≡ take (k + 1) text
text_next text k h = sym (ap (λ (n : ℕ). take n text) (add-one k) ∙ take-suc text k 0 h)
