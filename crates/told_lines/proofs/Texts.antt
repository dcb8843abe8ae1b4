-- Words put in a row, and over a part of what is there.
use Prim.Native.Nat.{ℕ, ◌+◌, ◌≤◌}
use mathlib.Core.Path.{◌≡◌, sym, ap, ◌∙◌}
use mathlib.Core.List.{List, [], ◌∷◌, ◌++◌, append_assoc}
use native.Mathlib.Omega.{arith}
use lib.ListN.{length, take, drop, set, length-append, length-drop, take-append-drop}
use lib.Seq.{take_at, drop_at, take-append-le, drop-append-le, length-take-le}
use Rattle.texts.specs.Written.{written}
use Rattle.texts.proofs.Written.{written_byte, written-more, length-written}

-- three words, one after the other
pub three_written : (l : List ℕ) (a x y z : ℕ) → a + 3 ≤ length l → set (set (set l a x) (a + 1) y) (a + 2) z ≡ written l a (x ∷ y ∷ z ∷ [])
three_written l a x y z h =
    let m : List ℕ = written l a (x ∷ []) in
    let one : length m ≡ length l = length-written l a (x ∷ []) (omega arith) in
    let n : List ℕ = written l a (x ∷ y ∷ []) in
    let two : length n ≡ length l = length-written l a (x ∷ y ∷ []) (omega arith) in
    ap (λ (k : List ℕ). set (set k (a + 1) y) (a + 2) z) (written_byte l a x (omega arith))
    ∙ ap (λ (k : List ℕ). set k (a + 2) z) (written_byte m (a + 1) y (omega arith) ∙ written-more l a (x ∷ []) (y ∷ []) (omega arith))
    ∙ written_byte n (a + 2) z (omega arith)
    ∙ written-more l a (x ∷ y ∷ []) (z ∷ []) (omega arith)

-- ---- what is written over a part

early : (f x : List ℕ) (c w : ℕ) → c + w ≤ length f → take w (drop c (f ++ x)) ≡ take w (drop c f)
early f x c w h =
    ap (take w) (drop-append-le c f x (omega arith)) ∙ take-append-le w (drop c f) x (simp length-drop (omega arith))

module _ (l text : List ℕ) (a w : ℕ) (size : length text ≡ w) (fits : a + w ≤ length l) where
  front_length : length (take a l) ≡ a
  front_length = length-take-le a l (omega arith)

  -- what stands before it is as it was
  pub part-before : (c : ℕ) → c + w ≤ a → take w (drop c (written l a text)) ≡ take w (drop c l)
  unfolding written
  part-before c h =
      let k : c + w ≤ length (take a l) = omega (arith, front_length) in
      early (take a l) (text ++ drop (a + length text) l) c w k
      ∙ sym (early (take a l) (drop a l) c w k)
      ∙ ap (λ (x : List ℕ). take w (drop c x)) (take-append-drop a l)

  pub part_here : take w (drop a (written l a text)) ≡ text
  unfolding written
  part_here =
      ap (take w) (drop_at (take a l) (text ++ drop (a + length text) l) a front_length) ∙ take_at text (drop (a + length text) l) w size

  pub front_here : take (a + w) (written l a text) ≡ take a l ++ text
  unfolding written
  front_here =
      ap (take (a + w)) (sym (append_assoc (take a l) text (drop (a + length text) l)))
      ∙ take_at (take a l ++ text) (drop (a + length text) l) (a + w) (simp length-append (omega (arith, front_length, size)))
