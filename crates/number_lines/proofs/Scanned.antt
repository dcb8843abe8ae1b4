-- What is known of a line, byte by byte, in the struct and the words beside it.
use Prim.Native.Nat.{ℕ, ◌+◌, ◌-◌, ◌*◌, ◌<◌, ◌≤◌}
use mathlib.Core.Path.{◌≡◌, refl, sym, ap, ◌∙◌}
use mathlib.Core.Bool.{Bool, true, false, ◌&&◌, ◌||◌, cond}
use mathlib.Core.List.{List, [], ◌∷◌, ◌++◌, append-nil}
use native.Mathlib.Numerals.{add-one}
use native.Mathlib.Omega.{arith}
use lib.Dec.{leb, ltb}
use lib.ListN.{length, take, drop, get_or, set, length-take, take-append-drop}
use lib.Seq.{take-suc-set, length-take-le}
use borrow.Author.Tests.{lt-ltb, le-ltb, eq-eqb, ne_eqb, ltb-true, ltb-false}
use Rattle.numerals.specs.Numbers.{digit, greatest, with_digit}
use Rattle.texts.proofs.Places.{ended, opened}
use Rattle.number_lines.specs.Lines.{Held, reads, spoilt, digit_after, ends, after, begun, held_by, gather, unended}
use Rattle.number_lines.specs.Lines as lines
use Rattle.number_lines.specs.declared.scan.Scan.TheVariants.{Reads}
use Rattle.std.specs.Option.{unwrap_or, is_some}
use Rattle.std.proofs.Common.{Option, Some, None}

-- ---- a byte

-- no more is kept than there is
pub take-over : (l : List ℕ) (n : ℕ) → length l ≤ n → take n l ≡ l
take-over l n h = sym (append-nil (take n l)) ∙ ap (λ (r : List ℕ). take n l ++ r) (sym (ended l n h)) ∙ take-append-drop n l

-- a number is kept where any is counted
any-taken : (words : List ℕ) (n : ℕ) → 0 < length words → ltb 0 n ≡ ltb 0 (length (take n words))
any-taken words n h = go (ltb 0 n) refl
  where
    go : (t : Bool) → ltb 0 n ≡ t → ltb 0 n ≡ ltb 0 (length (take n words))
    go true e = e ∙ sym (lt-ltb 0 (length (take n words)) (omega (arith, length-take n words, ltb-true 0 n e)))
    go false e = e ∙ sym (le-ltb 0 (length (take n words)) (omega (arith, length-take n words, ltb-false 0 n e)))

module _ (words : List ℕ) (n : ℕ) where
  -- a digit more, and a byte with which there is no number
  pub digit_some : (o : Option ℕ) (b : ℕ) {m : ℕ} → Some m ≡ with_digit (unwrap_or o 0) b → held_by words (Reads (Some m) n) ≡ digit_after b (held_by words (Reads o n))
  unfolding digit_after held_by with_digit
  digit_some o b {m} e = go o (digit b && leb (unwrap_or o 0 * 10 + (b - 48)) greatest) refl e
    where
      go :
          (o : Option ℕ) (c : Bool) → (digit b && leb (unwrap_or o 0 * 10 + (b - 48)) greatest) ≡ c
          → Some m ≡ cond (digit b && leb (unwrap_or o 0 * 10 + (b - 48)) greatest) (Some (unwrap_or o 0 * 10 + (b - 48))) None
          → held_by words (Reads (Some m) n) ≡ digit_after b (held_by words (Reads o n))
      go (Some v) true p e = let q : Some m ≡ Some (v * 10 + (b - 48)) = rw p at e in rw p (ap (λ (k : ℕ). reads (take n words) k true) (grind arith))
      go None true p e = let q : Some m ≡ Some (0 * 10 + (b - 48)) = rw p at e in rw p (ap (λ (k : ℕ). reads (take n words) k true) (grind arith))
      go (Some v) false p e = let q : Some m ≡ None = rw p at e in grind arith
      go None false p e = let q : Some m ≡ None = rw p at e in grind arith

  pub digit_none : (o : Option ℕ) (b : ℕ) → None ≡ with_digit (unwrap_or o 0) b → spoilt ≡ digit_after b (held_by words (Reads o n))
  unfolding digit_after held_by with_digit
  digit_none o b e = go o (digit b && leb (unwrap_or o 0 * 10 + (b - 48)) greatest) refl e
    where
      go :
          (o : Option ℕ) (c : Bool) → (digit b && leb (unwrap_or o 0 * 10 + (b - 48)) greatest) ≡ c
          → ◌≡◌ {A = Option ℕ} None (cond (digit b && leb (unwrap_or o 0 * 10 + (b - 48)) greatest) (Some (unwrap_or o 0 * 10 + (b - 48))) None)
          → spoilt ≡ digit_after b (held_by words (Reads o n))
      go (Some v) true p e = let q : ◌≡◌ {A = Option ℕ} None (Some (v * 10 + (b - 48))) = rw p at e in grind arith
      go None true p e = let q : ◌≡◌ {A = Option ℕ} None (Some (0 * 10 + (b - 48))) = rw p at e in grind arith
      go (Some v) false p e = rw p
      go None false p e = rw p

  -- ---- the end of a number

  pub ends_full : (v : ℕ) → length words ≤ n → ends (length words) (held_by words (Reads (Some v) n)) ≡ spoilt
  unfolding ends held_by
  ends_full v h = rw (le-ltb (length (take n words)) (length words) (omega (arith, length-take n words)))

  pub ends-kept : (v : ℕ) → n < length words → held_by (set words n v) (Reads None (n + 1)) ≡ ends (length words) (held_by words (Reads (Some v) n))
  unfolding ends held_by
  ends-kept v h =
      let t : take (n + 1) (set words n v) ≡ take n words ++ (v ∷ []) = rw (add-one n) (take-suc-set words n v h) in
      let l : length (take n words) ≡ n = length-take-le n words (omega arith) in
      rw (t, lt-ltb (length (take n words)) (length words) (omega arith))

  -- whether the end of input ends a line
  pub begun_is : (o : Option ℕ) → 0 < length words → (is_some o || ltb 0 n) ≡ begun (held_by words (Reads o n))
  unfolding begun held_by
  begun_is (Some v) h = refl
  begun_is None h = any-taken words n h

-- ---- along a chunk

module _ (room : ℕ) (h : Held) (chunk : List ℕ) (k : ℕ) where
  pub gather_none : length chunk ≤ k → gather room h (drop k chunk) ≡ unended h
  unfolding gather
  gather_none l = rw (ended chunk k l)

  pub gather_end : k < length chunk → get_or chunk k 0 ≡ 10 → gather room h (drop k chunk) ≡ lines.ended h (drop (k + 1) chunk)
  unfolding gather
  gather_end l e = rw (opened chunk k l, eq-eqb (get_or chunk k 0) 10 e)

  pub gather_on : k < length chunk → (get_or chunk k 0 ≡ 10 → ⊥) → gather room h (drop k chunk) ≡ gather room (after room h (get_or chunk k 0)) (drop (k + 1) chunk)
  unfolding gather
  gather_on l d = rw (opened chunk k l, ne_eqb (get_or chunk k 0) 10 d)
