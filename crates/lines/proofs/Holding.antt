-- What the struct keeps of a line, by what it is told.
use Prim.Native.Nat.{ℕ, ◌+◌, ◌<◌, ◌≤◌}
use mathlib.Core.Path.{◌≡◌, refl, sym, ap, ◌∙◌}
use mathlib.Core.Bool.{Bool, true, false}
use mathlib.Core.List.{List, [], ◌∷◌, ◌++◌}
use mathlib.Core.Logic.{⊎_elim}
use native.Mathlib.Nat.{eq-or-lt_of_le}
use native.Mathlib.Numerals.{add-one}
use native.Mathlib.Omega.{arith}
use lib.Dec.{leb, ltb}
use lib.ListN.{length, take, drop, get_or, set}
use lib.Seq.{take-suc-set, length-take-le}
use borrow.Author.Tests.{le-leb, lt-leb, lt-ltb, le-ltb, eq-eqb, ne_eqb, leb-true, leb-false}
use Rattle.lines.specs.Lines.{Held, short, long, more, begun, held_by, ends, unended, gather}
use Rattle.lines.specs.declared.Lines.{Lines}
use Rattle.texts.proofs.Places.{ended, opened}

pub held-short : (s : Lines) → s.count ≤ 80 → held_by s ≡ short (take s.count s.bytes)
unfolding held_by
held-short s h = rw (le-leb s.count 80 h)

pub held-long : (s : Lines) → 80 < s.count → held_by s ≡ long
unfolding held_by
held-long s h = rw (lt-leb s.count 80 h)

module _ (s : Lines) (size : length s.bytes ≡ 80) where
  kept-length : s.count ≤ 80 → length (take s.count s.bytes) ≡ s.count
  kept-length h = length-take-le s.count s.bytes (omega arith)

  pub push_short : (b : ℕ) → s.count < 80 → held_by (record { bytes = set s.bytes s.count b; count = s.count + 1 }) ≡ more (held_by s) b
  unfolding more
  push_short b h =
      let e : length (take s.count s.bytes) ≡ s.count = kept-length (omega arith) in
      let t : take (s.count + 1) (set s.bytes s.count b) ≡ take s.count s.bytes ++ (b ∷ [])
      = rw (add-one s.count) (take-suc-set s.bytes s.count b (omega arith)) in
      held-short (record { bytes = set s.bytes s.count b; count = s.count + 1 }) (omega arith)
      ∙ ap short t
      ∙ sym (rw (held-short s (omega arith), lt-ltb (length (take s.count s.bytes)) 80 (omega arith)) refl)

  pub push_long : (b : ℕ) → 80 ≤ s.count → held_by (record { bytes = s.bytes; count = 81 }) ≡ more (held_by s) b
  unfolding more
  push_long b h =
      held-long (record { bytes = s.bytes; count = 81 }) (omega arith)
      ∙ sym
      (⊎_elim
      (λ (e : 80 ≡ s.count).
      let l : length (take s.count s.bytes) ≡ s.count = kept-length (omega arith) in
      rw (held-short s (omega arith), le-ltb (length (take s.count s.bytes)) 80 (omega arith)) refl)
      (λ (g : 80 < s.count). rw (held-long s g) refl)
      (eq-or-lt_of_le h))

  pub begun_is : ltb 0 s.count ≡ begun (held_by s)
  unfolding begun
  begun_is = go (leb s.count 80) refl
    where
      go : (g : Bool) → leb s.count 80 ≡ g → ltb 0 s.count ≡ begun (held_by s)
      go true e =
          let h : s.count ≤ 80 = leb-true s.count 80 e in
          rw (held-short s h, kept-length h) refl
      go false e =
          let h : 80 < s.count = leb-false s.count 80 e in
          rw (held-long s h) (lt-ltb 0 s.count (omega arith))

-- along a chunk

module _ (h : Held) (chunk : List ℕ) (k : ℕ) where
  pub gather_none : length chunk ≤ k → gather h (drop k chunk) ≡ unended h
  unfolding gather
  gather_none l = rw (ended chunk k l)

  pub gather_end : k < length chunk → get_or chunk k 0 ≡ 10 → gather h (drop k chunk) ≡ ends h (drop (k + 1) chunk)
  unfolding gather
  gather_end l e = rw (opened chunk k l, eq-eqb (get_or chunk k 0) 10 e)

  pub gather_on : k < length chunk → (get_or chunk k 0 ≡ 10 → ⊥) → gather h (drop k chunk) ≡ gather (more h (get_or chunk k 0)) (drop (k + 1) chunk)
  unfolding gather
  gather_on l d = rw (opened chunk k l, ne_eqb (get_or chunk k 0) 10 d)
