-- Text put into a buffer: where there is room (`put-room`), where there is none (`put_full`), text after text (`put-more`), into a
-- part that is lent (`put-part`), none (`put-none`), one that fills it (`put_whole`), and the next place.
use Prim.Native.Nat.{ℕ, ◌+◌, ◌-◌, ◌<◌, ◌≤◌}
use mathlib.Core.Path.{◌≡◌, refl, sym, ap, ap₂, ◌∙◌}
use mathlib.Core.Bool.{Bool, true, false}
use mathlib.Core.List.{List, [], ◌++◌, append_assoc, append-nil}
use native.Mathlib.Nat.{add-zero}
use native.Mathlib.Omega.{arith}
use lib.Dec.{leb}
use lib.ListN.{length, take, drop, length-append, take-append-drop, drop_of_length-le}
use lib.Seq.{drop-drop}
use borrow.Author.Tests.{le-leb, lt-leb, leb-true, leb-false}
use Rattle.texts.specs.Written.{written, Buffer, buffer, put}
use Rattle.texts.proofs.Written.{length-written, written-more}

-- ---- where there is room, and where there is none

pub room-left : (need size at : ℕ) → at ≤ size → leb need (size - at) ≡ leb (at + need) size
room-left need size at h = go (leb need (size - at)) refl
  where
    go : (g : Bool) → leb need (size - at) ≡ g → leb need (size - at) ≡ leb (at + need) size
    go true e = e ∙ sym (le-leb (at + need) size (omega (arith, leb-true need (size - at) e)))
    go false e = e ∙ sym (lt-leb (at + need) size (omega (arith, leb-false need (size - at) e)))

pub put-room : (l text : List ℕ) (at : ℕ) → at + length text ≤ length l → put text (buffer l at) ≡ buffer (written l at text) (at + length text)
unfolding put
put-room l text at h = rw (le-leb (at + length text) (length l) h)

pub put_full : (l text : List ℕ) (at : ℕ) → length l < at + length text → put text (buffer l at) ≡ buffer l at
unfolding put
put_full l text at h = rw (lt-leb (at + length text) (length l) h)

-- ---- text after text

pub put-more : (l s t : List ℕ) (at : ℕ) → at + length (s ++ t) ≤ length l → put t (put s (buffer l at)) ≡ put (s ++ t) (buffer l at)
put-more l s t at h =
    let e = length-append s t in
    let g : at + length s ≤ length l = omega arith in
    let k : at + length s + length t ≡ at + length (s ++ t) = omega arith in
    ap (put t) (put-room l s at g)
    ∙ put-room (written l at s) t (at + length s) (omega (arith, length-written l at s g))
    ∙ ap₂ buffer (written-more l at s t g) k
    ∙ sym (put-room l (s ++ t) at h)

pub put_four : (l a b c d : List ℕ) (at : ℕ)
    → at + length (a ++ (b ++ (c ++ d))) ≤ length l
    → put d (put c (put b (put a (buffer l at)))) ≡ put (a ++ (b ++ (c ++ d))) (buffer l at)
put_four l a b c d at h =
    let n : length (a ++ (b ++ (c ++ d))) ≡ length a + length b + length c + length d = simp length-append (omega arith) in
    let two = length-append a b in
    let three = length-append (a ++ b) c in
    let four = length-append ((a ++ b) ++ c) d in
    ap (λ (x : Buffer). put d (put c x)) (put-more l a b at (omega arith))
    ∙ ap (put d) (put-more l (a ++ b) c at (omega arith))
    ∙ put-more l ((a ++ b) ++ c) d at (omega arith)
    ∙ ap (λ (text : List ℕ). put text (buffer l at)) (simp append_assoc)

-- ---- a part is lent, and filled with the text

pub put-part : (l text : List ℕ) (at size : ℕ)
    → length text ≡ size
    → at + size ≤ length l
    → buffer (take at l ++ (text ++ drop (at + size - at) (drop at l))) (at + size) ≡ put text (buffer l at)
unfolding written
put-part l text at size e h =
    let k : at + size - at ≡ length text = omega arith in
    rw (put-room l text at (omega arith), k, drop-drop (length text) at l, sym e)

-- ---- none, one that fills the buffer, and the next place

pub put_none : (l : List ℕ) (at : ℕ) → put [] (buffer l at) ≡ buffer l at
unfolding written
put_none l at = go (leb (at + 0) (length l)) refl
  where
    nothing : written l at [] ≡ l
    nothing = ap (λ (k : ℕ). take at l ++ drop k l) (add-zero at) ∙ take-append-drop at l

    go : (g : Bool) → leb (at + 0) (length l) ≡ g → put [] (buffer l at) ≡ buffer l at
    go true e = put-room l [] at (leb-true (at + 0) (length l) e) ∙ (λ i. buffer (nothing i) (add-zero at i))
    go false e = put_full l [] at (leb-false (at + 0) (length l) e)

-- a text as long as the buffer is all of it
pub put_whole : (l text : List ℕ) {m : List ℕ} {next : ℕ} → length text ≡ length l → buffer m next ≡ put text (buffer l 0) → m ≡ text
unfolding written
put_whole l text h e =
    ap (λ (b : Buffer). b.bytes) (e ∙ put-room l text 0 (omega (arith, h)))
    ∙ ap (λ (r : List ℕ). text ++ r) (drop_of_length-le l {i = 0 + length text} (omega (arith, h)))
    ∙ append-nil text

-- the next place is behind the text, and never behind the end
module _ (l text : List ℕ) (at : ℕ) {m : List ℕ} {next : ℕ} (e : buffer m next ≡ put text (buffer l at)) where
  pub put_next : at + length text ≤ length l → next ≡ at + length text
  put_next h = ap (λ (b : Buffer). b.next) (e ∙ put-room l text at h)

  pub put-within : at ≤ length l → next ≤ length l
  put-within h = go (leb (at + length text) (length l)) refl
    where
      go : (g : Bool) → leb (at + length text) (length l) ≡ g → next ≤ length l
      go true q = let k = leb-true (at + length text) (length l) q in omega (arith, k, put_next k)
      go false q = omega (arith, h, ap (λ (b : Buffer). b.next) (e ∙ put_full l text at (leb-false (at + length text) (length l) q)))
