-- A word as bytes: how many they are, that they are read back, and which bytes a word is read from.
use Prim.Native.Nat.{ℕ, zero, suc, ◌+◌, ◌-◌, ◌*◌, ◌/◌, ◌^◌, ◌<◌, ◌≤◌}
use mathlib.Core.Path.{◌≡◌, refl, sym, ap, ◌∙◌}
use mathlib.Core.List.{List, [], ◌∷◌, ◌++◌}
use native.Mathlib.Nat.{pow-suc, le_of_suc-le-suc, not-suc-le-zero}
use native.Mathlib.Omega.{arith}
use lib.ListN.{length, take, drop, replicate}
use lib.Seq.{get_or-drop, drop-drop, drop_at}
use Rattle.std.specs.Int.{from_le_bytes, to_le_bytes}
use Rattle.std.proofs.Common.{w64}
use Rattle.journal.proofs.Lists.{drop-take}
use Rattle.journal.specs.Words.{word_size, bytes_of, number_in, word_bytes, word_at, greatest}

-- ---- how many bytes

length-bytes_of : (n w : ℕ) → length (bytes_of n w) ≡ n
unfolding bytes_of
length-bytes_of zero w = refl
length-bytes_of (suc n) w = ap suc (length-bytes_of n (w / 256))

pub length-word_bytes : (w : ℕ) → length (word_bytes w) ≡ word_size
unfolding word_bytes
length-word_bytes w = length-bytes_of word_size w

-- ---- what is written is read back, whatever stands behind it

pub number_in-bytes_of : (n w : ℕ) (rest : List ℕ) → w < 256 ^ n → number_in n (bytes_of n w ++ rest) ≡ w
unfolding number_in bytes_of
number_in-bytes_of zero w rest h = omega arith
number_in-bytes_of (suc n) w rest h =
    let e : 256 ^ suc n ≡ 256 ^ n * 256 = pow-suc 256 n in
    rw (number_in-bytes_of n (w / 256) rest (omega arith)) (omega arith)

pub word_back : (w : ℕ) (rest : List ℕ) → w ≤ greatest → word_at 0 (word_bytes w ++ rest) ≡ w
unfolding word_at word_bytes
word_back w rest h = number_in-bytes_of word_size w rest (omega arith)

-- ---- the bytes that a word is read from

pub word-drop : (at : ℕ) (bs : List ℕ) → word_at at bs ≡ word_at 0 (drop at bs)
unfolding word_at
word-drop at bs = refl

pub word_dropped : (at more : ℕ) (bs : List ℕ) → word_at (at + more) bs ≡ word_at more (drop at bs)
unfolding word_at
word_dropped at more bs = ap (number_in word_size) (sym (drop-drop more at bs))

-- behind a word
pub word-past : (w at : ℕ) (bs : List ℕ) → word_at (word_size + at) (word_bytes w ++ bs) ≡ word_at at bs
word-past w at bs = word_dropped word_size at (word_bytes w ++ bs) ∙ ap (word_at at) (drop_at (word_bytes w) bs word_size (length-word_bytes w))

number_in-take : (n k : ℕ) (bs : List ℕ) → n ≤ k → number_in n (take k bs) ≡ number_in n bs
unfolding number_in
number_in-take zero k bs h = refl
number_in-take (suc n) zero bs h = absurd (not-suc-le-zero h)
number_in-take (suc n) (suc k) [] h = refl
number_in-take (suc n) (suc k) (b ∷ bs) h = ap (λ (m : ℕ). b + 256 * m) (number_in-take n k bs (le_of_suc-le-suc h))

-- a piece is enough
pub word_piece : (at k : ℕ) (bs : List ℕ) → at + word_size ≤ k → word_at at (take k bs) ≡ word_at at bs
unfolding word_at
word_piece at k bs h = rw (drop-take at k bs) (number_in-take word_size (k - at) (drop at bs) (omega arith))

-- the library's words for a word's bytes and for the word of bytes

pub word-of_le : (bs : List ℕ) → from_le_bytes w64 bs ≡ word_at 0 bs
unfolding word_at number_in
word-of_le bs = simp (get_or-drop, drop-drop) (omega arith)

pub word-as_le : (w : ℕ) → to_le_bytes w64 w ≡ word_bytes w
unfolding word_bytes bytes_of
word-as_le w =
    let two : w / 256 / 256 ≡ w / 256 ^ 2 = omega arith in
    let three : w / 256 ^ 2 / 256 ≡ w / 256 ^ 3 = omega arith in
    let four : w / 256 ^ 3 / 256 ≡ w / 256 ^ 4 = omega arith in
    let five : w / 256 ^ 4 / 256 ≡ w / 256 ^ 5 = omega arith in
    let six : w / 256 ^ 5 / 256 ≡ w / 256 ^ 6 = omega arith in
    let seven : w / 256 ^ 6 / 256 ≡ w / 256 ^ 7 = omega arith in
    rw (two, three, four, five, six, seven)

-- bytes that are too few, filled up with 0

number_in-zeros : (n k : ℕ) (bs : List ℕ) → number_in n (bs ++ replicate k 0) ≡ number_in n bs
unfolding number_in
number_in-zeros zero k bs = refl
number_in-zeros (suc n) zero [] = refl
number_in-zeros (suc n) (suc k) [] = ap (λ (m : ℕ). 0 + 256 * m) (number_in-zeros n k [])
number_in-zeros (suc n) k (b ∷ bs) = ap (λ (m : ℕ). b + 256 * m) (number_in-zeros n k bs)

pub word-zeros : (k : ℕ) (bs : List ℕ) → word_at 0 (bs ++ replicate k 0) ≡ word_at 0 bs
unfolding word_at
word-zeros k bs = number_in-zeros word_size k bs
