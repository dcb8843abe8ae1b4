-- And back: bytes that are whole are the journal of what is read from them.
use Prim.Native.Nat.{ℕ, zero, suc, ◌+◌, ◌*◌, ◌/◌, ◌%◌, ◌<◌, ◌≤◌}
use mathlib.Core.Path.{◌≡◌, refl, sym, ap, ap₂, ◌∙◌}
use mathlib.Core.List.{List, ◌∷◌, ◌++◌}
use native.Mathlib.Nat.{le_of_suc-le-suc, not-suc-le-zero}
use native.Mathlib.Omega.{arith}
use lib.ListN.{length, take, drop, length-drop, take-append-drop}
use lib.Seq.{take_all, take-add, drop-drop}
use Rattle.journal.specs.Words.{word_size, bytes_of, number_in, word_bytes, word_at}
use Rattle.journal.specs.Format.{record_size, call_bytes, answer_bytes, call_at, answer_at, call_records, answer_records, journal_of, calls_in, answers_in, call_count, second_place, answers_place, answer_count, calls_of, answers_of, Every}
use Rattle.journal.proofs.RecordLaws.{four_words}
use Rattle.journal.proofs.Sections.{length-calls_in, length-answers_in}

-- bytes
abbrev pub Bytes : List ℕ → Type 0
Bytes bs = Every (λ (b : ℕ). b < 256) bs

bytes_drop : (n : ℕ) {bs : List ℕ} → Bytes bs → Bytes (drop n bs)
bytes_drop zero all = all
bytes_drop (suc n) Every.none = Every.none
bytes_drop (suc n) (Every.more h hs) = bytes_drop n hs

-- ---- a number's bytes are those that it was read from

pub bytes_of-number_in : (n : ℕ) {bs : List ℕ} → Bytes bs → n ≤ length bs → bytes_of n (number_in n bs) ≡ take n bs
unfolding bytes_of number_in
bytes_of-number_in zero all h = refl
bytes_of-number_in (suc n) Every.none h = absurd (not-suc-le-zero h)
bytes_of-number_in (suc n) (Every.more {x} {xs} b bs) h =
    let m = number_in n xs in
    let low : (x + 256 * m) % 256 ≡ x = omega arith in
    let high : (x + 256 * m) / 256 ≡ m = omega arith in
    ap₂ (λ (y : ℕ) (k : ℕ). y ∷ bytes_of n k) low high ∙ ap (λ (l : List ℕ). x ∷ l) (bytes_of-number_in n bs (le_of_suc-le-suc h))

pub word-whole : (at : ℕ) {bs : List ℕ} → Bytes bs → at + word_size ≤ length bs → word_bytes (word_at at bs) ≡ take word_size (drop at bs)
unfolding word_bytes word_at
word-whole at {bs} all h = bytes_of-number_in word_size (bytes_drop at all) (omega (arith, length-drop at bs))

-- ---- and so are a record's

four_whole : {bs : List ℕ}
    → Bytes bs
    → record_size ≤ length bs
    → four_words (word_at 0 bs) (word_at word_size bs) (word_at (2 * word_size) bs) (word_at (3 * word_size) bs) ≡ take record_size bs
four_whole {bs} all h =
    rw (word-whole 0 all (omega arith), word-whole word_size all (omega arith), word-whole (2 * word_size) all (omega arith), word-whole (3 * word_size) all (omega arith))
    (sym
    (take-add word_size (3 * word_size) bs
    ∙ ap (λ (l : List ℕ). take word_size bs ++ l)
    (take-add word_size (2 * word_size) (drop word_size bs)
    ∙ ap (λ (l : List ℕ). take word_size (drop word_size bs) ++ l)
    (ap (take (2 * word_size)) (drop-drop word_size word_size bs)
    ∙ take-add word_size word_size (drop (2 * word_size) bs)
    ∙ ap (λ (l : List ℕ). take word_size (drop (2 * word_size) bs) ++ take word_size l) (drop-drop word_size (2 * word_size) bs)))))

call-whole : {bs : List ℕ} → Bytes bs → record_size ≤ length bs → call_bytes (call_at 0 bs) ≡ take record_size bs
unfolding call_bytes call_at
call-whole all h = four_whole all h

answer-whole : {bs : List ℕ} → Bytes bs → record_size ≤ length bs → answer_bytes (answer_at 0 bs) ≡ take record_size bs
unfolding answer_bytes answer_at
answer-whole all h = four_whole all h

-- ---- and so are a section's

more_records : (n : ℕ) (bs : List ℕ) → take record_size bs ++ take (record_size * n) (drop record_size bs) ≡ take (record_size * suc n) bs
more_records n bs =
    let e : record_size + record_size * n ≡ record_size * suc n = omega arith in
    sym (take-add record_size (record_size * n) bs) ∙ ap (λ (k : ℕ). take k bs) e

pub calls-whole : (n : ℕ) {bs : List ℕ} → Bytes bs → record_size * n ≤ length bs → call_records (calls_in n bs) ≡ take (record_size * n) bs
unfolding call_records calls_in
calls-whole zero all h = refl
calls-whole (suc n) {bs} all h =
    ap₂ ◌++◌
    (call-whole all (omega arith))
    (calls-whole n (bytes_drop record_size all) (omega (arith, length-drop record_size bs)))
    ∙ more_records n bs

pub answers-whole : (n : ℕ) {bs : List ℕ} → Bytes bs → record_size * n ≤ length bs → answer_records (answers_in n bs) ≡ take (record_size * n) bs
unfolding answer_records answers_in
answers-whole zero all h = refl
answers-whole (suc n) {bs} all h =
    ap₂ ◌++◌
    (answer-whole all (omega arith))
    (answers-whole n (bytes_drop record_size all) (omega (arith, length-drop record_size bs)))
    ∙ more_records n bs

-- ---- and so are a file's

-- a piece from a place on, and what stands behind it
seam : (at n : ℕ) (bs : List ℕ) → take n (drop at bs) ++ drop (at + n) bs ≡ drop at bs
seam at n bs = ap (λ (l : List ℕ). take n (drop at bs) ++ l) (sym (drop-drop n at bs)) ∙ take-append-drop n (drop at bs)

module _ (bs : List ℕ)
    (all : Bytes bs)
    (whole : length bs ≡ 2 * word_size + record_size * call_count bs + record_size * answer_count bs) where
  place : second_place bs ≡ word_size + record_size * call_count bs
  unfolding second_place
  place = refl

  first : word_bytes (call_count bs) ≡ take word_size bs
  unfolding call_count
  first = word-whole 0 all (omega arith)

  calls : call_records (calls_of bs) ≡ take (record_size * call_count bs) (drop word_size bs)
  unfolding calls_of
  calls = calls-whole (call_count bs) (bytes_drop word_size all) (omega (arith, length-drop word_size bs))

  second : word_bytes (answer_count bs) ≡ take word_size (drop (second_place bs) bs)
  unfolding answer_count
  second = word-whole (second_place bs) all (omega (arith, place))

  answers : answer_records (answers_of bs) ≡ drop (answers_place bs) bs
  unfolding answers_of answers_place
  answers =
      let left = length-drop (second_place bs + word_size) bs in
      let e = place in
      answers-whole (answer_count bs) (bytes_drop (second_place bs + word_size) all) (omega arith)
      ∙ take_all (record_size * answer_count bs) (drop (second_place bs + word_size) bs) (omega arith)

  pub journal_back : journal_of (calls_of bs) (answers_of bs) ≡ bs
  unfolding journal_of calls_of answers_of answers_place
  journal_back =
      rw (length-calls_in (call_count bs) (drop word_size bs), length-answers_in (answer_count bs) (drop (answers_place bs) bs), first, calls, second, answers)
      (ap (λ (l : List ℕ). take word_size bs ++ (take (record_size * call_count bs) (drop word_size bs) ++ l)) (seam (second_place bs) word_size bs)
      ∙ ap (λ (k : ℕ). take word_size bs ++ (take (record_size * call_count bs) (drop word_size bs) ++ drop k bs)) place
      ∙ ap (λ (l : List ℕ). take word_size bs ++ l) (seam word_size (record_size * call_count bs) bs)
      ∙ take-append-drop word_size bs)
