-- Rows of words, read as operations; and that none of them is malformed, nor unknown where none is.
use Prim.Native.Nat.{ℕ, zero, suc, ◌+◌, ◌*◌, ◌/◌, ◌%◌, ◌<◌}
use mathlib.Core.Path.{◌≡◌, refl, sym, ap, ap₂, ◌∙◌}
use mathlib.Core.Bool.{Bool, true, false, not, ◌||◌, false≢true}
use mathlib.Core.List.{List, [], ◌∷◌, ◌++◌}
use native.Mathlib.Omega.{arith}
use lib.Dec.{eqb, ltb}
use lib.ListN.{length, get_or}
use lib.Seq.{ext_get_or}
use borrow.Author.Tests.{lt-ltb, leb-false, eq-eqb}
use Rattle.rules.specs.Words.{some, some_below}
use Rattle.rules.proofs.Tests.{false_is, true_is}
use Rattle.rules.proofs.Counts.{some_below→}
use Rattle.op_lines.specs.Says.{Operation}
use Rattle.finest.specs.Operations as finest
use Rattle.finest.specs.Rows.{operation_at, operations_in, some_unknown, some_malformed}
use Rattle.finest.proofs.InRows.{length-operations, operation_at_lem}
use Rattle.fining.specs.Programs.{unknown, numbered_from}
use Rattle.fining.specs.Life.{word_for, row_words}

words-length : (qs : List finest.Operation) → length (row_words qs) ≡ length qs * 4
unfolding row_words
words-length [] = refl
words-length (q ∷ qs) = let r = words-length qs in omega arith

pub rows-number : (qs : List finest.Operation) → length (row_words qs) / 4 ≡ length qs
rows-number qs = let r = words-length qs in omega arith

-- ---- row i has the words of operation i

-- one row further
skip : (a b c d : ℕ) (l : List ℕ) (n : ℕ) → get_or (a ∷ b ∷ c ∷ d ∷ l) (suc (suc (suc (suc n)))) 0 ≡ get_or l n 0
skip a b c d l n = refl

row_word : (qs : List finest.Operation) (i k : ℕ) → i < length qs → k < 4 → get_or (row_words qs) (i * 4 + k) 0 ≡ get_or (row_words (finest.operation qs i ∷ [])) k 0
unfolding row_words
row_word [] i k h l = absurd (omega arith)
row_word (q ∷ qs) zero k h l = first k l
  where
    first : (k : ℕ) → k < 4 → get_or (row_words (q ∷ qs)) (0 * 4 + k) 0 ≡ get_or (row_words (q ∷ [])) k 0
    first zero l = refl
    first (suc zero) l = refl
    first (suc (suc zero)) l = refl
    first (suc (suc (suc zero))) l = refl
    first (suc (suc (suc (suc k)))) l = absurd (omega arith)
row_word (q ∷ qs) (suc i) k h l =
    ap (λ (n : ℕ). get_or (row_words (q ∷ qs)) n 0) (let z : suc i * 4 + k ≡ suc (suc (suc (suc (i * 4 + k)))) = omega arith in z)
    ∙ skip q.program q.item (word_for q.writes) (word_for q.marked) (row_words qs) (i * 4 + k)
    ∙ row_word qs i k (omega arith) l

word_tested : (b : Bool) → eqb (word_for b) 1 ≡ b
word_tested true = refl
word_tested false = refl

word-most : (b : Bool) → ltb 1 (word_for b) ≡ false
word-most true = refl
word-most false = refl

module _ (qs : List finest.Operation) (i : ℕ) (h : i < length qs) where
  at_zero : get_or (row_words qs) (i * 4) 0 ≡ (finest.operation qs i).program
  unfolding row_words
  at_zero = ap (λ (n : ℕ). get_or (row_words qs) n 0) (let z : i * 4 ≡ i * 4 + 0 = omega arith in z) ∙ row_word qs i 0 h (omega arith)

  at_one : get_or (row_words qs) (i * 4 + 1) 0 ≡ (finest.operation qs i).item
  unfolding row_words
  at_one = row_word qs i 1 h (omega arith)

  at_two : get_or (row_words qs) (i * 4 + 2) 0 ≡ word_for (finest.operation qs i).writes
  unfolding row_words
  at_two = row_word qs i 2 h (omega arith)

  at_three : get_or (row_words qs) (i * 4 + 3) 0 ≡ word_for (finest.operation qs i).marked
  unfolding row_words
  at_three = row_word qs i 3 h (omega arith)

  operation_is : operation_at (row_words qs) i ≡ finest.operation qs i
  operation_is = λ j. record {
    program = at_zero j;
    item = at_one j;
    writes = (ap (λ (w : ℕ). eqb w 1) at_two ∙ word_tested (finest.operation qs i).writes) j;
    marked = (ap (λ (w : ℕ). eqb w 1) at_three ∙ word_tested (finest.operation qs i).marked) j;
  }

-- THE ROWS ARE THE OPERATIONS
pub operations-back : (qs : List finest.Operation) → operations_in (row_words qs) ≡ qs
operations-back qs =
    ext_get_or finest.no_operation (operations_in (row_words qs)) qs (length-operations (row_words qs) ∙ rows-number qs)
    (λ i h.
    let l : i < length qs = omega (arith, length-operations (row_words qs), rows-number qs) in
    operation_at_lem (row_words qs) i (omega (arith, rows-number qs)) ∙ operation_is qs i l)

-- ---- what is not refused

-- a test that no row passes
none_pass : (n : ℕ) (p : ℕ → Bool) → ((i : ℕ) → i < n → p i ≡ false) → some_below n p ≡ false
none_pass n p f = go (some_below n p) refl
  where
    go : (t : Bool) → some_below n p ≡ t → t ≡ false
    go false e = refl
    go true e = let s = some_below→ n p (true_is e) in absurd (false_is (f s.0 s.1) s.2)

pub not_malformed : (qs : List finest.Operation) → some_malformed (row_words qs) ≡ false
unfolding some_malformed
not_malformed qs =
    ap₂ (λ (t u : Bool). not t || u)
    (eq-eqb (length (row_words qs) % 4) 0 (let r = words-length qs in omega arith))
    (none_pass (length (row_words qs) / 4) _
    (λ i h.
    let l : i < length qs = omega (arith, rows-number qs) in
    ap₂ (λ (x y : ℕ). ltb 1 x || ltb 1 y) (at_two qs i l) (at_three qs i l) ∙ ap₂ ◌||◌ (word-most (finest.operation qs i).writes) (word-most (finest.operation qs i).marked)))

-- each item is known, where none is unknown
pub item-known : (os : List Operation) (ns : List (List ℕ)) (i : ℕ) → some unknown os ≡ false → i < length (numbered_from ns os) → (finest.operation (numbered_from ns os) i).item < finest.items
unfolding some numbered_from
item-known [] ns i e h = absurd (omega arith)
item-known (o ∷ os) ns zero e h = leb-false finest.items o.item (left (unknown o) (some unknown os) e)
  where
    left : (a b : Bool) → (a || b) ≡ false → a ≡ false
    left true b f = f
    left false b f = refl
item-known (o ∷ os) ns (suc i) e h = item-known os (ns ++ (o.name ∷ [])) i (right (unknown o) (some unknown os) e) (omega arith)
  where
    right : (a b : Bool) → (a || b) ≡ false → b ≡ false
    right true b f = absurd (false≢true (sym f))
    right false b f = f

pub not_unknown : (os : List Operation) → some unknown os ≡ false → some_unknown (row_words (numbered_from [] os)) ≡ false
unfolding some_unknown
not_unknown os e =
    none_pass (length (row_words (numbered_from [] os)) / 4) _
    (λ i h.
    let l : i < length (numbered_from [] os) = omega (arith, rows-number (numbered_from [] os)) in
    ap (λ (x : ℕ). not (ltb x finest.items)) (at_one (numbered_from [] os) i l)
    ∙ ap not (lt-ltb (finest.operation (numbered_from [] os) i).item finest.items (item-known os [] i e l)))

pub numbered-length : (os : List Operation) (ns : List (List ℕ)) → length (numbered_from ns os) ≡ length os
unfolding numbered_from
numbered-length [] ns = refl
numbered-length (o ∷ os) ns = ap suc (numbered-length os (ns ++ (o.name ∷ [])))
