-- Records of four words: their length, that they are read back, and which bytes they are read from.
use Prim.Native.Nat.{ℕ, ◌+◌, ◌*◌, ◌≤◌}
use mathlib.Core.Path.{◌≡◌, ◌∙◌}
use mathlib.Core.List.{List, ◌++◌, append_assoc}
use native.Mathlib.Omega.{arith}
use lib.ListN.{length, take, drop, length-append}
use Rattle.names.specs.declared.Answer.{Answer}
use Rattle.call_words.specs.declared.Fields.{Fields}
use Rattle.call_words.specs.Calls.{fields}
use Rattle.journal.specs.Words.{word_size, word_bytes, word_at, greatest}
use Rattle.journal.specs.Format.{record_size, call_bytes, answer_bytes, call_at, answer_at, CallFits, AnswerFits}
use Rattle.journal.proofs.WordLaws.{length-word_bytes, word_back, word-drop, word_dropped, word-past, word_piece}

abbrev pub four_words : ℕ → ℕ → ℕ → ℕ → List ℕ
four_words a b c d = word_bytes a ++ (word_bytes b ++ (word_bytes c ++ word_bytes d))

-- ---- the length

pub length_four : (a b c d : ℕ) → length (four_words a b c d) ≡ record_size
length_four a b c d =
    simp length-append
    (omega (arith, length-word_bytes a, length-word_bytes b, length-word_bytes c, length-word_bytes d))

pub length-call_bytes : (f : Fields) → length (call_bytes f) ≡ record_size
unfolding call_bytes
length-call_bytes f = length_four f.kind f.number f.item f.value

pub length-answer_bytes : (a : Answer) → length (answer_bytes a) ≡ record_size
unfolding answer_bytes
length-answer_bytes a = length_four a.code a.value a.number a.looked

-- ---- what is written is read back, whatever stands behind it

module _ (a b c d : ℕ) (rest : List ℕ) where
  abbrev in_line : List ℕ
  in_line = word_bytes a ++ (word_bytes b ++ (word_bytes c ++ (word_bytes d ++ rest)))

  in_line_lem : four_words a b c d ++ rest ≡ in_line
  in_line_lem = simp append_assoc

  first : a ≤ greatest → word_at 0 (four_words a b c d ++ rest) ≡ a
  first h = rw in_line_lem (word_back a _ h)

  second : b ≤ greatest → word_at word_size (four_words a b c d ++ rest) ≡ b
  second h = rw in_line_lem (word-past a 0 _ ∙ word_back b _ h)

  third : c ≤ greatest → word_at (2 * word_size) (four_words a b c d ++ rest) ≡ c
  third h = rw in_line_lem (word-past a word_size _ ∙ word-past b 0 _ ∙ word_back c _ h)

  fourth : d ≤ greatest → word_at (3 * word_size) (four_words a b c d ++ rest) ≡ d
  fourth h = rw in_line_lem (word-past a (2 * word_size) _ ∙ word-past b word_size _ ∙ word-past c 0 _ ∙ word_back d _ h)

pub call_back : (f : Fields) (rest : List ℕ) → CallFits f → call_at 0 (call_bytes f ++ rest) ≡ f
unfolding call_at call_bytes
call_back f rest h =
    let k = f.kind in
    let n = f.number in
    let x = f.item in
    let v = f.value in
    λ i.
    fields
    (first k n x v rest h.kind i)
    (second k n x v rest h.number i)
    (third k n x v rest h.item i)
    (fourth k n x v rest h.value i)

pub answer_back : (a : Answer) (rest : List ℕ) → AnswerFits a → answer_at 0 (answer_bytes a ++ rest) ≡ a
unfolding answer_at answer_bytes
answer_back a rest h =
    let k = a.code in
    let v = a.value in
    let n = a.number in
    let l = a.looked in
    λ i.
    record {
      code = first k v n l rest h.code i;
      value = second k v n l rest h.value i;
      number = third k v n l rest h.number i;
      looked = fourth k v n l rest h.looked i;
    }

-- ---- the bytes that a record is read from

pub call-drop : (at : ℕ) (bs : List ℕ) → call_at at bs ≡ call_at 0 (drop at bs)
unfolding call_at
call-drop at bs =
    λ i.
    fields
    (word-drop at bs i)
    (word_dropped at word_size bs i)
    (word_dropped at (2 * word_size) bs i)
    (word_dropped at (3 * word_size) bs i)

pub answer-drop : (at : ℕ) (bs : List ℕ) → answer_at at bs ≡ answer_at 0 (drop at bs)
unfolding answer_at
answer-drop at bs =
    λ i.
    record {
      code = word-drop at bs i;
      value = word_dropped at word_size bs i;
      number = word_dropped at (2 * word_size) bs i;
      looked = word_dropped at (3 * word_size) bs i;
    }

-- a piece is enough

pub call-piece : (at k : ℕ) (bs : List ℕ) → at + record_size ≤ k → call_at at (take k bs) ≡ call_at at bs
unfolding call_at
call-piece at k bs h =
    λ i.
    fields
    (word_piece at k bs (omega arith) i)
    (word_piece (at + word_size) k bs (omega arith) i)
    (word_piece (at + 2 * word_size) k bs (omega arith) i)
    (word_piece (at + 3 * word_size) k bs (omega arith) i)

pub answer-piece : (at k : ℕ) (bs : List ℕ) → at + record_size ≤ k → answer_at at (take k bs) ≡ answer_at at bs
unfolding answer_at
answer-piece at k bs h =
    λ i.
    record {
      code = word_piece at k bs (omega arith) i;
      value = word_piece (at + word_size) k bs (omega arith) i;
      number = word_piece (at + 2 * word_size) k bs (omega arith) i;
      looked = word_piece (at + 3 * word_size) k bs (omega arith) i;
    }
