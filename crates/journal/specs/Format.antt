-- Request E1: "A journal is the calls (kind, number, item, value), then the answers (four numbers each), each section after its
-- count".
use Rattle.std.specs.Prelude.{ℕ, zero, suc, ◌+◌, ◌*◌, ◌≤◌, min, List, [], ◌∷◌, ◌++◌, length, drop}
use Rattle.names.specs.declared.Answer.{Answer}
use Rattle.call_words.specs.declared.Fields.{Fields}
use Rattle.call_words.specs.Calls.{fields}
use Rattle.journal.specs.Words.{word_size, word_bytes, word_at, greatest}

-- ---- one record, a call's or an answer's: four words

abbrev pub record_size : ℕ
record_size = 4 * word_size

unfoldable pub call_bytes : Fields → List ℕ
call_bytes f = word_bytes f.kind ++ (word_bytes f.number ++ (word_bytes f.item ++ word_bytes f.value))

-- "four numbers each": code, value, number, looked
unfoldable pub answer_bytes : Answer → List ℕ
answer_bytes a = word_bytes a.code ++ (word_bytes a.value ++ (word_bytes a.number ++ word_bytes a.looked))

-- the record at a place
unfoldable pub call_at : ℕ → List ℕ → Fields
call_at at bs =
    fields
    (word_at at bs)
    (word_at (at + word_size) bs)
    (word_at (at + 2 * word_size) bs)
    (word_at (at + 3 * word_size) bs)

unfoldable pub answer_at : ℕ → List ℕ → Answer
answer_at at bs =
    record {
      code = word_at at bs;
      value = word_at (at + word_size) bs;
      number = word_at (at + 2 * word_size) bs;
      looked = word_at (at + 3 * word_size) bs;
    }

-- ---- the whole file, written

unfoldable pub call_records : List Fields → List ℕ
call_records [] = []
call_records (f ∷ fs) = call_bytes f ++ call_records fs

unfoldable pub answer_records : List Answer → List ℕ
answer_records [] = []
answer_records (a ∷ rs) = answer_bytes a ++ answer_records rs

unfoldable pub journal_of : List Fields → List Answer → List ℕ
journal_of fs rs = word_bytes (length fs) ++ (call_records fs ++ (word_bytes (length rs) ++ answer_records rs))

-- ---- the whole file, read

-- the records at the start of bytes, as many as are asked for
unfoldable pub calls_in : ℕ → List ℕ → List Fields
calls_in zero bs = []
calls_in (suc n) bs = call_at 0 bs ∷ calls_in n (drop record_size bs)

unfoldable pub answers_in : ℕ → List ℕ → List Answer
answers_in zero bs = []
answers_in (suc n) bs = answer_at 0 bs ∷ answers_in n (drop record_size bs)

-- how many calls; where the second count stands, and where the answers; how many answers
unfoldable pub call_count : List ℕ → ℕ
call_count bs = word_at 0 bs

unfoldable pub second_place : List ℕ → ℕ
second_place bs = word_size + record_size * call_count bs

unfoldable pub answers_place : List ℕ → ℕ
answers_place bs = second_place bs + word_size

unfoldable pub answer_count : List ℕ → ℕ
answer_count bs = word_at (second_place bs) bs

unfoldable pub calls_of : List ℕ → List Fields
calls_of bs = calls_in (call_count bs) (drop word_size bs)

unfoldable pub answers_of : List ℕ → List Answer
answers_of bs = answers_in (answer_count bs) (drop (answers_place bs) bs)

-- ---- a section, piece by piece

-- how many records come next, where so many are left: at most as many as 65,536 bytes have
abbrev pub next_piece : ℕ → ℕ
next_piece left = min left 2048

-- ---- what can be written: 64-bit words

pub record CallFits (f : Fields) : Type 0 where
  pub kind : f.kind ≤ greatest
  pub number : f.number ≤ greatest
  pub item : f.item ≤ greatest
  pub value : f.value ≤ greatest

pub record AnswerFits (a : Answer) : Type 0 where
  pub code : a.code ≤ greatest
  pub value : a.value ≤ greatest
  pub number : a.number ≤ greatest
  pub looked : a.looked ≤ greatest

-- every one of a list
pub data Every {A : Type 0} (P : A → Type 0) : List A → Type 0 where
  none : Every P []
  more : {x : A} {xs : List A} → P x → Every P xs → Every P (x ∷ xs)
