-- Words, records and small journals, computed.
use mathlib.Core.Path.{◌≡◌, refl}
use mathlib.Core.List.{[], ◌∷◌, ◌++◌}
use lib.ListN.{replicate}
use Rattle.call_words.specs.Calls.{fields}
use Rattle.journal.specs.Words.{bytes_of, number_in, word_bytes, word_at, greatest}
use Rattle.journal.specs.Format.{call_bytes, answer_bytes, call_records, answer_records, journal_of}

-- the lowest byte first

little_endian : word_bytes 258 ≡ 2 ∷ 1 ∷ replicate 6 0
unfolding word_bytes bytes_of
little_endian = refl

all_ones : word_bytes greatest ≡ replicate 8 255
unfolding word_bytes bytes_of
all_ones = refl

-- a byte that is missing counts as 0
cut_off : word_at 1 (7 ∷ 2 ∷ 1 ∷ []) ≡ 258
unfolding word_at number_in
cut_off = refl

-- no calls and no answers: two counts

none : journal_of [] [] ≡ replicate 16 0
unfolding journal_of call_records answer_records word_bytes bytes_of
none = refl

-- `write 3 5 7`, and the answer `0 0 0 0`

one_call : journal_of (fields 4 3 5 7 ∷ []) (record { code = 0; value = 0; number = 0; looked = 0 } ∷ [])
    ≡ (1 ∷ replicate 7 0)
    ++ ((4 ∷ replicate 7 0) ++ (3 ∷ replicate 7 0) ++ (5 ∷ replicate 7 0) ++ (7 ∷ replicate 7 0))
    ++ (1 ∷ replicate 7 0)
    ++ replicate 32 0
unfolding journal_of call_records answer_records call_bytes answer_bytes word_bytes bytes_of
one_call = refl
