-- Verdicts on small files, by computation.
use mathlib.Core.Path.{◌≡◌, refl}
use mathlib.Core.List.{[], ◌++◌}
use lib.ListN.{replicate}
use Rattle.journal.specs.Words.{number_in, word_at}
use Rattle.journal.specs.Format.{call_count, second_place, answers_place, answer_count, calls_in, answers_in, calls_of, answers_of}
use Rattle.judge.specs.Verdicts.{calls_short, answers_short, counts_equal, left_over, wrong_from, first_wrong, verdict_on}
use Rattle.judge.specs.declared.Verdict.TheVariants.{Accepted, Short, LeftOver}

-- no count at all
nothing : verdict_on [] ≡ Short
unfolding verdict_on calls_short answers_short
nothing = refl

-- the second count is cut off
cut_off : verdict_on (replicate 15 0) ≡ Short
unfolding verdict_on calls_short answers_short answers_place second_place call_count word_at number_in
cut_off = refl

-- no call and no answer: the journal of the empty run
empty_run : verdict_on (replicate 16 0) ≡ Accepted
unfolding verdict_on calls_short answers_short counts_equal left_over first_wrong wrong_from calls_of answers_of calls_in answers_in answers_place second_place call_count answer_count word_at number_in
empty_run = refl

one_byte_more : verdict_on (replicate 17 0) ≡ LeftOver
unfolding verdict_on calls_short answers_short counts_equal left_over answers_place second_place call_count answer_count word_at number_in
one_byte_more = refl

-- the greatest count of calls: 32 times it is no word
greatest-count : verdict_on (replicate 8 255 ++ replicate 8 0) ≡ Short
unfolding verdict_on calls_short answers_short answers_place second_place call_count word_at number_in
greatest-count = refl
