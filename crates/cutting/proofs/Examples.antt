-- What is put out of small inputs, computed: the order of what is found before anything is judged.
use Prim.Native.Nat.{ℕ, zero, suc}
use mathlib.Core.Path.{◌≡◌, refl}
use mathlib.Core.List.{List, [], ◌∷◌, ◌++◌}
use Rattle.rules.specs.Words.{every, some}
use Rattle.numerals.specs.Numbers.{worth}
use Rattle.numerals.specs.Print.{decimal, digits_in}
use Rattle.lines.specs.Lines.{lines_from, lines_of}
use Rattle.line_words.specs.Words.{words_from, words_of, hash, uncommented, is_name, is_item, same}
use Rattle.piece_lines.specs.Read.{onward, noted, hear, hear_all, silence, said_at, said_of, said}
use Rattle.piece_lines.specs.Items.{unknown_in}
use Rattle.told_lines.specs.Lines.{said_in, bad_from, first_bad, capped, bad_text, unknown_words}
use Rattle.cutting.specs.Chopping.{said_lines, verdict_on}
use Rattle.finding_lines.specs.Lines.{too_many_words, verdict_line}
use Rattle.cutting.specs.Told.{line_of, put_out}

-- so many pieces that touch nothing, one a line
pieces : ℕ → List ℕ
pieces zero = []
pieces (suc n) = 97 ∷ 10 ∷ pieces n

-- lines are counted with comments
comments_counted : put_out (35 ∷ 10 ∷ 10 ∷ 97 ∷ 10 ∷ 97 ∷ 32 ∷ 32 ∷ 97 ∷ 10 ∷ 97 ∷ 32 ∷ 32 ∷ 97 ∷ []) ≡ 98 ∷ 97 ∷ 100 ∷ 32 ∷ 108 ∷ 105 ∷ 110 ∷ 101 ∷ 32 ∷ 52 ∷ 10 ∷ []
unfolding put_out line_of said_lines first_bad bad_from said_in verdict_on unknown_in bad_text capped verdict_line lines_of lines_from said said_of said_at hear_all hear silence onward noted words_of words_from hash uncommented is_name is_item same every some worth decimal digits_in
comments_counted = refl

-- a last line with no byte 10
last_line : put_out (97 ∷ 10 ∷ 97 ∷ 32 ∷ 114 ∷ 101 ∷ 97 ∷ 100 ∷ 115 ∷ []) ≡ 98 ∷ 97 ∷ 100 ∷ 32 ∷ 108 ∷ 105 ∷ 110 ∷ 101 ∷ 32 ∷ 50 ∷ 10 ∷ []
unfolding put_out line_of said_lines first_bad bad_from said_in verdict_on unknown_in bad_text capped verdict_line lines_of lines_from said said_of said_at hear_all hear silence onward noted words_of words_from hash uncommented is_name is_item same every some worth decimal digits_in
last_line = refl

-- item 64
item_64 : put_out (97 ∷ 32 ∷ 114 ∷ 101 ∷ 97 ∷ 100 ∷ 115 ∷ 32 ∷ 54 ∷ 51 ∷ 32 ∷ 54 ∷ 52 ∷ []) ≡ unknown_words
unfolding put_out line_of said_lines first_bad bad_from said_in verdict_on unknown_in bad_text capped verdict_line lines_of lines_from said said_of said_at hear_all hear silence onward noted words_of words_from hash uncommented is_name is_item same every some worth decimal digits_in
item_64 = refl

-- 33 pieces, with an unknown item among them and without; and with a bad line
too_many_lem : put_out (pieces 33) ≡ too_many_words
unfolding put_out line_of said_lines first_bad bad_from said_in verdict_on unknown_in bad_text capped verdict_line lines_of lines_from said said_of said_at hear_all hear silence onward noted words_of words_from hash uncommented is_name is_item same every some worth decimal digits_in pieces
too_many_lem = refl

too_many_first : put_out (pieces 32 ++ (97 ∷ 32 ∷ 114 ∷ 101 ∷ 97 ∷ 100 ∷ 115 ∷ 32 ∷ 54 ∷ 52 ∷ [])) ≡ too_many_words
unfolding put_out line_of said_lines first_bad bad_from said_in verdict_on unknown_in bad_text capped verdict_line lines_of lines_from said said_of said_at hear_all hear silence onward noted words_of words_from hash uncommented is_name is_item same every some worth decimal digits_in pieces
too_many_first = refl

bad-first : put_out (pieces 33 ++ (97 ∷ 32 ∷ 114 ∷ 101 ∷ 97 ∷ 100 ∷ 115 ∷ 32 ∷ 54 ∷ 52 ∷ 10 ∷ 97 ∷ 32 ∷ 97 ∷ [])) ≡ 98 ∷ 97 ∷ 100 ∷ 32 ∷ 108 ∷ 105 ∷ 110 ∷ 101 ∷ 32 ∷ 51 ∷ 53 ∷ 10 ∷ []
unfolding put_out line_of said_lines first_bad bad_from said_in verdict_on unknown_in bad_text capped verdict_line lines_of lines_from said said_of said_at hear_all hear silence onward noted words_of words_from hash uncommented is_name is_item same every some worth decimal digits_in pieces
bad-first = refl

-- 32 pieces with an unknown item: not too many
not_too_many : put_out (pieces 31 ++ (97 ∷ 32 ∷ 114 ∷ 101 ∷ 97 ∷ 100 ∷ 115 ∷ 32 ∷ 54 ∷ 52 ∷ [])) ≡ unknown_words
unfolding put_out line_of said_lines first_bad bad_from said_in verdict_on unknown_in bad_text capped verdict_line lines_of lines_from said said_of said_at hear_all hear silence onward noted words_of words_from hash uncommented is_name is_item same every some worth decimal digits_in pieces
not_too_many = refl
