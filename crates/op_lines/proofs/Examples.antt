-- Lines and what they say, computed: the corners of the grammar.
use mathlib.Core.Path.{◌≡◌, refl}
use mathlib.Core.Bool.{true, false}
use mathlib.Core.List.{[], ◌∷◌}
use Rattle.rules.specs.Words.{every}
use Rattle.numerals.specs.Numbers.{worth}
use Rattle.line_words.specs.Words.{words_from, words_of, hash, uncommented, is_name, is_item, same}
use Rattle.line_words.specs.Said.{comment, says, bad}
use Rattle.op_lines.specs.Says.{operation}
use Rattle.op_lines.specs.Read.{onward, noted, hear, hear_all, silence, said_at, said_of, said}

-- the request's own lines: `T1 reads 3` and `T1 writes 4`
reads : said (84 ∷ 49 ∷ 32 ∷ 114 ∷ 101 ∷ 97 ∷ 100 ∷ 115 ∷ 32 ∷ 51 ∷ []) ≡ says (operation (84 ∷ 49 ∷ []) 3 false false)
unfolding said said_of said_at hear_all hear silence onward noted words_of words_from hash uncommented is_name is_item same every worth
reads = refl

writes_one : said (84 ∷ 49 ∷ 32 ∷ 119 ∷ 114 ∷ 105 ∷ 116 ∷ 101 ∷ 115 ∷ 32 ∷ 52 ∷ []) ≡ says (operation (84 ∷ 49 ∷ []) 4 true false)
unfolding said said_of said_at hear_all hear silence onward noted words_of words_from hash uncommented is_name is_item same every worth
writes_one = refl

-- and with ` !` behind
marked : said (84 ∷ 49 ∷ 32 ∷ 119 ∷ 114 ∷ 105 ∷ 116 ∷ 101 ∷ 115 ∷ 32 ∷ 52 ∷ 32 ∷ 33 ∷ []) ≡ says (operation (84 ∷ 49 ∷ []) 4 true true)
unfolding said said_of said_at hear_all hear silence onward noted words_of words_from hash uncommented is_name is_item same every worth
marked = refl

-- a comment behind the mark: `a_B-9 reads 007 ! # x`
then_comment : said (97 ∷ 95 ∷ 66 ∷ 45 ∷ 57 ∷ 32 ∷ 114 ∷ 101 ∷ 97 ∷ 100 ∷ 115 ∷ 32 ∷ 48 ∷ 48 ∷ 55 ∷ 32 ∷ 33 ∷ 32 ∷ 35 ∷ 32 ∷ 120 ∷ []) ≡ says (operation (97 ∷ 95 ∷ 66 ∷ 45 ∷ 57 ∷ []) 7 false true)
unfolding said said_of said_at hear_all hear silence onward noted words_of words_from hash uncommented is_name is_item same every worth
then_comment = refl

-- a mark that is no comment's part, and one that is: `T reads 1 #!`
mark_in_comment : said (84 ∷ 32 ∷ 114 ∷ 101 ∷ 97 ∷ 100 ∷ 115 ∷ 32 ∷ 49 ∷ 32 ∷ 35 ∷ 33 ∷ []) ≡ says (operation (84 ∷ []) 1 false false)
unfolding said said_of said_at hear_all hear silence onward noted words_of words_from hash uncommented is_name is_item same every worth
mark_in_comment = refl

-- a word of the grammar as a name: `writes writes 9`
named-writes : said (119 ∷ 114 ∷ 105 ∷ 116 ∷ 101 ∷ 115 ∷ 32 ∷ 119 ∷ 114 ∷ 105 ∷ 116 ∷ 101 ∷ 115 ∷ 32 ∷ 57 ∷ []) ≡ says (operation (119 ∷ 114 ∷ 105 ∷ 116 ∷ 101 ∷ 115 ∷ []) 9 true false)
unfolding said said_of said_at hear_all hear silence onward noted words_of words_from hash uncommented is_name is_item same every worth
named-writes = refl

-- the greatest item, and one more
greatest-item : said (120 ∷ 32 ∷ 114 ∷ 101 ∷ 97 ∷ 100 ∷ 115 ∷ 32 ∷ 49 ∷ 56 ∷ 52 ∷ 52 ∷ 54 ∷ 55 ∷ 52 ∷ 52 ∷ 48 ∷ 55 ∷ 51 ∷ 55 ∷ 48 ∷ 57 ∷ 53 ∷ 53 ∷ 49 ∷ 54 ∷ 49 ∷ 53 ∷ []) ≡ says (operation (120 ∷ []) 18446744073709551615 false false)
unfolding said said_of said_at hear_all hear silence onward noted words_of words_from hash uncommented is_name is_item same every worth
greatest-item = refl

too_great : said (120 ∷ 32 ∷ 114 ∷ 101 ∷ 97 ∷ 100 ∷ 115 ∷ 32 ∷ 49 ∷ 56 ∷ 52 ∷ 52 ∷ 54 ∷ 55 ∷ 52 ∷ 52 ∷ 48 ∷ 55 ∷ 51 ∷ 55 ∷ 48 ∷ 57 ∷ 53 ∷ 53 ∷ 49 ∷ 54 ∷ 49 ∷ 54 ∷ []) ≡ bad
unfolding said said_of said_at hear_all hear silence onward noted words_of words_from hash uncommented is_name is_item same every worth
too_great = refl

-- exactly one item: `T1 reads 3 4`, `T1 reads`
two_items : said (84 ∷ 49 ∷ 32 ∷ 114 ∷ 101 ∷ 97 ∷ 100 ∷ 115 ∷ 32 ∷ 51 ∷ 32 ∷ 52 ∷ []) ≡ bad
unfolding said said_of said_at hear_all hear silence onward noted words_of words_from hash uncommented is_name is_item same every worth
two_items = refl

no_item : said (84 ∷ 49 ∷ 32 ∷ 114 ∷ 101 ∷ 97 ∷ 100 ∷ 115 ∷ []) ≡ bad
unfolding said said_of said_at hear_all hear silence onward noted words_of words_from hash uncommented is_name is_item same every worth
no_item = refl

-- a name alone is nothing that is allowed here
name-alone : said (84 ∷ 49 ∷ []) ≡ bad
unfolding said said_of said_at hear_all hear silence onward noted words_of words_from hash uncommented is_name is_item same every worth
name-alone = refl

-- both at once: `T1 reads 3 writes 4`
both : said (84 ∷ 49 ∷ 32 ∷ 114 ∷ 101 ∷ 97 ∷ 100 ∷ 115 ∷ 32 ∷ 51 ∷ 32 ∷ 119 ∷ 114 ∷ 105 ∷ 116 ∷ 101 ∷ 115 ∷ 32 ∷ 52 ∷ []) ≡ bad
unfolding said said_of said_at hear_all hear silence onward noted words_of words_from hash uncommented is_name is_item same every worth
both = refl

-- the mark in another place, twice, and without its space
mark-first : said (84 ∷ 49 ∷ 32 ∷ 33 ∷ 32 ∷ 114 ∷ 101 ∷ 97 ∷ 100 ∷ 115 ∷ 32 ∷ 51 ∷ []) ≡ bad
unfolding said said_of said_at hear_all hear silence onward noted words_of words_from hash uncommented is_name is_item same every worth
mark-first = refl

mark_twice : said (84 ∷ 49 ∷ 32 ∷ 114 ∷ 101 ∷ 97 ∷ 100 ∷ 115 ∷ 32 ∷ 51 ∷ 32 ∷ 33 ∷ 32 ∷ 33 ∷ []) ≡ bad
unfolding said said_of said_at hear_all hear silence onward noted words_of words_from hash uncommented is_name is_item same every worth
mark_twice = refl

mark_close : said (84 ∷ 49 ∷ 32 ∷ 114 ∷ 101 ∷ 97 ∷ 100 ∷ 115 ∷ 32 ∷ 51 ∷ 33 ∷ []) ≡ bad
unfolding said said_of said_at hear_all hear silence onward noted words_of words_from hash uncommented is_name is_item same every worth
mark_close = refl

-- two spaces, a space behind, one in front
two_spaces : said (84 ∷ 49 ∷ 32 ∷ 32 ∷ 114 ∷ 101 ∷ 97 ∷ 100 ∷ 115 ∷ 32 ∷ 51 ∷ []) ≡ bad
unfolding said said_of said_at hear_all hear silence onward noted words_of words_from hash uncommented is_name is_item same every worth
two_spaces = refl

space_behind : said (84 ∷ 49 ∷ 32 ∷ 114 ∷ 101 ∷ 97 ∷ 100 ∷ 115 ∷ 32 ∷ 51 ∷ 32 ∷ []) ≡ bad
unfolding said said_of said_at hear_all hear silence onward noted words_of words_from hash uncommented is_name is_item same every worth
space_behind = refl

space_before : said (32 ∷ 84 ∷ 49 ∷ 32 ∷ 114 ∷ 101 ∷ 97 ∷ 100 ∷ 115 ∷ 32 ∷ 51 ∷ []) ≡ bad
unfolding said said_of said_at hear_all hear silence onward noted words_of words_from hash uncommented is_name is_item same every worth
space_before = refl

-- a comment behind one space leaves nothing in front
behind_a_space : said (32 ∷ 35 ∷ 32 ∷ 120 ∷ []) ≡ comment
unfolding said said_of said_at hear_all hear silence onward noted words_of words_from hash uncommented is_name is_item same every worth
behind_a_space = refl
