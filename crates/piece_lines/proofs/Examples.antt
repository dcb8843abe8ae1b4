-- Lines and what they say, computed: the corners of the grammar.
use mathlib.Core.Path.{◌≡◌, refl}
use mathlib.Core.List.{[], ◌∷◌}
use Rattle.rules.specs.Words.{every}
use Rattle.numerals.specs.Numbers.{worth}
use Rattle.line_words.specs.Words.{words_from, words_of, hash, uncommented, is_name, is_item, same}
use Rattle.piece_lines.specs.Says.{piece}
use Rattle.piece_lines.specs.Read.{onward, noted, hear, hear_all, silence, said_at, said_of, said}
use Rattle.line_words.specs.Said.{comment, says, bad}

-- the request's own line: `T1 reads 3 4 writes 3`
the_request : said (84 ∷ 49 ∷ 32 ∷ 114 ∷ 101 ∷ 97 ∷ 100 ∷ 115 ∷ 32 ∷ 51 ∷ 32 ∷ 52 ∷ 32 ∷ 119 ∷ 114 ∷ 105 ∷ 116 ∷ 101 ∷ 115 ∷ 32 ∷ 51 ∷ []) ≡ says (piece (84 ∷ 49 ∷ []) (3 ∷ 4 ∷ []) (3 ∷ []))
unfolding said said_of said_at hear_all hear silence onward noted words_of words_from hash uncommented is_name is_item same every worth
the_request = refl

-- a name alone is a piece that touches nothing: `a_B-9`
name-alone : said (97 ∷ 95 ∷ 66 ∷ 45 ∷ 57 ∷ []) ≡ says (piece (97 ∷ 95 ∷ 66 ∷ 45 ∷ 57 ∷ []) [] [])
unfolding said said_of said_at hear_all hear silence onward noted words_of words_from hash uncommented is_name is_item same every worth
name-alone = refl

-- a word of the grammar as a name, leading zeros and a repeat: `reads reads 007 7`
named-reads : said (114 ∷ 101 ∷ 97 ∷ 100 ∷ 115 ∷ 32 ∷ 114 ∷ 101 ∷ 97 ∷ 100 ∷ 115 ∷ 32 ∷ 48 ∷ 48 ∷ 55 ∷ 32 ∷ 55 ∷ []) ≡ says (piece (114 ∷ 101 ∷ 97 ∷ 100 ∷ 115 ∷ []) (7 ∷ 7 ∷ []) [])
unfolding said said_of said_at hear_all hear silence onward noted words_of words_from hash uncommented is_name is_item same every worth
named-reads = refl

-- one part, and a comment that begins with ` #`: `x writes 63 #x`
only-writes : said (120 ∷ 32 ∷ 119 ∷ 114 ∷ 105 ∷ 116 ∷ 101 ∷ 115 ∷ 32 ∷ 54 ∷ 51 ∷ 32 ∷ 35 ∷ 120 ∷ []) ≡ says (piece (120 ∷ []) [] (63 ∷ []))
unfolding said said_of said_at hear_all hear silence onward noted words_of words_from hash uncommented is_name is_item same every worth
only-writes = refl

-- the greatest item: `x reads 18446744073709551615`
greatest-item : said (120 ∷ 32 ∷ 114 ∷ 101 ∷ 97 ∷ 100 ∷ 115 ∷ 32 ∷ 49 ∷ 56 ∷ 52 ∷ 52 ∷ 54 ∷ 55 ∷ 52 ∷ 52 ∷ 48 ∷ 55 ∷ 51 ∷ 55 ∷ 48 ∷ 57 ∷ 53 ∷ 53 ∷ 49 ∷ 54 ∷ 49 ∷ 53 ∷ []) ≡ says (piece (120 ∷ []) (18446744073709551615 ∷ []) [])
unfolding said said_of said_at hear_all hear silence onward noted words_of words_from hash uncommented is_name is_item same every worth
greatest-item = refl

-- a comment behind a space leaves nothing in front: ` # only a comment`
behind_a_space : said (32 ∷ 35 ∷ 32 ∷ 111 ∷ 110 ∷ 108 ∷ 121 ∷ 32 ∷ 97 ∷ 32 ∷ 99 ∷ 111 ∷ 109 ∷ 109 ∷ 101 ∷ 110 ∷ 116 ∷ []) ≡ comment
unfolding said said_of said_at hear_all hear silence onward noted words_of words_from hash uncommented is_name is_item same every worth
behind_a_space = refl

-- no space before the `#`: no name: `T1#x`
hash_in_name : said (84 ∷ 49 ∷ 35 ∷ 120 ∷ []) ≡ bad
unfolding said said_of said_at hear_all hear silence onward noted words_of words_from hash uncommented is_name is_item same every worth
hash_in_name = refl

-- two spaces: `T1  # x`
two_spaces : said (84 ∷ 49 ∷ 32 ∷ 32 ∷ 35 ∷ 32 ∷ 120 ∷ []) ≡ bad
unfolding said said_of said_at hear_all hear silence onward noted words_of words_from hash uncommented is_name is_item same every worth
two_spaces = refl

-- a space behind: `T1 `
space_behind : said (84 ∷ 49 ∷ 32 ∷ []) ≡ bad
unfolding said said_of said_at hear_all hear silence onward noted words_of words_from hash uncommented is_name is_item same every worth
space_behind = refl

-- a space in front: ` T1`
space_before : said (32 ∷ 84 ∷ 49 ∷ []) ≡ bad
unfolding said said_of said_at hear_all hear silence onward noted words_of words_from hash uncommented is_name is_item same every worth
space_before = refl

-- an item that is too great: `x reads 18446744073709551616`
too_great : said (120 ∷ 32 ∷ 114 ∷ 101 ∷ 97 ∷ 100 ∷ 115 ∷ 32 ∷ 49 ∷ 56 ∷ 52 ∷ 52 ∷ 54 ∷ 55 ∷ 52 ∷ 52 ∷ 48 ∷ 55 ∷ 51 ∷ 55 ∷ 48 ∷ 57 ∷ 53 ∷ 53 ∷ 49 ∷ 54 ∷ 49 ∷ 54 ∷ []) ≡ bad
unfolding said said_of said_at hear_all hear silence onward noted words_of words_from hash uncommented is_name is_item same every worth
too_great = refl

-- a part without an item: `T1 reads`
part-alone : said (84 ∷ 49 ∷ 32 ∷ 114 ∷ 101 ∷ 97 ∷ 100 ∷ 115 ∷ []) ≡ bad
unfolding said said_of said_at hear_all hear silence onward noted words_of words_from hash uncommented is_name is_item same every worth
part-alone = refl

-- and with the other part behind it: `T1 reads writes 3`
part_alone_then : said (84 ∷ 49 ∷ 32 ∷ 114 ∷ 101 ∷ 97 ∷ 100 ∷ 115 ∷ 32 ∷ 119 ∷ 114 ∷ 105 ∷ 116 ∷ 101 ∷ 115 ∷ 32 ∷ 51 ∷ []) ≡ bad
unfolding said said_of said_at hear_all hear silence onward noted words_of words_from hash uncommented is_name is_item same every worth
part_alone_then = refl

-- `writes` before `reads`: `T1 writes 3 reads 3`
wrong-order : said (84 ∷ 49 ∷ 32 ∷ 119 ∷ 114 ∷ 105 ∷ 116 ∷ 101 ∷ 115 ∷ 32 ∷ 51 ∷ 32 ∷ 114 ∷ 101 ∷ 97 ∷ 100 ∷ 115 ∷ 32 ∷ 51 ∷ []) ≡ bad
unfolding said said_of said_at hear_all hear silence onward noted words_of words_from hash uncommented is_name is_item same every worth
wrong-order = refl

-- `reads` twice: `T1 reads 3 reads 4`
reads_twice : said (84 ∷ 49 ∷ 32 ∷ 114 ∷ 101 ∷ 97 ∷ 100 ∷ 115 ∷ 32 ∷ 51 ∷ 32 ∷ 114 ∷ 101 ∷ 97 ∷ 100 ∷ 115 ∷ 32 ∷ 52 ∷ []) ≡ bad
unfolding said said_of said_at hear_all hear silence onward noted words_of words_from hash uncommented is_name is_item same every worth
reads_twice = refl

-- a tab is no space
tab : said (84 ∷ 49 ∷ 9 ∷ 114 ∷ 101 ∷ 97 ∷ 100 ∷ 115 ∷ 32 ∷ 51 ∷ []) ≡ bad
unfolding said said_of said_at hear_all hear silence onward noted words_of words_from hash uncommented is_name is_item same every worth
tab = refl

-- a line that ends in a carriage return
return : said (84 ∷ 49 ∷ 13 ∷ []) ≡ bad
unfolding said said_of said_at hear_all hear silence onward noted words_of words_from hash uncommented is_name is_item same every worth
return = refl

-- the longest name: `aaaaaaaaaaaaaaaaaaaaaaaaaaaaaaaa`
name_32 : said (97 ∷ 97 ∷ 97 ∷ 97 ∷ 97 ∷ 97 ∷ 97 ∷ 97 ∷ 97 ∷ 97 ∷ 97 ∷ 97 ∷ 97 ∷ 97 ∷ 97 ∷ 97 ∷ 97 ∷ 97 ∷ 97 ∷ 97 ∷ 97 ∷ 97 ∷ 97 ∷ 97 ∷ 97 ∷ 97 ∷ 97 ∷ 97 ∷ 97 ∷ 97 ∷ 97 ∷ 97 ∷ []) ≡ says (piece (97 ∷ 97 ∷ 97 ∷ 97 ∷ 97 ∷ 97 ∷ 97 ∷ 97 ∷ 97 ∷ 97 ∷ 97 ∷ 97 ∷ 97 ∷ 97 ∷ 97 ∷ 97 ∷ 97 ∷ 97 ∷ 97 ∷ 97 ∷ 97 ∷ 97 ∷ 97 ∷ 97 ∷ 97 ∷ 97 ∷ 97 ∷ 97 ∷ 97 ∷ 97 ∷ 97 ∷ 97 ∷ []) [] [])
unfolding said said_of said_at hear_all hear silence onward noted words_of words_from hash uncommented is_name is_item same every worth
name_32 = refl

-- one byte more: `aaaaaaaaaaaaaaaaaaaaaaaaaaaaaaaaa`
name_33 : said (97 ∷ 97 ∷ 97 ∷ 97 ∷ 97 ∷ 97 ∷ 97 ∷ 97 ∷ 97 ∷ 97 ∷ 97 ∷ 97 ∷ 97 ∷ 97 ∷ 97 ∷ 97 ∷ 97 ∷ 97 ∷ 97 ∷ 97 ∷ 97 ∷ 97 ∷ 97 ∷ 97 ∷ 97 ∷ 97 ∷ 97 ∷ 97 ∷ 97 ∷ 97 ∷ 97 ∷ 97 ∷ 97 ∷ []) ≡ bad
unfolding said said_of said_at hear_all hear silence onward noted words_of words_from hash uncommented is_name is_item same every worth
name_33 = refl

-- an item behind the name: `reads 7`
name_then_item : said (114 ∷ 101 ∷ 97 ∷ 100 ∷ 115 ∷ 32 ∷ 55 ∷ []) ≡ bad
unfolding said said_of said_at hear_all hear silence onward noted words_of words_from hash uncommented is_name is_item same every worth
name_then_item = refl
