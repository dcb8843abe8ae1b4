-- What is put out of small inputs, computed.
use Prim.Native.Nat.{ℕ, zero, suc}
use mathlib.Core.Path.{◌≡◌, refl}
use mathlib.Core.List.{List, [], ◌∷◌, ◌++◌}
use Rattle.rules.specs.Words.{every, some, tabulate_from, first_from, some_below, bit}
use Rattle.numerals.specs.Numbers.{worth}
use Rattle.numerals.specs.Print.{decimal, digits_in, spaced}
use Rattle.lines.specs.Lines.{lines_from, lines_of}
use Rattle.line_words.specs.Words.{words_from, words_of, hash, uncommented, is_name, is_item, same}
use Rattle.op_lines.specs.Read.{onward, noted, hear, hear_all, silence, said_at, said_of, said}
use Rattle.told_lines.specs.Lines.{said_in, bad_from, first_bad, capped, bad_text, unknown_words}
use Rattle.told_lines.specs.Names.{place_of}
use Rattle.graph.specs.Sets.{those, meets, lowest}
use Rattle.graph.specs.Near.{grown, near, joined}
use Rattle.finest.specs.Operations.{may_undo, one_block, conflicting}
use Rattle.finest.specs.Finest.{linked_for, links_for, all, piece_at, finest_cut}
use Rattle.finest.specs.Choppings.{together, leads, passing, leaders, touched, touches, piece_by}
use Rattle.cut_lines.specs.Text.{items_in, part_text, items_text, places_text, piece_line, places_of, line_at, lines_at, cut_text}
use Rattle.fining.specs.Programs.{said_lines, numbered_from, numbered}
use Rattle.fining.specs.Told.{too_many_words, pieces_text, found_text, text_of, put_out}

-- so many operations, one a line
operations : ℕ → List ℕ
operations zero = []
operations (suc n) = 97 ∷ 32 ∷ 114 ∷ 101 ∷ 97 ∷ 100 ∷ 115 ∷ 32 ∷ 49 ∷ 10 ∷ operations n

-- the request's own line: `T1 reads 3 writes 4 # 1 3`, for T1's two operations with another program's between them
the_request : put_out (84 ∷ 49 ∷ 32 ∷ 114 ∷ 101 ∷ 97 ∷ 100 ∷ 115 ∷ 32 ∷ 51 ∷ 10 ∷ 85 ∷ 32 ∷ 114 ∷ 101 ∷ 97 ∷ 100 ∷ 115 ∷ 32 ∷ 57 ∷ 10 ∷ 84 ∷ 49 ∷ 32 ∷ 119 ∷ 114 ∷ 105 ∷ 116 ∷ 101 ∷ 115 ∷ 32 ∷ 52 ∷ 32 ∷ 33 ∷ 10 ∷ []) ≡ (84 ∷ 49 ∷ 32 ∷ 114 ∷ 101 ∷ 97 ∷ 100 ∷ 115 ∷ 32 ∷ 51 ∷ 32 ∷ 119 ∷ 114 ∷ 105 ∷ 116 ∷ 101 ∷ 115 ∷ 32 ∷ 52 ∷ 32 ∷ 35 ∷ 32 ∷ 49 ∷ 32 ∷ 51 ∷ 10 ∷ 85 ∷ 32 ∷ 114 ∷ 101 ∷ 97 ∷ 100 ∷ 115 ∷ 32 ∷ 57 ∷ 32 ∷ 35 ∷ 32 ∷ 50 ∷ 10 ∷ [])
unfolding put_out text_of found_text pieces_text said_lines first_bad bad_from said_in numbered numbered_from place_of bad_text capped lines_of lines_from said said_of said_at hear_all hear silence onward noted words_of words_from hash uncommented is_name is_item same every some worth decimal digits_in spaced cut_text lines_at line_at piece_line items_text places_text places_of part_text items_in tabulate_from first_from some_below bit those lowest grown near joined meets may_undo one_block conflicting linked_for links_for all piece_at finest_cut together leads passing leaders touched touches piece_by
the_request = refl

-- an item that is read and written stands in both parts; items rise, each once
both_parts : put_out (97 ∷ 32 ∷ 114 ∷ 101 ∷ 97 ∷ 100 ∷ 115 ∷ 32 ∷ 57 ∷ 10 ∷ 97 ∷ 32 ∷ 119 ∷ 114 ∷ 105 ∷ 116 ∷ 101 ∷ 115 ∷ 32 ∷ 50 ∷ 10 ∷ 97 ∷ 32 ∷ 114 ∷ 101 ∷ 97 ∷ 100 ∷ 115 ∷ 32 ∷ 50 ∷ 10 ∷ 97 ∷ 32 ∷ 114 ∷ 101 ∷ 97 ∷ 100 ∷ 115 ∷ 32 ∷ 57 ∷ 32 ∷ 33 ∷ []) ≡ (97 ∷ 32 ∷ 114 ∷ 101 ∷ 97 ∷ 100 ∷ 115 ∷ 32 ∷ 50 ∷ 32 ∷ 57 ∷ 32 ∷ 119 ∷ 114 ∷ 105 ∷ 116 ∷ 101 ∷ 115 ∷ 32 ∷ 50 ∷ 32 ∷ 35 ∷ 32 ∷ 49 ∷ 32 ∷ 50 ∷ 32 ∷ 51 ∷ 32 ∷ 52 ∷ 10 ∷ [])
unfolding put_out text_of found_text pieces_text said_lines first_bad bad_from said_in numbered numbered_from place_of bad_text capped lines_of lines_from said said_of said_at hear_all hear silence onward noted words_of words_from hash uncommented is_name is_item same every some worth decimal digits_in spaced cut_text lines_at line_at piece_line items_text places_text places_of part_text items_in tabulate_from first_from some_below bit those lowest grown near joined meets may_undo one_block conflicting linked_for links_for all piece_at finest_cut together leads passing leaders touched touches piece_by
both_parts = refl

-- empty input puts out nothing, and so do comments
nothing : put_out [] ≡ []
unfolding put_out text_of found_text pieces_text said_lines first_bad bad_from said_in numbered numbered_from place_of bad_text capped lines_of lines_from said said_of said_at hear_all hear silence onward noted words_of words_from hash uncommented is_name is_item same every some worth decimal digits_in spaced cut_text lines_at line_at piece_line items_text places_text places_of part_text items_in tabulate_from first_from some_below bit those lowest grown near joined meets may_undo one_block conflicting linked_for links_for all piece_at finest_cut together leads passing leaders touched touches piece_by
nothing = refl

comments : put_out (35 ∷ 32 ∷ 120 ∷ 10 ∷ 10 ∷ 32 ∷ 35 ∷ 32 ∷ 121 ∷ []) ≡ []
unfolding put_out text_of found_text pieces_text said_lines first_bad bad_from said_in numbered numbered_from place_of bad_text capped lines_of lines_from said said_of said_at hear_all hear silence onward noted words_of words_from hash uncommented is_name is_item same every some worth decimal digits_in spaced cut_text lines_at line_at piece_line items_text places_text places_of part_text items_in tabulate_from first_from some_below bit those lowest grown near joined meets may_undo one_block conflicting linked_for links_for all piece_at finest_cut together leads passing leaders touched touches piece_by
comments = refl

-- lines are counted with comments, and a last line may have no byte 10
bad-line : put_out (35 ∷ 32 ∷ 120 ∷ 10 ∷ 10 ∷ 97 ∷ 32 ∷ 114 ∷ 101 ∷ 97 ∷ 100 ∷ 115 ∷ 32 ∷ 49 ∷ 10 ∷ 97 ∷ 32 ∷ 114 ∷ 101 ∷ 97 ∷ 100 ∷ 115 ∷ []) ≡ (98 ∷ 97 ∷ 100 ∷ 32 ∷ 108 ∷ 105 ∷ 110 ∷ 101 ∷ 32 ∷ 52 ∷ 10 ∷ [])
unfolding put_out text_of found_text pieces_text said_lines first_bad bad_from said_in numbered numbered_from place_of bad_text capped lines_of lines_from said said_of said_at hear_all hear silence onward noted words_of words_from hash uncommented is_name is_item same every some worth decimal digits_in spaced cut_text lines_at line_at piece_line items_text places_text places_of part_text items_in tabulate_from first_from some_below bit those lowest grown near joined meets may_undo one_block conflicting linked_for links_for all piece_at finest_cut together leads passing leaders touched touches piece_by
bad-line = refl

-- item 64
item_64 : put_out (97 ∷ 32 ∷ 114 ∷ 101 ∷ 97 ∷ 100 ∷ 115 ∷ 32 ∷ 54 ∷ 51 ∷ 10 ∷ 97 ∷ 32 ∷ 114 ∷ 101 ∷ 97 ∷ 100 ∷ 115 ∷ 32 ∷ 54 ∷ 52 ∷ 10 ∷ []) ≡ unknown_words
unfolding put_out text_of found_text pieces_text said_lines first_bad bad_from said_in numbered numbered_from place_of bad_text capped lines_of lines_from said said_of said_at hear_all hear silence onward noted words_of words_from hash uncommented is_name is_item same every some worth decimal digits_in spaced cut_text lines_at line_at piece_line items_text places_text places_of part_text items_in tabulate_from first_from some_below bit those lowest grown near joined meets may_undo one_block conflicting linked_for links_for all piece_at finest_cut together leads passing leaders touched touches piece_by
item_64 = refl

-- 33 operations, with an unknown item among them; and with a bad line
too_many_lem : put_out (operations 32 ++ (97 ∷ 32 ∷ 114 ∷ 101 ∷ 97 ∷ 100 ∷ 115 ∷ 32 ∷ 54 ∷ 52 ∷ [])) ≡ too_many_words
unfolding put_out text_of found_text pieces_text said_lines first_bad bad_from said_in numbered numbered_from place_of bad_text capped lines_of lines_from said said_of said_at hear_all hear silence onward noted words_of words_from hash uncommented is_name is_item same every some worth decimal digits_in spaced cut_text lines_at line_at piece_line items_text places_text places_of part_text items_in tabulate_from first_from some_below bit those lowest grown near joined meets may_undo one_block conflicting linked_for links_for all piece_at finest_cut together leads passing leaders touched touches piece_by operations
too_many_lem = refl

bad-first : put_out (operations 33 ++ (97 ∷ 32 ∷ 114 ∷ 101 ∷ 97 ∷ 100 ∷ 115 ∷ 32 ∷ 54 ∷ 52 ∷ 32 ∷ 54 ∷ 52 ∷ [])) ≡ (98 ∷ 97 ∷ 100 ∷ 32 ∷ 108 ∷ 105 ∷ 110 ∷ 101 ∷ 32 ∷ 51 ∷ 52 ∷ 10 ∷ [])
unfolding put_out text_of found_text pieces_text said_lines first_bad bad_from said_in numbered numbered_from place_of bad_text capped lines_of lines_from said said_of said_at hear_all hear silence onward noted words_of words_from hash uncommented is_name is_item same every some worth decimal digits_in spaced cut_text lines_at line_at piece_line items_text places_text places_of part_text items_in tabulate_from first_from some_below bit those lowest grown near joined meets may_undo one_block conflicting linked_for links_for all piece_at finest_cut together leads passing leaders touched touches piece_by operations
bad-first = refl
