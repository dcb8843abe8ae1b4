-- What is put out of a text of whole programs.
use Rattle.std.specs.Prelude.{ℕ, cond, List, [], ◌∷◌, ltb, length, get_or}
use Rattle.rules.specs.Words.{some}
use Rattle.line_words.specs.Said.{Said}
use Rattle.op_lines.specs.Says.{Operation}
use Rattle.told_lines.specs.Lines.{said_in, first_bad, capped, bad_text, unknown_words}
use Rattle.finest.specs.Operations as finest
use Rattle.finest.specs.Finest.{finest_cut}
use Rattle.cut_lines.specs.Text.{cut_text}
use Rattle.fining.specs.Programs.{said_lines, unknown, names_of, numbered}

-- `too many operations`
abbrev pub too_many_words : List ℕ
too_many_words = 116 ∷ 111 ∷ 111 ∷ 32 ∷ 109 ∷ 97 ∷ 110 ∷ 121 ∷ 32 ∷ 111 ∷ 112 ∷ 101 ∷ 114 ∷ 97 ∷ 116 ∷ 105 ∷ 111 ∷ 110 ∷ 115 ∷ 10 ∷ []

-- the pieces of the finest cut, one a line
unfoldable pub pieces_text : List Operation → List ℕ
pieces_text os = cut_text (λ i. get_or (names_of os) i []) (numbered os) (finest_cut (numbered os))

-- "`too many operations`, `unknown item` .. otherwise, in E9's order"
unfoldable pub found_text : List Operation → List ℕ
found_text os =
    let pieces = pieces_text os in
    cond (ltb finest.most (length os)) too_many_words (cond (some unknown os) unknown_words pieces)

-- a bad line comes before the rest, since nothing can be cut then
unfoldable pub text_of : List (Said Operation) → List ℕ
text_of ss =
    let k = first_bad ss in
    let found = found_text (said_in ss) in
    cond (ltb 0 k) (bad_text (capped k)) found

-- THE PROMISE: what is put out of an input
unfoldable pub put_out : List ℕ → List ℕ
put_out input = text_of (said_lines input)
