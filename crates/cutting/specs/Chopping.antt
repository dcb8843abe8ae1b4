-- The pieces that a text says, and the verdict on them.
use Rattle.std.specs.Prelude.{ℕ, cond, List, [], ◌∷◌, ◌++◌, map, ltb, length}
use Rattle.rules.specs.Words.{some}
use Rattle.lines.specs.Lines.{lines_of}
use Rattle.piece_lines.specs.Says.{Piece}
use Rattle.piece_lines.specs.Read.{said}
use Rattle.line_words.specs.Said.{Said}
use Rattle.piece_lines.specs.Items.{word_of, unknown_in}
use Rattle.told_lines.specs.Names.{place_of}
use Rattle.chop.specs.Pieces as chop
use Rattle.chop.specs.Verdicts.{Verdict, too_many_pieces, unknown_item}
use Rattle.chop.specs.Judgement.{judgement}

-- what each line of the input says
unfoldable pub said_lines : List ℕ → List (Said Piece)
said_lines input = map said (lines_of input)

-- a piece as it is judged: its transaction is the place of the first piece with its name; ns are the names of those before it
abbrev pub row_of : List (List ℕ) → Piece → chop.Piece
row_of ns p = record { transaction = place_of p.name ns; reads = word_of p.reads; writes = word_of p.writes }

unfoldable pub chopped_from : List (List ℕ) → List Piece → List chop.Piece
chopped_from ns [] = []
chopped_from ns (p ∷ ps) = row_of ns p ∷ chopped_from (ns ++ (p.name ∷ [])) ps

unfoldable pub chopped : List Piece → List chop.Piece
chopped ps = chopped_from [] ps

-- "then too many pieces, then unknown item, then the circle"
unfoldable pub verdict_on : List Piece → Verdict
verdict_on ps =
    cond (ltb chop.most (length ps)) too_many_pieces (cond (some unknown_in ps) unknown_item (judgement (chopped ps)))
