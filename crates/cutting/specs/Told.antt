-- "Standard output is one line".
use Rattle.std.specs.Prelude.{ℕ, cond, List, ltb}
use Rattle.piece_lines.specs.Says.{Piece}
use Rattle.line_words.specs.Said.{Said}
use Rattle.told_lines.specs.Lines.{said_in, first_bad, capped, bad_text}
use Rattle.finding_lines.specs.Lines.{verdict_line}
use Rattle.cutting.specs.Chopping.{said_lines, verdict_on}

-- A bad line "comes before the rest, since nothing can be judged then"
unfoldable pub line_of : List (Said Piece) → List ℕ
line_of ss =
    let k = first_bad ss in
    let line = verdict_line (verdict_on (said_in ss)) in
    cond (ltb 0 k) (bad_text (capped k)) line

-- THE PROMISE: what is put out of an input
unfoldable pub put_out : List ℕ → List ℕ
put_out input = line_of (said_lines input)
