-- What the lines of an input are read as, whole and chunk by chunk.
use Rattle.std.specs.Prelude.{ℕ, cond, List, [], ◌∷◌, ◌++◌, map, eqb, Option, None}
use Rattle.lines.specs.Lines.{Held, short, long, more, begun, left, lines_of}
use Rattle.script.specs.Parse.{parsed}
use Rattle.rules.specs.Answers.{Call}

-- what each line of the input is read as
unfoldable pub parsed_lines : List ℕ → List (Option Call)
parsed_lines input = map parsed (lines_of input)

-- what is kept of a line is read as; one that is too long is bad
unfoldable pub read_as : Held → Option Call
read_as (short l) = parsed l
read_as long = None

-- ---- chunk after chunk

-- what the lines that end in a chunk are read as
unfoldable pub reads : Held → List ℕ → List (Option Call)
reads h [] = []
reads h (b ∷ bs) =
    let next = reads (short []) bs in
    let on = reads (more h b) bs in
    cond (eqb b 10) (read_as h ∷ next) on

-- the end of input ends a line that is begun
unfoldable pub last : Held → List (Option Call)
last h = cond (begun h) (read_as h ∷ []) []

unfoldable pub chunked : Held → List (List ℕ) → List (Option Call)
chunked h [] = last h
chunked h (c ∷ cs) = reads h c ++ chunked (left h c) cs
