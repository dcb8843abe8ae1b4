-- The operations that a text says, and their programs by number.
use Rattle.std.specs.Prelude.{ℕ, Bool, List, [], ◌∷◌, ◌++◌, map, leb}
use Rattle.lines.specs.Lines.{lines_of}
use Rattle.line_words.specs.Said.{Said}
use Rattle.op_lines.specs.Says.{Operation}
use Rattle.op_lines.specs.Read.{said}
use Rattle.told_lines.specs.Names.{place_of}
use Rattle.finest.specs.Operations as finest

-- what each line of the input says
unfoldable pub said_lines : List ℕ → List (Said Operation)
said_lines input = map said (lines_of input)

-- "an item above 63"
abbrev pub unknown : Operation → Bool
unknown o = leb finest.items o.item

abbrev pub names_of : List Operation → List (List ℕ)
names_of os = map (λ o. o.name) os

-- an operation as it is cut: its program is the place of the first operation with its name; ns are the names of those before it.
-- "Lines of several programs may be mixed: a program's order is that of its own lines"
abbrev pub row_of : List (List ℕ) → Operation → finest.Operation
row_of ns o = record { program = place_of o.name ns; item = o.item; writes = o.writes; marked = o.marked }

unfoldable pub numbered_from : List (List ℕ) → List Operation → List finest.Operation
numbered_from ns [] = []
numbered_from ns (o ∷ os) = row_of ns o ∷ numbered_from (ns ++ (o.name ∷ [])) os

unfoldable pub numbered : List Operation → List finest.Operation
numbered os = numbered_from [] os
