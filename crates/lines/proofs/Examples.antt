-- Inputs cut into lines, computed.
use mathlib.Core.Path.{◌≡◌, refl}
use mathlib.Core.List.{[], ◌∷◌}
use Rattle.lines.specs.Lines.{lines_from, lines_of}

-- an empty line between two, and a last line with no byte 10
three_lines : lines_of (97 ∷ 10 ∷ 10 ∷ 98 ∷ 99 ∷ []) ≡ (97 ∷ []) ∷ [] ∷ (98 ∷ 99 ∷ []) ∷ []
unfolding lines_of lines_from
three_lines = refl

one_line : lines_of (97 ∷ 10 ∷ []) ≡ (97 ∷ []) ∷ []
unfolding lines_of lines_from
one_line = refl
