-- The one line that is printed of a file: `accepted`, or the point that fails, and for point 4 the first wrong call.
use Rattle.std.specs.Prelude.{ℕ, List, [], ◌∷◌, ◌++◌}
use Rattle.numerals.specs.Print.{decimal}
use Rattle.judge.specs.declared.Verdict.{Verdict}
use Rattle.judge.specs.declared.Verdict.TheVariants.{Accepted, Short, Unequal, LeftOver, Wrong}

-- the longest line: two bytes, a number of 20 digits, and the line's end
abbrev pub longest : ℕ
longest = 23

abbrev pub accepted_line : List ℕ
accepted_line = 97 ∷ 99 ∷ 99 ∷ 101 ∷ 112 ∷ 116 ∷ 101 ∷ 100 ∷ 10 ∷ []

-- a digit, and the end of the line
abbrev pub point_line : ℕ → List ℕ
point_line digit = digit ∷ 10 ∷ []

-- the digit of point 4, and the call
abbrev pub wrong_line : ℕ → List ℕ
wrong_line k = 52 ∷ 32 ∷ (decimal k ++ (10 ∷ []))

unfoldable pub verdict_line : Verdict → List ℕ
verdict_line Accepted = accepted_line
verdict_line Short = point_line 49
verdict_line Unequal = point_line 50
verdict_line LeftOver = point_line 51
verdict_line (Wrong k) = wrong_line k
