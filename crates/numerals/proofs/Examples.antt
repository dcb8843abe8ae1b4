-- Answers' lines, computed.
use mathlib.Core.Path.{◌≡◌, refl}
use mathlib.Core.List.{[], ◌∷◌}
use Rattle.numerals.specs.Print.{digits_in, decimal, followed, answer_line}

-- the last answers of the document's run
an_answer : answer_line (record { code = 0; value = 0; number = 0; looked = 2 }) ≡ 48 ∷ 32 ∷ 48 ∷ 32 ∷ 48 ∷ 32 ∷ 50 ∷ 10 ∷ []
unfolding answer_line followed decimal digits_in
an_answer = refl

great_answer : answer_line (record { code = 10; value = 18446744073709551615; number = 4294967295; looked = 16 }) ≡ 49 ∷ 48 ∷ 32 ∷ 49 ∷ 56 ∷ 52 ∷ 52 ∷ 54 ∷ 55 ∷ 52 ∷ 52 ∷ 48 ∷ 55 ∷ 51 ∷ 55 ∷ 48 ∷ 57 ∷ 53 ∷ 53 ∷ 49 ∷ 54 ∷ 49 ∷ 53 ∷ 32 ∷ 52 ∷ 50 ∷ 57 ∷ 52 ∷ 57 ∷ 54 ∷ 55 ∷ 50 ∷ 57 ∷ 53 ∷ 32 ∷ 49 ∷ 54 ∷ 10 ∷ []
unfolding answer_line followed decimal digits_in
great_answer = refl
