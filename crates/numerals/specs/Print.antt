-- How numbers and answers are printed: `decimal`, `followed`, `spaced`, `answer_line`, `bad_line`.
use Rattle.std.specs.Prelude.{ℕ, zero, suc, ◌+◌, ◌/◌, ◌%◌, ◌≤◌, cond, List, [], ◌∷◌, ◌++◌, ltb}
use Rattle.names.specs.declared.Answer.{Answer}
use Rattle.numerals.specs.Numbers.{greatest}

-- a number below 10 is its digit; any other is its tenth, and then its last digit. At most f digits.
unfoldable pub digits_in : ℕ → ℕ → List ℕ
digits_in zero n = []
digits_in (suc f) n = let tens = digits_in f (n / 10) in cond (ltb n 10) ((48 + n) ∷ []) (tens ++ ((48 + n % 10) ∷ []))

-- a word in decimal: no word has more than 20 digits
unfoldable pub decimal : ℕ → List ℕ
decimal n = digits_in 20 n

-- a number and the byte after it
unfoldable pub followed : ℕ → ℕ → List ℕ
followed n b = decimal n ++ (b ∷ [])

-- "Each call prints its four numbers on a line of their own, single spaces between."
unfoldable pub answer_line : Answer → List ℕ
answer_line a = followed a.code 32 ++ (followed a.value 32 ++ (followed a.number 32 ++ followed a.looked 10))

-- "A line that is not one of these is answered `bad`"
abbrev pub bad_line : List ℕ
bad_line = 98 ∷ 97 ∷ 100 ∷ 10 ∷ []

-- a space before each number
unfoldable pub spaced : List ℕ → List ℕ
spaced [] = []
spaced (n ∷ ns) = 32 ∷ (decimal n ++ spaced ns)

-- words: numbers up to 18,446,744,073,709,551,615
pub data Words : List ℕ → Type 0 where
  none : Words []
  more : {n : ℕ} {ns : List ℕ} → n ≤ greatest → Words ns → Words (n ∷ ns)
