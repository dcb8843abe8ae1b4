-- "operations one a line, in program order: `T1 reads 3` or `T1 writes 4`, with ` !` behind where it may roll back": as a relation
-- between a line and the operation that it says. Names, items and comments are request E9's.
use Rattle.std.specs.Prelude.{ℕ, ◌≡◌, Bool, true, false, List, [], ◌∷◌}
use Rattle.numerals.specs.Numbers.{Numeral}
use Rattle.line_words.specs.Words.{words_of, uncommented, reads, writes}
use Rattle.line_words.specs.Said.{Name}

-- a program's name, the item, whether it is written (or read), and whether the program may roll back there
pub record Operation : Type 0 where
  pub name : List ℕ
  pub item : ℕ
  pub writes : Bool
  pub marked : Bool

abbrev pub operation : List ℕ → ℕ → Bool → Bool → Operation
operation n i w m = record { name = n; item = i; writes = w; marked = m }

-- `reads` or `writes`
abbrev pub verb : Bool → List ℕ
verb true = writes
verb false = reads

-- `!`, or nothing
abbrev pub bang : List ℕ
bang = 33 ∷ []

abbrev pub mark : Bool → List (List ℕ)
mark true = bang ∷ []
mark false = []

pub record Says (line : List ℕ) (o : Operation) : Type 0 where
  pub digits : List ℕ
  pub words : uncommented (words_of line) ≡ o.name ∷ verb o.writes ∷ digits ∷ mark o.marked
  pub named : Name o.name
  pub item : Numeral digits o.item
