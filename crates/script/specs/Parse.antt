-- What a line is read as: `parsed`.
use Rattle.std.specs.Prelude.{ℕ, cond, List, [], ◌∷◌, leb, length, drop, Option, Some, None}
use Rattle.rules.specs.Answers as rules
use Rattle.numerals.specs.Numbers.{Read, upto, no, number}
use Rattle.script.specs.Words.{starts}
use Rattle.script.specs.Words as words

-- nothing may follow
unfoldable pub bare_of : rules.Call → List ℕ → Option rules.Call
bare_of c [] = Some c
bare_of c (b ∷ bs) = None

-- a number must follow
abbrev pub and_then : Read → (ℕ → List ℕ → Option rules.Call) → Option rules.Call
and_then (upto n rest) f = f n rest
and_then no f = None

-- one number, two, three, and nothing more
unfoldable pub one_of : (ℕ → rules.Call) → List ℕ → Option rules.Call
one_of c bs = and_then (number bs) (λ n end. bare_of (c n) end)

unfoldable pub two_of : (ℕ → ℕ → rules.Call) → List ℕ → Option rules.Call
two_of c bs = and_then (number bs) (λ n rest. one_of (c n) rest)

unfoldable pub three_of : (ℕ → ℕ → ℕ → rules.Call) → List ℕ → Option rules.Call
three_of c bs = and_then (number bs) (λ n rest. two_of (c n) rest)

-- a word, and how what follows it is read
pub record Spelled : Type 0 where
  pub word : List ℕ
  pub rest : List ℕ → Option rules.Call

-- the eight words, each with its numbers
abbrev pub spelled : List Spelled
spelled =
    record { word = words.update; rest = bare_of rules.BeginUpdate }
    ∷ record { word = words.query; rest = bare_of rules.BeginQuery }
    ∷ record { word = words.read; rest = two_of (λ n x. rules.Read n x) }
    ∷ record { word = words.write; rest = three_of (λ n x v. rules.Write n x v) }
    ∷ record { word = words.commit; rest = one_of (λ n. rules.Commit n) }
    ∷ record { word = words.abort; rest = one_of (λ n. rules.Abort n) }
    ∷ record { word = words.settle; rest = one_of (λ n. rules.Settle n) }
    ∷ record { word = words.relaxed; rest = bare_of rules.BeginRelaxed }
    ∷ []

-- the first of them that the line starts with
unfoldable pub first_of : List Spelled → List ℕ → Option rules.Call
first_of [] l = None
first_of (w ∷ ws) l = let next = first_of ws l in cond (starts w.word l) (w.rest (drop (length w.word) l)) next

unfoldable pub spoken : List ℕ → Option rules.Call
spoken l = first_of spelled l

-- "lines of at most 80 bytes"; a longer one is bad
unfoldable pub parsed : List ℕ → Option rules.Call
parsed l = cond (leb (length l) 80) (spoken l) None
