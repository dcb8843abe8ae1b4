-- What is replied to a line and to many, and the tables after them.
use Rattle.std.specs.Prelude.{ℕ, List, [], ◌∷◌, ◌++◌, Option, Some, None}
use Rattle.names.specs.Sizes.{base}
use Rattle.rules.specs.Tables.{Tables, fresh}
use Rattle.rules.specs.Answers.{Call}
use Rattle.rules.specs.Step.{step}
use Rattle.numerals.specs.Print.{answer_line, bad_line}
use Rattle.script.specs.Inputs.{parsed_lines}

-- ---- one line

-- "Each call prints its four numbers on a line of their own .. A line that is not one of these is answered `bad`"
unfoldable pub reply_to : Option Call → Tables → List ℕ
reply_to (Some m) G = answer_line (step base m G).answer
reply_to None G = bad_line

-- ".. and calls nothing"
unfoldable pub after_line : Option Call → Tables → Tables
after_line (Some m) G = (step base m G).after
after_line None G = G

-- the bytes of the longest reply: four numbers of 20 digits, each with a byte behind it
abbrev pub longest_reply : ℕ
longest_reply = 84

-- ---- line after line

unfoldable pub after_all : List (Option Call) → Tables → Tables
after_all [] G = G
after_all (p ∷ ps) G = after_all ps (after_line p G)

-- the replies, one behind another
unfoldable pub replies_to : List (Option Call) → Tables → List ℕ
replies_to [] G = []
replies_to (p ∷ ps) G = reply_to p G ++ replies_to ps (after_line p G)

-- ---- a whole input

-- THE PROMISE: the replies to its lines, from fresh tables on
unfoldable pub replies_of : List ℕ → List ℕ
replies_of input = replies_to (parsed_lines input) (fresh base)
