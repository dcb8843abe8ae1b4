-- What a line is read as, word after word: `said`.
use Rattle.std.specs.Prelude.{ℕ, true, false, cond, ◌||◌, List, [], ◌∷◌, eqb, length}
use Rattle.numerals.specs.Numbers.{worth}
use Rattle.line_words.specs.Words.{words_of, uncommented, is_name, is_item, same, reads, writes}
use Rattle.line_words.specs.Said.{Said, comment, says, bad}
use Rattle.op_lines.specs.Says.{Operation, operation, bang}
use Rattle.op_lines.specs.declared.stages.Stage.{Stage}
use Rattle.op_lines.specs.declared.stages.Stage.TheVariants.{Nothing, Blank, Named, Doing, Touched, Marked, Wrong}

-- the stage that a word leads to
unfoldable pub onward : Stage → List ℕ → Stage
onward Nothing w = cond (eqb (length w) 0) Blank (cond (is_name w) Named Wrong)
onward Blank w = Wrong
onward Named w = cond (same w reads || same w writes) Doing Wrong
onward Doing w = cond (is_item w) Touched Wrong
onward Touched w = cond (same w bang) Marked Wrong
onward Marked w = Wrong
onward Wrong w = Wrong

-- what is known of the operation, once a word has led to a stage
unfoldable pub noted : Stage → List ℕ → Operation → Operation
noted Nothing w o = o
noted Blank w o = o
noted Named w o = operation w o.item o.writes o.marked
noted Doing w o = operation o.name o.item (same w writes) o.marked
noted Touched w o = operation o.name (worth 0 w) o.writes o.marked
noted Marked w o = operation o.name o.item o.writes true
noted Wrong w o = o

-- how far the words have come, and what they have said of the operation
pub record Heard : Type 0 where
  pub stage : Stage
  pub operation : Operation

abbrev pub heard : Stage → Operation → Heard
heard s o = record { stage = s; operation = o }

unfoldable pub hear : Heard → List ℕ → Heard
hear h w = heard (onward h.stage w) (noted (onward h.stage w) w h.operation)

unfoldable pub hear_all : Heard → List (List ℕ) → Heard
hear_all h [] = h
hear_all h (w ∷ ws) = hear_all (hear h w) ws

-- no word yet
unfoldable pub silence : Heard
silence = heard Nothing (operation [] 0 false false)

-- no word, or an empty one, is a comment; an operation has its item
unfoldable pub said_at : Stage → Operation → Said Operation
said_at Nothing o = comment
said_at Blank o = comment
said_at Named o = bad
said_at Doing o = bad
said_at Touched o = says o
said_at Marked o = says o
said_at Wrong o = bad

unfoldable pub said_of : Heard → Said Operation
said_of h = said_at h.stage h.operation

-- what a line says, where it may say an operation
unfoldable pub said : List ℕ → Said Operation
said line = said_of (hear_all silence (uncommented (words_of line)))
