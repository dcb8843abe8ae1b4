-- What a line is read as, word after word: `said`.
use Rattle.std.specs.Prelude.{ℕ, cond, List, [], ◌∷◌, ◌++◌, eqb, length}
use Rattle.numerals.specs.Numbers.{worth}
use Rattle.line_words.specs.Words.{words_of, uncommented, is_name, is_item, same, reads, writes}
use Rattle.line_words.specs.Said.{Said, comment, says, bad}
use Rattle.piece_lines.specs.Says.{Piece, piece}
use Rattle.piece_lines.specs.declared.stages.Stage.{Stage}
use Rattle.piece_lines.specs.declared.stages.Stage.TheVariants.{Nothing, Blank, Named, ToRead, Reading, ToWrite, Writing, Wrong}

-- the stage that a word leads to
unfoldable pub onward : Stage → List ℕ → Stage
onward Nothing w = cond (eqb (length w) 0) Blank (cond (is_name w) Named Wrong)
onward Blank w = Wrong
onward Named w = cond (same w reads) ToRead (cond (same w writes) ToWrite Wrong)
onward ToRead w = cond (is_item w) Reading Wrong
onward Reading w = cond (is_item w) Reading (cond (same w writes) ToWrite Wrong)
onward ToWrite w = cond (is_item w) Writing Wrong
onward Writing w = cond (is_item w) Writing Wrong
onward Wrong w = Wrong

-- what is known of the piece, once a word has led to a stage
unfoldable pub noted : Stage → List ℕ → Piece → Piece
noted Nothing w p = p
noted Blank w p = p
noted Named w p = piece w p.reads p.writes
noted ToRead w p = p
noted Reading w p = piece p.name (p.reads ++ (worth 0 w ∷ [])) p.writes
noted ToWrite w p = p
noted Writing w p = piece p.name p.reads (p.writes ++ (worth 0 w ∷ []))
noted Wrong w p = p

-- how far the words have come, and what they have said of the piece
pub record Heard : Type 0 where
  pub stage : Stage
  pub piece : Piece

abbrev pub heard : Stage → Piece → Heard
heard s p = record { stage = s; piece = p }

unfoldable pub hear : Heard → List ℕ → Heard
hear h w = heard (onward h.stage w) (noted (onward h.stage w) w h.piece)

unfoldable pub hear_all : Heard → List (List ℕ) → Heard
hear_all h [] = h
hear_all h (w ∷ ws) = hear_all (hear h w) ws

-- no word yet
unfoldable pub silence : Heard
silence = heard Nothing (piece [] [] [])

-- no word, or an empty one, is a comment; a part that is begun has to have an item
unfoldable pub said_at : Stage → Piece → Said Piece
said_at Nothing p = comment
said_at Blank p = comment
said_at Named p = says p
said_at ToRead p = bad
said_at Reading p = says p
said_at ToWrite p = bad
said_at Writing p = says p
said_at Wrong p = bad

unfoldable pub said_of : Heard → Said Piece
said_of h = said_at h.stage h.piece

-- what a line says, where it may say a piece
unfoldable pub said : List ℕ → Said Piece
said line = said_of (hear_all silence (uncommented (words_of line)))
