-- What the structs keep of a line that is not ended yet, and what they tell of one that is.
use Rattle.std.specs.Prelude.{ℕ, ◌≡◌, List}
use Rattle.line_words.specs.Speech.{spoken, ended_in}
use Rattle.line_words.specs.Held.{padded, Hears}
use Rattle.line_words.specs.Said.{Said, comment, says, bad}
use Rattle.piece_lines.specs.Says.{Piece}
use Rattle.piece_lines.specs.Items.{word_of, unknown_in}
use Rattle.piece_lines.specs.Read.{Heard, hear_all, silence}
use Rattle.piece_lines.specs.declared.stages.Noted.{Noted}
use Rattle.piece_lines.specs.declared.stages.Stage.{Stage}
use Rattle.piece_lines.specs.declared.stages.Stage.TheVariants.{Nothing, Blank, Named, ToRead, Reading, ToWrite, Writing, Wrong}
use Rattle.piece_lines.specs.declared.Line.{Line}
use Rattle.piece_lines.specs.declared.Told.{Told}
use Rattle.piece_lines.specs.declared.Told.TheVariants.{Comment, Piece as APiece, Bad}
use Rattle.piece_lines.specs.declared.Ended.{Ended}

pub record KeepsPiece (p : Piece) (s : Noted) : Type 0 where
  pub name : s.name ≡ padded p.name
  pub reads : s.reads ≡ word_of p.reads
  pub writes : s.writes ≡ word_of p.writes
  pub unknown : s.unknown ≡ unknown_in p

-- of the words that are ended
pub record KeepsHeard (h : Heard) (s : Line) : Type 0 where
  pub stage : s.stage ≡ h.stage
  pub piece : KeepsPiece h.piece s.noted

-- of a line whose bytes so far it was handed
pub record Follows (line : List ℕ) (s : Line) : Type 0 where
  pub words : Hears line s.speech
  pub heard : KeepsHeard (hear_all silence (ended_in (spoken line))) s

-- of a line that is ended: which of the three it is, and what it says
abbrev pub told_at : Stage → Told
told_at Nothing = Comment
told_at Blank = Comment
told_at Named = APiece
told_at ToRead = Bad
told_at Reading = APiece
told_at ToWrite = Bad
told_at Writing = APiece
told_at Wrong = Bad

abbrev pub Tells : Said Piece → Ended → Type 0
Tells comment r = r.told ≡ Comment
Tells (says p) r = (r.told ≡ APiece) × KeepsPiece p r.noted
Tells bad r = r.told ≡ Bad
