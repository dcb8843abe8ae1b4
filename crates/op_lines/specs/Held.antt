-- What the structs keep of a line that is not ended yet, and what they tell of one that is.
use Rattle.std.specs.Prelude.{ℕ, ◌≡◌, List}
use Rattle.line_words.specs.Speech.{spoken, ended_in}
use Rattle.line_words.specs.Said.{Said, comment, says, bad}
use Rattle.line_words.specs.Held.{padded, Hears}
use Rattle.op_lines.specs.Says.{Operation}
use Rattle.op_lines.specs.Read.{Heard, hear_all, silence}
use Rattle.op_lines.specs.declared.stages.Noted.{Noted}
use Rattle.op_lines.specs.declared.stages.Stage.{Stage}
use Rattle.op_lines.specs.declared.stages.Stage.TheVariants.{Nothing, Blank, Named, Doing, Touched, Marked, Wrong}
use Rattle.op_lines.specs.declared.Line.{Line}
use Rattle.op_lines.specs.declared.Told.{Told}
use Rattle.op_lines.specs.declared.Told.TheVariants.{Comment, Operation as AnOperation, Bad}
use Rattle.op_lines.specs.declared.Ended.{Ended}

pub record KeepsOperation (o : Operation) (s : Noted) : Type 0 where
  pub name : s.name ≡ padded o.name
  pub item : s.item ≡ o.item
  pub writes : s.writes ≡ o.writes
  pub marked : s.marked ≡ o.marked

-- of the words that are ended
pub record KeepsHeard (h : Heard) (s : Line) : Type 0 where
  pub stage : s.stage ≡ h.stage
  pub operation : KeepsOperation h.operation s.noted

-- of a line whose bytes so far it was handed
pub record Follows (line : List ℕ) (s : Line) : Type 0 where
  pub words : Hears line s.speech
  pub heard : KeepsHeard (hear_all silence (ended_in (spoken line))) s

-- of a line that is ended: which of the three it is, and what it says
abbrev pub told_at : Stage → Told
told_at Nothing = Comment
told_at Blank = Comment
told_at Named = Bad
told_at Doing = Bad
told_at Touched = AnOperation
told_at Marked = AnOperation
told_at Wrong = Bad

abbrev pub Tells : Said Operation → Ended → Type 0
Tells comment r = r.told ≡ Comment
Tells (says o) r = (r.told ≡ AnOperation) × KeepsOperation o r.noted
Tells bad r = r.told ≡ Bad
