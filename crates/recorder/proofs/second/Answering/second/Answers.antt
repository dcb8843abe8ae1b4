-- The count.
use mathlib.Core.Path.{ap, ◌∙◌}
use Rattle.journal.specs.Words.{word_bytes}
use Rattle.recorder.proofs.second.Answering.second.Goals as goal

pub returns : goal.returns
returns c = λ input calls put h. c.word.ensures ∙ ap word_bytes h.count
