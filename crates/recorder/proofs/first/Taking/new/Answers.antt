-- Nothing is read.
use mathlib.Core.Path.{refl, sym, subst}
use mathlib.Core.List.{[]}
use Rattle.lines.specs.Lines.{Held}
use Rattle.recorder.specs.First.{Taken, none}
use Rattle.recording.specs.Records.{count_with}
use Rattle.recorder.proofs.first.Taking.new.Goals as goal

pub returns : goal.returns
returns c = record { taken = subst (λ (h : Held). Taken [] [] h) (sym c.new.ensures) none; count = unfold count_with in refl }
