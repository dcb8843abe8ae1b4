-- Each stage has its own tests of the word.
use mathlib.Core.Path.{refl, ap, ap₂, ◌∙◌}
use mathlib.Core.Bool.{Bool, cond}
use Rattle.piece_lines.specs.Read.{onward}
use Rattle.piece_lines.specs.declared.stages.Stage.{Stage}
use Rattle.piece_lines.specs.declared.stages.Stage.TheVariants.{Blank, Named, ToRead, Reading, ToWrite, Writing, Wrong}
use Rattle.piece_lines.proofs.stages.onward.Goals as goal

pub returns-in-Nothing : goal.returns-in-Nothing
unfolding onward
returns-in-Nothing c = λ w k.
    rw c.in-Nothing.is
    (c.pick-in-Nothing.ensures ∙ ap₂ (λ (t : Bool) (s : Stage). cond t Blank s) (c.empty-empty.ensures w k) (c.pick.ensures ∙ ap (λ (t : Bool). cond t Named Wrong) (c.is_name-name.ensures w k)))

pub returns-in-Blank : goal.returns-in-Blank
unfolding onward
returns-in-Blank c = λ w k. rw c.in-Blank.is refl

pub returns-in-Named : goal.returns-in-Named
unfolding onward
returns-in-Named c = λ w k.
    rw c.in-Named.is
    (c.pick-in-Named.ensures ∙ ap₂ (λ (t : Bool) (s : Stage). cond t ToRead s) (c.is-reads.ensures w k.bytes) (c.pick-part.ensures ∙ ap (λ (t : Bool). cond t ToWrite Wrong) (c.is-writes.ensures w k.bytes)))

pub returns-in-ToRead : goal.returns-in-ToRead
unfolding onward
returns-in-ToRead c = λ w k. rw c.in-ToRead.is (c.pick-in-ToRead.ensures ∙ ap (λ (t : Bool). cond t Reading Wrong) (c.is_item-item.ensures w k))

pub returns-in-Reading : goal.returns-in-Reading
unfolding onward
returns-in-Reading c = λ w k.
    rw c.in-Reading.is
    (c.pick-in-Reading.ensures ∙ ap₂ (λ (t : Bool) (s : Stage). cond t Reading s) (c.is_item-item.ensures w k) (c.pick-part.ensures ∙ ap (λ (t : Bool). cond t ToWrite Wrong) (c.is-writes.ensures w k.bytes)))

pub returns-in-ToWrite : goal.returns-in-ToWrite
unfolding onward
returns-in-ToWrite c = λ w k. rw c.in-ToWrite.is (c.pick-in-ToWrite.ensures ∙ ap (λ (t : Bool). cond t Writing Wrong) (c.is_item-item.ensures w k))

pub returns-in-Writing : goal.returns-in-Writing
unfolding onward
returns-in-Writing c = λ w k. rw c.in-Writing.is (c.pick-in-Writing.ensures ∙ ap (λ (t : Bool). cond t Writing Wrong) (c.is_item-item.ensures w k))

pub returns-in-Wrong : goal.returns-in-Wrong
unfolding onward
returns-in-Wrong c = λ w k. rw c.in-Wrong.is refl
