-- Each stage has its own tests of the word.
use mathlib.Core.Path.{refl, ap, ap₂, ◌∙◌}
use mathlib.Core.Bool.{Bool, cond, ◌||◌}
use Rattle.op_lines.specs.Read.{onward}
use Rattle.op_lines.specs.declared.stages.Stage.{Stage}
use Rattle.op_lines.specs.declared.stages.Stage.TheVariants.{Blank, Named, Doing, Touched, Marked, Wrong}
use Rattle.op_lines.proofs.stages.onward.Goals as goal

pub returns-in-Nothing : goal.returns-in-Nothing
unfolding onward
returns-in-Nothing c =
    λ w k.
    rw c.in-Nothing.is
    (c.pick-in-Nothing.ensures ∙ ap₂ (λ (t : Bool) (s : Stage). cond t Blank s) (c.empty-empty.ensures w k) (c.pick.ensures ∙ ap (λ (t : Bool). cond t Named Wrong) (c.is_name-name.ensures w k)))

pub returns-in-Blank : goal.returns-in-Blank
unfolding onward
returns-in-Blank c = λ w k. rw c.in-Blank.is refl

pub returns-in-Named : goal.returns-in-Named
unfolding onward
returns-in-Named c =
    λ w k.
    rw c.in-Named.is
    (c.pick-in-Named.ensures ∙ ap₂ (λ (t u : Bool). cond (t || u) Doing Wrong) (c.is-reads.ensures w k.bytes) (c.is-writes.ensures w k.bytes))

pub returns-in-Doing : goal.returns-in-Doing
unfolding onward
returns-in-Doing c = λ w k. rw c.in-Doing.is (c.pick-in-Doing.ensures ∙ ap (λ (t : Bool). cond t Touched Wrong) (c.is_item-item.ensures w k))

pub returns-in-Touched : goal.returns-in-Touched
unfolding onward
returns-in-Touched c = λ w k. rw c.in-Touched.is (c.pick-in-Touched.ensures ∙ ap (λ (t : Bool). cond t Marked Wrong) (c.is-mark.ensures w k.bytes))

pub returns-in-Marked : goal.returns-in-Marked
unfolding onward
returns-in-Marked c = λ w k. rw c.in-Marked.is refl

pub returns-in-Wrong : goal.returns-in-Wrong
unfolding onward
returns-in-Wrong c = λ w k. rw c.in-Wrong.is refl
