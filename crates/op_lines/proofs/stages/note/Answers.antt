-- What each stage notes of its word.
use mathlib.Core.Path.{sym, ◌∙◌}
use Rattle.op_lines.specs.Read.{noted}
use Rattle.op_lines.proofs.Noting.{note_name, note_doing, note_item, note_mark}
use Rattle.op_lines.proofs.stages.note.Goals as goal

pub returns-in-Nothing : goal.returns-in-Nothing
unfolding noted
returns-in-Nothing c = λ s w o e k b. rw c.in-Nothing.is b

pub returns-in-Blank : goal.returns-in-Blank
unfolding noted
returns-in-Blank c = λ s w o e k b. rw c.in-Blank.is b

pub returns-in-Named : goal.returns-in-Named
returns-in-Named c = λ s w o e k b. rw c.in-Named.is (note_name k b s (sym c.in-Named.is ∙ e))

pub returns-in-Doing : goal.returns-in-Doing
returns-in-Doing c = λ s w o e k b. rw c.in-Doing.is (note_doing k b (c.is-names_writing.ensures w k.bytes))

pub returns-in-Touched : goal.returns-in-Touched
returns-in-Touched c = λ s w o e k b. rw c.in-Touched.is (note_item k b c.unwrap_or-value.ensures s (sym c.in-Touched.is ∙ e))

pub returns-in-Marked : goal.returns-in-Marked
returns-in-Marked c = λ s w o e k b. rw c.in-Marked.is (note_mark k b)

pub returns-in-Wrong : goal.returns-in-Wrong
unfolding noted
returns-in-Wrong c = λ s w o e k b. rw c.in-Wrong.is b
