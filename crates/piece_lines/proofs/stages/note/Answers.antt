-- What each stage notes of its word.
use mathlib.Core.Path.{sym, ◌∙◌}
use Rattle.piece_lines.specs.Read.{noted}
use Rattle.piece_lines.proofs.Noting.{note_name, note_read, note_written, read-item, written-item}
use Rattle.piece_lines.proofs.stages.note.Goals as goal

pub returns-in-Nothing : goal.returns-in-Nothing
unfolding noted
returns-in-Nothing c = λ s w p e k b. rw c.in-Nothing.is b

pub returns-in-Blank : goal.returns-in-Blank
unfolding noted
returns-in-Blank c = λ s w p e k b. rw c.in-Blank.is b

pub returns-in-Named : goal.returns-in-Named
returns-in-Named c = λ s w p e k b. rw c.in-Named.is (note_name k b s (sym c.in-Named.is ∙ e))

pub returns-in-ToRead : goal.returns-in-ToRead
unfolding noted
returns-in-ToRead c = λ s w p e k b. rw c.in-ToRead.is b

pub returns-in-Reading : goal.returns-in-Reading
returns-in-Reading c = λ s w p e k b. rw c.in-Reading.is (note_read k b (read-item s w (sym c.in-Reading.is ∙ e)) c.unwrap_or-value.ensures c.with_item.ensures)

pub returns-in-ToWrite : goal.returns-in-ToWrite
unfolding noted
returns-in-ToWrite c = λ s w p e k b. rw c.in-ToWrite.is b

pub returns-in-Writing : goal.returns-in-Writing
returns-in-Writing c = λ s w p e k b. rw c.in-Writing.is (note_written k b (written-item s w (sym c.in-Writing.is ∙ e)) c.unwrap_or-value.ensures c.with_item-in-Writing.ensures)

pub returns-in-Wrong : goal.returns-in-Wrong
unfolding noted
returns-in-Wrong c = λ s w p e k b. rw c.in-Wrong.is b
