use mathlib.Core.Path.{refl, subst}
use native.Mathlib.Omega.{arith}
use lib.ListN.{take}
use Rattle.chop_rows.specs.declared.Row.{Row}
use Rattle.chop_rows.specs.RowPieces.{noted_by}
use Rattle.chop_rows.specs.Notes.{OneMore}
use Rattle.chop_rows.proofs.OneMore.{going_on, going_out, going_end}
use Rattle.chop_rows.proofs.notes_of.Goals as goal

pub loop-at-init : goal.loop-at-init
unfolding noted_by
loop-at-init c = record { count = omega arith; pieces = refl; room = refl }

pub note-notes-requires : goal.note-notes-requires
note-notes-requires c = (c.loop-at.invariant.count, c.loop-at.invariant.room)

pub returns-then-notes-gt-MOST : goal.returns-then-notes-gt-MOST
returns-then-notes-gt-MOST c =
    let words = c.args.words.now in
    let at = c.loop-at in
    going_out words at.notes c.note-notes.result at.at at.invariant
    (subst (λ (r : Row). OneMore r (take at.notes.count at.notes.pieces) c.note-notes.result) c.row_at.ensures c.note-notes.ensures) c.loop-at-test.true c.if-notes-gt-MOST.true

pub loop-at-preserved : goal.loop-at-preserved
loop-at-preserved c =
    let words = c.args.words.now in
    let at = c.loop-at in
    going_on words at.notes c.note-notes.result at.at at.invariant
    (subst (λ (r : Row). OneMore r (take at.notes.count at.notes.pieces) c.note-notes.result) c.row_at.ensures c.note-notes.ensures) c.loop-at-test.true c.if-notes-gt-MOST.false

pub returns : goal.returns
returns c = going_end c.args.words.now c.loop-at.notes c.loop-at.at c.loop-at.invariant (omega arith)
