use Prim.Native.Nat.{◌≤◌}
use mathlib.Core.Path.{refl, sym, ◌∙◌}
use native.Mathlib.Omega.{arith}
use lib.ListN.{length}
use Rattle.rules.specs.Tables.{Tables, tables}
use Rattle.recording.proofs.Answering.{after_turn, answer-next, answer_turn, end_answered, end_after}
use Rattle.recording.proofs.answers.answer_piece.Goals as goal

pub loop-at-init : goal.loop-at-init
loop-at-init c = (omega arith, refl, refl, refl, refl, refl, refl)

pub overflow_sub-piece : goal.overflow_sub-piece
overflow_sub-piece c = c.loop-at.invariant.0

pub loop-at-smaller : goal.loop-at-smaller
loop-at-smaller c =
    let l = c.loop-at in
    let i = l.invariant in
    let piece = c.args.piece.now in
    let G : Tables = tables l.txns l.locks l.versions in
    let made = c.answer_call-at.ensures in
    let h = c.loop-at-test.true in
    let room : length piece ≤ length l.out = omega (arith, i.1, c.requires) in
    let e = answer-next piece l.at G _ h made.versions_after l.out made.result_after room in
    omega (arith, e, h, i.0)

pub loop-at-preserved : goal.loop-at-preserved
loop-at-preserved c =
    let l = c.loop-at in
    let i = l.invariant in
    let piece = c.args.piece.now in
    let G : Tables = tables l.txns l.locks l.versions in
    let made = c.answer_call-at.ensures in
    let h = c.loop-at-test.true in
    let room : length piece ≤ length l.out = omega (arith, i.1, c.requires) in
    let e = answer-next piece l.at G _ h made.versions_after l.out made.result_after room in
    (omega (arith, e, h, i.0), omega arith, omega arith, omega arith, omega arith, answer_turn piece l.at G _ h made.versions_after l.out made.result_after room ∙ i.5, after_turn piece l.at G _ h made.versions_after l.out made.result_after room ∙ i.6)

pub shape_of-txns : goal.shape_of-txns
shape_of-txns c = c.loop-at.invariant.2

pub shape_of-locks : goal.shape_of-locks
shape_of-locks c = c.loop-at.invariant.3

pub shape_of-versions : goal.shape_of-versions
shape_of-versions c = c.loop-at.invariant.4

pub shape_of-out : goal.shape_of-out
shape_of-out c = c.loop-at.invariant.1

pub returns : goal.returns
returns c =
    let l = c.loop-at in
    let piece = c.args.piece.now in
    let G : Tables = tables l.txns l.locks l.versions in
    let past = c.loop-at-test.false in
    record { upper_bound = omega (arith, l.invariant.0, c.requires); result_after = sym (end_answered piece l.at G past l.out l.at) ∙ l.invariant.5; versions_after = sym (end_after piece l.at G past) ∙ l.invariant.6 }
