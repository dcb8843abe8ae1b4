use borrow.Author.Rules.{rules}
use mathlib.Core.Path.{◌≡◌}
use native.Mathlib.Omega.{arith}
use lib.ListN.{length}
use Rattle.cases.specs.Cases.{most_numbers}
use Rattle.answering.proofs.Lengths.{held-most}
use Rattle.answering.proofs.Answering.{going_first, room-left, going_on, going_past, end_used, end_left, end_wrote}
use Rattle.answering.proofs.pieces.answer_piece.Goals as goal

pub loop-at-init : goal.loop-at-init
loop-at-init c =
    let a = c.args in
    let all : length a.words.now ≡ most_numbers = search rules in
    going_first _ _ _ (omega (arith, held-most a.words.now a.scan, all))

pub returns-in_default : goal.returns-in_default
returns-in_default c =
    let room = c.requires in
    let all : length c.loop-at.words ≡ most_numbers = search rules in
    let past = going_past room c.loop-at.invariant c.next-next.result all c.next-next.ensures c.in_default.is in
    record { scan_after = end_left room past (omega arith); used_in_bounds = end_used room past; wrote = end_wrote room past (omega arith) }

pub answer_line-used-requires : goal.answer_line-used-requires
answer_line-used-requires c = omega (arith, room-left c.requires c.loop-at.invariant)

pub loop-at-smaller : goal.loop-at-smaller
loop-at-smaller c = let o = c.next-next.ensures.onward _ c.in-Some.is in omega arith

pub loop-at-preserved : goal.loop-at-preserved
loop-at-preserved c =
    let next = c.next-next in
    let all : length c.loop-at.words ≡ most_numbers = search rules in
    going_on c.requires c.loop-at.invariant next.result all next.ensures c.in-Some.is (c.new-held.ensures _) c.answer_line-used.ensures (omega arith)

pub returns : goal.returns
returns c =
    let i = c.loop-at.invariant in
    let room = c.requires in
    let past = c.loop-at-test.false in
    record { scan_after = end_left room i past; used_in_bounds = end_used room i; wrote = end_wrote room i past }
