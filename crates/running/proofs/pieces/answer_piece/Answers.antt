use native.Mathlib.Omega.{arith}
use Rattle.running.proofs.Answering.{going_first, room-left, going_on, going_past, end_used, end_after, end_wrote}
use Rattle.running.proofs.pieces.answer_piece.Goals as goal

pub loop-at-init : goal.loop-at-init
loop-at-init c = going_first _ _ _

pub returns-in_default : goal.returns-in_default
returns-in_default c =
    let room = c.requires in
    let past = going_past room c.loop-at.invariant c.next-next.result c.next-next.ensures c.in_default.is in
    record { versions_after = end_after room past (omega arith); used_in_bounds = end_used room past; wrote = end_wrote room past (omega arith) }

pub respond-used-requires : goal.respond-used-requires
respond-used-requires c = omega (arith, room-left c.requires c.loop-at.invariant c.loop-at-test.true)

pub loop-at-smaller : goal.loop-at-smaller
loop-at-smaller c = let o = c.next-next.ensures.onward _ c.in-Some.is in omega arith

pub loop-at-preserved : goal.loop-at-preserved
loop-at-preserved c =
    let next = c.next-next in
    let said = c.respond-used.ensures in
    going_on c.requires c.loop-at.invariant next.result next.ensures c.in-Some.is c.new-held.ensures c.read_as-parsed.ensures said.wrote said.versions_after (omega arith)

pub returns : goal.returns
returns c =
    let i = c.loop-at.invariant in
    let room = c.requires in
    record { versions_after = end_after room i c.loop-at-test.false; used_in_bounds = end_used room i; wrote = end_wrote room i c.loop-at-test.false }
