use mathlib.Core.List.{[]}
use native.Mathlib.Omega.{arith}
use lib.ListN.{take}
use lib.Seq.{take_all}
use Rattle.told_lines.specs.Seen.{see_all, see}
use Rattle.told_lines.proofs.Seeing.{see-append, see-next}
use Rattle.fining.proofs.Seeing.{keeps_end, keeps_on}
use Rattle.fining.proofs.Fining.take.Goals as goal
use Rattle.fining.proofs.Fining.take.Goals.{then-byte-eq-LINE_END, else-byte-eq-LINE_END}

pub loop-byte-init : goal.loop-byte-init
unfolding see_all
loop-byte-init c = λ s q. q

pub loop-byte-preserved : goal.loop-byte-preserved
loop-byte-preserved c =
    let l = c.loop-byte in
    let p = c.args.piece.now in
    let t = c.loop-byte-test.true in
    elim c.if-byte-eq-LINE_END.branch [
      | then-byte-eq-LINE_END w ↦ (λ s q.
          let k = l.invariant s q in
          rw (see-next p l.byte-index s t, w.line-is, w.begun-is, w.tally-is)
          (keeps_end (see_all s (take l.byte-index p)) (record { line = l.line; begun = l.begun; tally = l.tally }) k _ w.if-byte-eq-LINE_END.true w.new-line.ensures (w.count.ensures _ _ k.tally (w.ended.ensures _ k.line))))
      | else-byte-eq-LINE_END w ↦ (λ s q.
          let k = l.invariant s q in
          rw (see-next p l.byte-index s t, w.line-is, w.begun-is, w.tally-is)
          (keeps_on (see_all s (take l.byte-index p)) (record { line = l.line; begun = l.begun; tally = l.tally }) k _ w.if-byte-eq-LINE_END.false (w.push-line.ensures _ k.line)))
    ]

pub returns : goal.returns
unfolding see
returns c = λ input q.
    let l = c.loop-byte in
    let p = c.args.piece.now in
    rw (see-append input p (record { lines = []; line = [] })) (rw (take_all l.byte-index p (omega arith)) at (l.invariant (see input) q))
