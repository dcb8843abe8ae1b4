-- Line after line, each turn past the end of one: state and output come to those of the whole piece.
use Prim.Native.Nat.{◌-◌}
use lib.ListN.{length}
use Rattle.rules.specs.Tables.{tables}
use Rattle.lines.specs.Lines.{held_by}
use Rattle.running.specs.Life.{state}
use Rattle.running.proofs.Answering.{Going}
use Rattle.running.proofs.pieces.answer_piece.Given as goal

abbrev pub invariant-loop-at : goal.invariant-loop-at
invariant-loop-at l =
    Going l.piece (state (held_by l.initial.held) (tables l.initial.txns l.initial.locks l.initial.versions)) l.initial.out (state (held_by l.held) (tables l.txns l.locks l.versions)) l.out l.used l.at

abbrev pub decreases-loop-at : goal.decreases-loop-at
decreases-loop-at l = length l.piece - l.at
