-- Line after line, each turn past the end of one: state and output come to those of the whole piece.
use Prim.Native.Nat.{◌-◌}
use lib.ListN.{length}
use Rattle.number_lines.specs.Lines.{held_by}
use Rattle.answering.proofs.Answering.{Going}
use Rattle.answering.proofs.pieces.answer_piece.Given as goal

abbrev pub invariant-loop-at : goal.invariant-loop-at
invariant-loop-at l = Going l.piece (held_by l.initial.words l.initial.held) l.initial.out (held_by l.words l.held) l.out l.used l.at

abbrev pub decreases-loop-at : goal.decreases-loop-at
decreases-loop-at l = length l.piece - l.at
