-- Each of the three, by what the line says.
use Rattle.cutting.proofs.Lines.{count-comment, count-piece, count-bad}
use lib.ListN.{length}
use Rattle.cutting.proofs.tally.Tally.count.Goals as goal

pub returns-in-Comment : goal.returns-in-Comment
returns-in-Comment c = λ ss line k q. count-comment ss line c.args.self.now c.args.ended k q (c.next-self.ensures (length ss) k.lines) c.in-Comment.is

pub returns-in-Piece : goal.returns-in-Piece
returns-in-Piece c = λ ss line k q. count-piece ss line c.args.self.now c.args.ended k q (c.next-self.ensures (length ss) k.lines) c.in-Piece.is c.add.ensures

pub returns-in-Bad : goal.returns-in-Bad
returns-in-Bad c = λ ss line k q. count-bad ss line c.args.self.now c.args.ended k q (c.next-self.ensures (length ss) k.lines) c.in-Bad.is c.first-self.ensures
