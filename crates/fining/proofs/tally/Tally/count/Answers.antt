-- Each of the three, by what the line says.
use Rattle.fining.proofs.Lines.{count-comment, count-operation, count-bad}
use lib.ListN.{length}
use Rattle.fining.proofs.tally.Tally.count.Goals as goal

pub returns-in-Comment : goal.returns-in-Comment
returns-in-Comment c = λ ss line k q. count-comment ss line c.args.self.now c.args.ended k q (c.next-self.ensures (length ss) k.lines) c.in-Comment.is

pub returns-in-Operation : goal.returns-in-Operation
returns-in-Operation c = λ ss line k q. count-operation ss line c.args.self.now c.args.ended k q (c.next-self.ensures (length ss) k.lines) c.in-Operation.is c.add.ensures

pub returns-in-Bad : goal.returns-in-Bad
returns-in-Bad c = λ ss line k q. count-bad ss line c.args.self.now c.args.ended k q (c.next-self.ensures (length ss) k.lines) c.in-Bad.is c.first-self.ensures
