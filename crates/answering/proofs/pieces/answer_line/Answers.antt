-- The last number is ended, and the line answered.
use borrow.Author.Rules.{rules}
use Rattle.number_lines.specs.Lines.{held_by}
use Rattle.answering.proofs.Answering.{answered}
use Rattle.answering.proofs.pieces.answer_line.Goals as goal

pub returns : goal.returns
returns c =
    let a = c.args in
    answered (held_by a.words.now a.scan) (search rules) c.ended-line.ensures c.respond.ensures
