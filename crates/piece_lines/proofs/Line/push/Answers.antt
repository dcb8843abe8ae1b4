-- The words take the byte, and what they have said goes on where it ends one.
use mathlib.Core.Path.{sym, ◌∙◌}
use Rattle.piece_lines.proofs.Lines.{follows_end, follows_on}
use Rattle.piece_lines.proofs.Line.push.Goals as goal

pub returns-then-ends : goal.returns-then-ends
returns-then-ends c = λ line q. follows_end line c.args.self q c.args.byte (c.push-speech.ensures line q.words) (sym c.ends.ensures ∙ c.if-ends.true) c.word_ended-heard.ensures

pub returns : goal.returns
returns c = λ line q. follows_on line c.args.self q c.args.byte (c.push-speech.ensures line q.words) (sym c.ends.ensures ∙ c.if-ends.false)
