-- The program and the piece are the same.
use Rattle.cut_lines.proofs.Touching.{together_test}
use Rattle.cut_lines.proofs.sets.together.Goals as goal

pub returns : goal.returns
returns c = together_test c.args.words.now c.args.cut.now c.args.i c.args.j c.requires.1 c.requires.2
