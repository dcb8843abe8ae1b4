-- The count tells whether there is a byte.
use Rattle.line_words.proofs.Keeping.{none_is}
use Rattle.line_words.proofs.word.Word.empty.Goals as goal

pub returns : goal.returns
returns c = λ w k. none_is w c.args.self.kept k.bytes
