-- The count tells the length.
use mathlib.Core.Path.{ap₂}
use mathlib.Core.Bool.{◌&&◌}
use Rattle.line_words.specs.Words.{is_name}
use Rattle.line_words.proofs.Keeping.{some_is, most_is}
use Rattle.line_words.proofs.word.Word.is_name.Goals as goal

pub returns : goal.returns
unfolding is_name
returns c = λ w k. ap₂ ◌&&◌ (ap₂ ◌&&◌ (some_is w c.args.self.kept k.bytes) (most_is w c.args.self.kept k.bytes)) k.plain
