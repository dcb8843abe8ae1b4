-- The count tells the length, and the digits whether they are a number.
use mathlib.Core.Path.{ap₂, ◌∙◌}
use mathlib.Core.Bool.{◌&&◌}
use Rattle.line_words.specs.Words.{is_item}
use Rattle.line_words.proofs.Keeping.{some_is, number_is}
use Rattle.line_words.proofs.word.Word.is_item.Goals as goal

pub returns : goal.returns
unfolding is_item
returns c = λ w k. ap₂ ◌&&◌ (some_is w c.args.self.kept k.bytes) (c.is_some.ensures ∙ number_is w k.digits.value)
