-- Each part of what is kept takes the byte.
use mathlib.Core.Bool.{◌&&◌}
use mathlib.Core.Path.{sym, ap₂, ◌∙◌}
use Rattle.line_words.specs.Words.{name_byte}
use Rattle.line_words.proofs.Snoc.{every_snoc}
use Rattle.line_words.proofs.word.Word.push.Goals as goal

pub returns : goal.returns
returns c = λ w k.
    record {
      bytes = c.push-kept.ensures w k.bytes;
      plain = ap₂ ◌&&◌ k.plain c.name_byte-allowed.ensures ∙ sym (every_snoc name_byte w _);
      digits = c.push-digits.ensures w k.digits;
    }
