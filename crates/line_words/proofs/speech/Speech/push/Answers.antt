-- A space ends the word, a comment begins with a word that begins with `#`, and any other byte is the word's.
use Rattle.line_words.specs.Speech.{spoken}
use Rattle.line_words.proofs.Hearing.{hears_more, push_over, push_space, push_hash, push_byte}
use Rattle.line_words.proofs.speech.Speech.push.Goals as goal

pub returns-then-over : goal.returns-then-over
returns-then-over c = λ line q. hears_more line c.args.byte _ (push_over (spoken line) c.args.self c.args.byte c.if-over.true q)

pub returns-then-byte-eq32 : goal.returns-then-byte-eq32
returns-then-byte-eq32 c = λ line q. hears_more line c.args.byte _ (push_space (spoken line) c.args.self c.args.byte c.if-over.false c.if-byte-eq32.true c.new.ensures q)

pub returns-then-empty-byte : goal.returns-then-empty-byte
returns-then-empty-byte c = λ line q. hears_more line c.args.byte _ (push_hash (spoken line) c.args.self c.args.byte c.if-over.false c.if-byte-eq32.false c.empty.ensures c.if-empty-byte.true q)

pub returns : goal.returns
returns c = λ line q. hears_more line c.args.byte _ (push_byte (spoken line) c.args.self c.args.byte c.if-over.false c.if-byte-eq32.false c.empty.ensures c.if-empty-byte.false c.push-word.ensures q)
