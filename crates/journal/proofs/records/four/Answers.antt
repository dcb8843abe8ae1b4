-- Each word stands so far behind the place as it stands in what is left from there on.
use Prim.Native.Nat.{◌*◌}
use mathlib.Core.Path.{sym, ap, ◌∙◌}
use mathlib.Core.List.{[], ◌∷◌}
use Rattle.journal.specs.Words.{word_size, word_at}
use Rattle.journal.proofs.WordLaws.{word-drop, word_dropped}
use Rattle.journal.proofs.records.four.Goals as goal

pub returns : goal.returns
returns c =
    let at = c.args.at in
    let bs = c.args.bytes.now in
    let rest = c.from-rest.ensures in
    let first = c.word.ensures ∙ ap (word_at 0) rest ∙ sym (word-drop at bs) in
    let second = c.word-2.ensures ∙ ap (word_at word_size) rest ∙ sym (word_dropped at word_size bs) in
    let third = c.word-3.ensures ∙ ap (word_at (2 * word_size)) rest ∙ sym (word_dropped at (2 * word_size) bs) in
    let fourth = c.word-4.ensures ∙ ap (word_at (3 * word_size)) rest ∙ sym (word_dropped at (3 * word_size) bs) in
    λ i. first i ∷ second i ∷ third i ∷ fourth i ∷ []
