-- The word of what stands from the place on, filled up where it is too short.
use mathlib.Core.Path.{◌≡◌, sym, ap, ◌∙◌}
use native.Mathlib.Omega.{arith}
use Rattle.journal.specs.Words.{word_size, word_at}
use Rattle.journal.proofs.WordLaws.{word-of_le, word-drop, word_piece}
use Rattle.journal.proofs.words.word.Goals as goal
use Rattle.journal.proofs.words.word.Goals.{in-Some, in-None}

pub returns : goal.returns
returns c =
    let a = c.args in
    let whole : word_at 0 c.match-first_chunk.word ≡ word_at 0 c.from-rest.result.now
    = elim c.match-first_chunk.branch [
      | in-Some w ↦ ap (word_at 0) (w.word-is ∙ w.in-Some.ensures.cases.same) ∙ word_piece 0 word_size c.from-rest.result.now (omega arith)
      | in-None w ↦ ap (word_at 0) w.word-is ∙ w.filled_up-word.ensures
    ] in
    let is : c.from_le_bytes.result ≡ word_at a.at a.bytes.now
    = c.from_le_bytes.ensures ∙ word-of_le c.match-first_chunk.word ∙ whole ∙ ap (word_at 0) c.from-rest.ensures ∙ sym (word-drop a.at a.bytes.now) in
    omega arith
