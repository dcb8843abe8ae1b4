-- The words go out of the struct and back into it; the answers stand at the front of the output.
use Rattle.answering.specs.Life.{state_of}
use Rattle.texts.proofs.Parts.{front}
use Rattle.answering.proofs.Answerer.take.Goals as goal

pub returns : goal.returns
unfolding state_of
returns c =
    let said = c.answer_piece-answered.ensures in
    record { answerer_value = said.scan_after; used_in_bounds = said.used_in_bounds; out_after = front said.wrote }
