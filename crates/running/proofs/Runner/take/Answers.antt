-- The tables go out of the struct and back into it; the replies stand at the front of the output.
use Rattle.running.specs.Life.{state_of}
use Rattle.texts.proofs.Parts.{front}
use Rattle.running.proofs.Runner.take.Goals as goal

pub returns : goal.returns
unfolding state_of
returns c =
    let said = c.answer_piece-answered.ensures in
    record { runner_value = said.versions_after; used_in_bounds = said.used_in_bounds; out_after = front said.wrote }
