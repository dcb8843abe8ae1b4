-- The line stands at the front of the output.
use Rattle.texts.proofs.Parts.{front}
use Rattle.cutting.specs.Told.{put_out}
use Rattle.cutting.proofs.Cutting.end.Goals as goal

pub returns : goal.returns
unfolding put_out
returns c =
    let said = c.say.ensures in
    record { upper_bound = said.upper_bound; by_index = λ input q. front (said.wrote _ (c.last-tally.ensures input q)) }
