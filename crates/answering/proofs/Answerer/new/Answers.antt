-- A new machine has read nothing.
use Rattle.answering.specs.Life.{state_of}
use Rattle.answering.proofs.Answerer.new.Goals as goal

pub returns : goal.returns
unfolding state_of
returns c = c.new-scan.ensures _
