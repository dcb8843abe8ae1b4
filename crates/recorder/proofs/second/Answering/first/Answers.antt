-- All of it is the journal.
use Rattle.recorder.proofs.Journal.{filed}
use Rattle.recorder.proofs.second.Answering.first.Goals as goal

pub returns : goal.returns
returns c = λ input calls put h e s. filed input calls put c.args.self h c.requires e s (c.second.ensures input calls put h)
