-- Fewer calls are asked for each time.
use Rattle.recorder.specs.Second.{left}
use Rattle.record.proofs.answer_from.Given as goal

abbrev pub decreases-loop-input : goal.decreases-loop-input
decreases-loop-input l = left l.answering
