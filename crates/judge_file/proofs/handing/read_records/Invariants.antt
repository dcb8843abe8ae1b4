-- Fewer records are asked for each time.
use Rattle.judging.specs.Handed.{left}
use Rattle.judge_file.proofs.handing.read_records.Given as goal

abbrev pub decreases-loop-from : goal.decreases-loop-from
decreases-loop-from l = left l.judging
