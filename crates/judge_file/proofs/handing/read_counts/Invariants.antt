-- Fewer counts are asked for each time.
use Rattle.judging.specs.Counted.{wanted}
use Rattle.judge_file.proofs.handing.read_counts.Given as goal

abbrev pub decreases-loop-word : goal.decreases-loop-word
decreases-loop-word l = wanted l.counts
