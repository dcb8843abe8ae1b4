-- All that was asked for stands in the file.
use Rattle.handed.proofs.line_of.Goals as goal

pub returns : goal.returns
returns c = c.line.ensures.by_index c.args.file.now c.records_of-judging.ensures.1
