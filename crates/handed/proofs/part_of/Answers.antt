-- To its end, to the file's end, or nothing.
use Rattle.judging.proofs.Parts.{part_none, part-rest, part_all}
use Rattle.handed.proofs.part_of.Goals as goal

pub returns-then-file-at : goal.returns-then-file-at
returns-then-file-at c = let a = c.args in part_none a.file.now a.at a.n c.if-file-at.true

pub returns-then-file-at-2 : goal.returns-then-file-at-2
returns-then-file-at-2 c = let a = c.args in part-rest a.file.now a.at a.n c.if-file-at-2.true

pub returns : goal.returns
returns c = let a = c.args in part_all a.file.now a.at a.n
