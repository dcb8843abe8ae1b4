-- `finest::links::conflicting` meets its contract.
use Rattle.finest.proofs.InRows.{conflict_test}
use Rattle.finest.proofs.links.conflicting.Goals as goal

pub returns : goal.returns
returns c =
    let s = c in
    conflict_test s.args.words.now s.args.i s.args.j s.requires.0 s.requires.1
