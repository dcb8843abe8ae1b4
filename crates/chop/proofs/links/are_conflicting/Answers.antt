-- `chop::links::are_conflicting` meets its contract.
use Rattle.chop.proofs.InRows.{piece_at}
use Rattle.graph.specs.Sets.{meets}
use Rattle.chop.proofs.links.are_conflicting.Goals as goal

pub returns : goal.returns
unfolding meets
returns c =
    let a = c.args in
    let p = c.requires in
    rw (piece_at a.words.now a.a p.0, piece_at a.words.now a.b p.1)
