-- `chop::links::are_siblings` meets its contract.
use Rattle.chop.proofs.InRows.{piece_at}
use Rattle.chop.proofs.links.are_siblings.Goals as goal

pub returns : goal.returns
returns c =
    let a = c.args in
    let p = c.requires in
    rw (piece_at a.words.now a.a p.0, piece_at a.words.now a.b p.1)
