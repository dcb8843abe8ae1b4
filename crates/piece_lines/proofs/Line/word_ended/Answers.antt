-- The stage that the word leads to, and what is noted there.
use Rattle.piece_lines.proofs.Lines.{word-heard}
use Rattle.piece_lines.proofs.Line.word_ended.Goals as goal

pub returns : goal.returns
returns c =
    λ h w k q.
    let s = c.args.self in
    word-heard h w s k q (c.onward-stage.ensures w q) (c.note-noted.ensures s.stage w h.piece)
