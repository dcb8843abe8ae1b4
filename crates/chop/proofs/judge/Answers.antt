-- `chop::judge` meets its contract.
use mathlib.Core.Path.{sym, ap, ◌∙◌}
use native.Mathlib.Omega.{arith}
use lib.ListN.{length}
use Rattle.chop.specs.Pieces.{pieces_of}
use Rattle.chop.specs.Verdicts.{said}
use Rattle.chop.specs.Judgement.{verdict_by}
use Rattle.chop.proofs.InRows.{length-pieces}
use Rattle.chop.proofs.Joining.{links-length}
use Rattle.chop.proofs.Verdicts.{judgement-many, judgement-few}
use Rattle.chop.proofs.judge.Goals as goal

pub returns-then-count-gt-MOST : goal.returns-then-count-gt-MOST
unfolding said
returns-then-count-gt-MOST c =
    let words = c.args.words.now in
    let q = length-pieces words in
    c.plain.ensures ∙ ap said (sym (judgement-many (pieces_of words) (omega arith)))

pub slice_bounds-judge_linked-end : goal.slice_bounds-judge_linked-end
slice_bounds-judge_linked-end c =
    let words = c.args.words.now in
    sym (ap length c.links_of-links.ensures ∙ links-length (pieces_of words) ∙ length-pieces words)

pub judge_linked-requires : goal.judge_linked-requires
judge_linked-requires c =
    let words = c.args.words.now in
    let e = c.links_of-links.ensures in
    let q = length-pieces words in
    record { are = e; few = let n = ap length e ∙ links-length (pieces_of words) in omega arith }

pub returns : goal.returns
returns c =
    let words = c.args.words.now in
    let e = c.links_of-links.ensures in
    let q = length-pieces words in
    c.judge_linked.ensures ∙ ap said (ap (verdict_by (pieces_of words)) e ∙ sym (judgement-few (pieces_of words) (omega arith)))
