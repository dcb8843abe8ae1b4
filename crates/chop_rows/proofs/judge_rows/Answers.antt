-- `chop_rows::judge_rows` meets its contract.
use Prim.Native.Nat.{◌*◌}
use mathlib.Core.Path.{◌≡◌, sym, ap, ◌∙◌}
use mathlib.Core.List.{map}
use native.Mathlib.Omega.{arith}
use Rattle.chop.specs.Verdicts.{said}
use Rattle.chop.specs.Judgement.{judgement}
use Rattle.chop_rows.specs.RowPieces.{piece_of, row_pieces}
use Rattle.chop_rows.proofs.OneMore.{front_length}
use Rattle.chop_rows.proofs.Writing.{rows-many, rows-unknown, rows-malformed, rows-judged, noted-few}
use Rattle.chop_rows.proofs.judge_rows.Goals as goal

pub returns-then-count-gt-MOST : goal.returns-then-count-gt-MOST
unfolding said
returns-then-count-gt-MOST c =
    let words = c.args.words.now in
    c.plain.ensures ∙ ap said (sym (rows-many words (c.notes_of-notes.ensures.many (omega (arith, c.if-count-gt-MOST.true)))))

pub returns-then-some_unknown : goal.returns-then-some_unknown
unfolding said
returns-then-some_unknown c =
    let words = c.args.words.now in
    c.plain-then-some_unknown.ensures ∙ ap said (sym (rows-unknown words (noted-few words _ c.notes_of-notes.ensures c.if-count-gt-MOST.false) (sym c.some_unknown.ensures ∙ c.if-some_unknown.true)))

pub returns-then-some_malformed : goal.returns-then-some_malformed
unfolding said
returns-then-some_malformed c =
    let words = c.args.words.now in
    c.plain-then-some_malformed.ensures
    ∙ ap said
    (sym (rows-malformed words (noted-few words _ c.notes_of-notes.ensures c.if-count-gt-MOST.false) (sym c.some_unknown.ensures ∙ c.if-some_unknown.false) (sym c.some_malformed.ensures ∙ c.if-some_malformed.true)))

pub slice_bounds-table-end : goal.slice_bounds-table-end
slice_bounds-table-end c = let l = c.words_of-table.ensures.0 in omega arith

pub slice_bounds-judge-end : goal.slice_bounds-judge-end
slice_bounds-judge-end c = let l = c.words_of-table.ensures.0 in sym (front_length c.words_of-table.result (c.notes_of-notes.result.count * 3) (omega arith))

pub returns : goal.returns
unfolding row_pieces
returns c =
    let words = c.args.words.now in
    let e : _ ≡ row_pieces words = c.words_of-table.ensures.1 ∙ ap (map piece_of) (c.notes_of-notes.ensures.few c.if-count-gt-MOST.false) in
    c.judge.ensures
    ∙ ap (λ ps. said (judgement ps)) e
    ∙ ap said
    (sym (rows-judged words (noted-few words _ c.notes_of-notes.ensures c.if-count-gt-MOST.false) (sym c.some_unknown.ensures ∙ c.if-some_unknown.false) (sym c.some_malformed.ensures ∙ c.if-some_malformed.false)))
