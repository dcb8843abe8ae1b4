-- A bad line first, then the count, then the items, then the judge.
use borrow.Author.Rules.{rules}
use mathlib.Core.Path.{◌≡◌, sym, ◌∙◌}
use native.Mathlib.Omega.{arith}
use Prim.Native.Nat.{ℕ, ◌*◌, ◌≤◌}
use mathlib.Core.List.{List}
use lib.ListN.{length, take}
use lib.Seq.{length-take-le}
use Rattle.chop.specs.Pieces.{pieces_of}
use Rattle.chop.specs.Verdicts.{said}
use Rattle.chop.specs.Judgement.{judgement}
use Rattle.chop.specs.declared.Judged.{Judged}
use Rattle.chop.specs.declared.Finding.TheVariants.{TooManyPieces, UnknownItem}
use Rattle.finding_lines.specs.Lines.{Shown}
use Rattle.told_lines.proofs.Counting.{bad-most}
use Rattle.finding_lines.proofs.Printed.{line-fits, shown, shown-plain}
use Rattle.cutting.proofs.Verdicts.{pieces-number, line-bad}
use Rattle.cutting.proofs.Saying.{said-many, said-unknown, said-judged}
use Rattle.cutting.proofs.says.say.Goals as goal

-- so few pieces that the circle has its places
few :
    (rows : List ℕ) (count : ℕ) (j : Judged) → length rows ≡ 96 → count ≤ 32
    → j ≡ said (judgement (pieces_of (take (count * 3) rows))) → Shown j
few rows count j size h e =
    let l = length-take-le (count * 3) rows (omega arith) in
    shown (pieces_of (take (count * 3) rows)) j e (omega (arith, pieces-number (take (count * 3) rows), l))

pub returns-in-Some : goal.returns-in-Some
returns-in-Some c =
    let w = c.say_bad.ensures in
    let a = c.args.tally in
    record { upper_bound = omega (arith, w.index, bad-most c.in-Some.bad, c.requires); wrote = λ ss k. rw (sym (line-bad ss c.in-Some.bad (sym c.in-Some.is ∙ k.bad))) w }

pub print-requires : goal.print-requires
print-requires c = record { shown = shown-plain TooManyPieces c.plain.result c.plain.ensures; longest_line_in_bounds = c.requires }

pub returns-then-count-gt-MOST : goal.returns-then-count-gt-MOST
returns-then-count-gt-MOST c =
    let w = c.print.ensures in
    let j = c.plain.result in
    let e = c.plain.ensures in
    record { upper_bound = omega (arith, w.index, line-fits j (shown-plain TooManyPieces j e), c.requires); wrote = λ ss k. rw (sym (said-many ss c.args.tally k c.in_default.is c.if-count-gt-MOST.true j e)) w }

pub print-requires-then-unknown : goal.print-requires-then-unknown
print-requires-then-unknown c = record { shown = shown-plain UnknownItem c.plain-then-unknown.result c.plain-then-unknown.ensures; longest_line_in_bounds = c.requires }

pub returns-then-unknown : goal.returns-then-unknown
returns-then-unknown c =
    let w = c.print-then-unknown.ensures in
    let j = c.plain-then-unknown.result in
    let e = c.plain-then-unknown.ensures in
    record { upper_bound = omega (arith, w.index, line-fits j (shown-plain UnknownItem j e), c.requires); wrote = λ ss k. rw (sym (said-unknown ss c.args.tally k c.in_default.is c.if-count-gt-MOST.false c.if-unknown.true j e)) w }

pub slice_bounds-rows-end : goal.slice_bounds-rows-end
slice_bounds-rows-end c =
    let size : length c.args.tally.pieces.rows ≡ 96 = search rules in
    omega (arith, c.if-count-gt-MOST.false)

pub slice_bounds-judge-end : goal.slice_bounds-judge-end
slice_bounds-judge-end c =
    let size : length c.args.tally.pieces.rows ≡ 96 = search rules in
    sym (length-take-le _ _ (omega (arith, c.if-count-gt-MOST.false)))

pub print-requires-2 : goal.print-requires-2
print-requires-2 c =
    let a = c.args.tally.pieces in
    let size : length c.args.tally.pieces.rows ≡ 96 = search rules in
    let s = few a.rows a.count c.judge-judged.result size (omega (arith, c.if-count-gt-MOST.false)) c.judge-judged.ensures in
    record { shown = s; longest_line_in_bounds = c.requires }

pub returns : goal.returns
returns c =
    let w = c.print-2.ensures in
    let j = c.judge-judged.result in
    let e = c.judge-judged.ensures in
    let a = c.args.tally.pieces in
    let size : length c.args.tally.pieces.rows ≡ 96 = search rules in
    let s = few a.rows a.count c.judge-judged.result size (omega (arith, c.if-count-gt-MOST.false)) c.judge-judged.ensures in
    record { upper_bound = omega (arith, w.index, line-fits j s, c.requires); wrote = λ ss k. rw (sym (said-judged ss c.args.tally k c.in_default.is c.if-count-gt-MOST.false c.if-unknown.false j e)) w }
