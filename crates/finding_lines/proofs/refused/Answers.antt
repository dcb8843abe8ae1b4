-- The word, the places from 1, and the end of the line.
use mathlib.Core.Path.{sym, ap, ◌∙◌}
use native.Mathlib.Omega.{arith}
use lib.ListN.{length, take}
use Rattle.numerals.proofs.Decimals.{length-spaced}
use Rattle.texts.proofs.Written.{wrote_more}
use Rattle.finding_lines.specs.Lines.{refused_line}
use Rattle.finding_lines.proofs.Printed.{map-length}
use Rattle.finding_lines.proofs.refused.Goals as goal

pub slice_bounds-print_words-end : goal.slice_bounds-print_words-end
slice_bounds-print_words-end c = sym (ap length c.from_one-places.ensures ∙ map-length c.args.circle.now)

pub print_words-end-requires : goal.print_words-end-requires
print_words-end-requires c =
    let l = ap length c.from_one-places.ensures ∙ map-length c.args.circle.now in
    omega (arith, l, c.requires.circle_len_bound.0, c.requires.longest_line_in_bounds, c.put_text-from.ensures.index)

pub put-requires : goal.put-requires
put-requires c =
    let l = ap length c.from_one-places.ensures ∙ map-length c.args.circle.now in
    let m = length-spaced (take (length c.args.circle.now) c.from_one-places.result) in
    omega (arith, l, m, c.requires.circle_len_bound.0, c.requires.longest_line_in_bounds, c.put_text-from.ensures.index, c.print_words-end.ensures.index)

pub returns : goal.returns
unfolding refused_line
returns c =
    let a = c.args in
    let e = c.from_one-places.ensures in
    let l = ap length e ∙ map-length a.circle.now in
    let m = length-spaced (take (length a.circle.now) c.from_one-places.result) in
    let p = c.requires in
    let one = c.put_text-from.ensures in
    rw (sym e) (wrote_more (omega (arith, p.longest_line_in_bounds)) one (wrote_more (omega (arith, l, m, p.circle_len_bound.0, p.longest_line_in_bounds, one.index)) c.print_words-end.ensures c.put.ensures))
