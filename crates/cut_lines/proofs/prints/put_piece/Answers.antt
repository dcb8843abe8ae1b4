-- The name, the items, and the places.
use native.Mathlib.Omega.{arith}
use Rattle.texts.proofs.Written.{wrote_more}
use Rattle.told_lines.proofs.Names.{row-part}
use Rattle.cut_lines.specs.Text.{piece_line, line_at}
use Rattle.cut_lines.specs.Given.{name_in}
use Rattle.cut_lines.proofs.Printing.{row_fits}
use Rattle.cut_lines.proofs.prints.put_piece.Goals as goal

pub returns : goal.returns
unfolding line_at piece_line name_in
returns c =
    let a = c.args in
    let p = c.requires in
    let one = c.put_name-named.ensures in
    let two = c.put_items-end.ensures in
    let three = c.put_places.ensures in
    let w = row_fits a.names.now a.i in
    let e = row-part a.names.now a.i in
    record {
      wrote = rw e at (wrote_more (omega (arith, one.wrote.index, one.upper_bound, w, p.2)) one.wrote (wrote_more (omega (arith, two.wrote.index, two.upper_bound, one.upper_bound, w, p.2)) two.wrote three.wrote));
      upper_bound = omega (arith, one.upper_bound, two.upper_bound, three.upper_bound, w);
    }
