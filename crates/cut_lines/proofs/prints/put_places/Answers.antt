-- ` #`, the places, and the end of the line.
use mathlib.Core.Path.{sym}
use native.Mathlib.Omega.{arith}
use Rattle.texts.proofs.Written.{wrote_more}
use Rattle.cut_lines.specs.Text.{places_text}
use Rattle.cut_lines.proofs.Printing.{places-are}
use Rattle.cut_lines.proofs.prints.put_places.Goals as goal

pub returns : goal.returns
unfolding places_text
returns c =
    let a = c.args in
    let p = c.requires in
    let one = c.put_text-from.ensures in
    let two = c.put_set-end.ensures in
    let three = c.put.ensures in
    record {
      wrote =
          rw (sym (places-are a.words.now a.cut.now a.i c.members_of-members.ensures))
          (wrote_more (omega (arith, p.2)) one (wrote_more (omega (arith, two.wrote.index, two.upper_bound, one.index, p.2, p.0.few)) two.wrote three));
      upper_bound = omega (arith, one.index, two.upper_bound, three.index, p.0.few);
    }
