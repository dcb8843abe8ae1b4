-- One part, and the other behind it.
use Prim.Native.Nat.{ℕ}
use mathlib.Core.Path.{◌≡◌, ap₂}
use mathlib.Core.Bool.{true, false}
use mathlib.Core.List.{◌++◌}
use native.Mathlib.Omega.{arith}
use Rattle.texts.proofs.Written.{wrote_more}
use Rattle.line_words.specs.Words.{reads, writes}
use Rattle.finest.specs.Choppings.{touches, piece_by}
use Rattle.finest.specs.Rows.{operations_in}
use Rattle.cut_lines.specs.Text.{items_in, part_text, items_text}
use Rattle.cut_lines.proofs.prints.put_items.Goals as goal

pub returns : goal.returns
unfolding items_text piece_by
returns c =
    let a = c.args in
    let one = c.put_part-end.ensures in
    let two = c.put_part.ensures in
    let e : part_text reads (items_in c.items_of-reads.result) ++ part_text writes (items_in c.items_of-writes.result) ≡ part_text reads (items_in (touches (operations_in a.words.now) a.cut.now false a.i)) ++ part_text writes (items_in (touches (operations_in a.words.now) a.cut.now true a.i))
    = ap₂ (λ (x y : ℕ). part_text reads (items_in x) ++ part_text writes (items_in y)) c.items_of-reads.ensures c.items_of-writes.ensures in
    record {
      wrote = rw e at (wrote_more (omega (arith, one.wrote.index, one.upper_bound, c.requires.2)) one.wrote two.wrote);
      upper_bound = omega (arith, one.upper_bound, two.upper_bound);
    }
