-- Each finding has its line.
use borrow.Author.Rules.{rules}
use mathlib.Core.Path.{◌≡◌, sym}
use native.Mathlib.Omega.{arith}
use Prim.Native.Nat.{◌<◌}
use lib.ListN.{length}
use lib.Seq.{length-take-le, get_or-take}
use Rattle.finding_lines.proofs.print.Goals as goal

pub slice_bounds-circle-end : goal.slice_bounds-circle-end
slice_bounds-circle-end c =
    let size : length c.args.judged.circle ≡ 32 = search rules in
    omega (arith, c.requires.shown.most)

pub slice_bounds-refused-end : goal.slice_bounds-refused-end
slice_bounds-refused-end c =
    let size : length c.args.judged.circle ≡ 32 = search rules in
    sym (length-take-le _ _ (omega (arith, c.requires.shown.most)))

pub refused-requires : goal.refused-requires
refused-requires c =
    let j = c.args.judged in
    let size : length c.args.judged.circle ≡ 32 = search rules in
    let s = c.requires.shown in
    let l = length-take-le j.length j.circle (omega (arith, s.most)) in
    record {
      circle_len_bound = (omega (arith, l, s.most), λ k h. let i : k < j.length = omega (arith, l, h) in rw get_or-take (s.places k i));
      longest_line_in_bounds = c.requires.longest_line_in_bounds;
    }

pub returns-in-TooManyPieces : goal.returns-in-TooManyPieces
returns-in-TooManyPieces c = rw c.in-TooManyPieces.is c.put_text.ensures

pub returns-in-UnknownItem : goal.returns-in-UnknownItem
returns-in-UnknownItem c = rw c.in-UnknownItem.is c.put_text-in-UnknownItem.ensures

pub returns-in-Malformed : goal.returns-in-Malformed
returns-in-Malformed c = rw c.in-Malformed.is c.put_text-in-Malformed.ensures

pub returns-in-Refused : goal.returns-in-Refused
returns-in-Refused c = rw c.in-Refused.is c.refused.ensures

pub returns-in-Accepted : goal.returns-in-Accepted
returns-in-Accepted c = rw c.in-Accepted.is c.put_text-in-Accepted.ensures
