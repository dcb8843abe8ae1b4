-- A bad line first, then the count, then the items, then the pieces.
use borrow.Author.Rules.{rules}
use Prim.Native.Nat.{◌*◌}
use mathlib.Core.Path.{◌≡◌, sym, ◌∙◌}
use native.Mathlib.Omega.{arith}
use lib.ListN.{length}
use lib.Seq.{length-take-le}
use Rattle.told_lines.proofs.Counting.{bad-most}
use Rattle.fining.proofs.Saying.{text_bad, said-many, said-unknown, said-cut}
use Rattle.fining.proofs.says.say.Goals as goal

pub returns-in-Some : goal.returns-in-Some
returns-in-Some c =
    let w = c.say_bad.ensures in
    let a = c.args.tally in
    record { upper_bound = omega (arith, w.index, bad-most c.in-Some.bad, c.requires); wrote = λ ss k. rw (sym (text_bad ss c.in-Some.bad (sym c.in-Some.is ∙ k.bad))) w }

pub returns-then-count-gt-MOST : goal.returns-then-count-gt-MOST
returns-then-count-gt-MOST c =
    let w = c.put_text.ensures in
    let a = c.args.tally in
    record { upper_bound = omega (arith, w.index, c.requires); wrote = λ ss k. rw (sym (said-many ss a k c.in_default.is c.if-count-gt-MOST.true)) w }

pub returns-then-unknown : goal.returns-then-unknown
returns-then-unknown c =
    let w = c.put_text-then-unknown.ensures in
    let a = c.args.tally in
    record { upper_bound = omega (arith, w.index, c.requires); wrote = λ ss k. rw (sym (said-unknown ss a k c.in_default.is c.if-count-gt-MOST.false c.if-unknown.true)) w }

pub slice_bounds-rows-end : goal.slice_bounds-rows-end
slice_bounds-rows-end c =
    let size : length c.args.tally.operations.rows ≡ 128 = search rules in
    omega (arith, c.if-count-gt-MOST.false)

pub slice_bounds-finest-end : goal.slice_bounds-finest-end
slice_bounds-finest-end c =
    let size : length c.args.tally.operations.rows ≡ 128 = search rules in
    sym (length-take-le _ _ (omega (arith, c.if-count-gt-MOST.false)))

pub slice_bounds-rows-end-2 : goal.slice_bounds-rows-end-2
slice_bounds-rows-end-2 c =
    let size : length c.args.tally.operations.rows ≡ 128 = search rules in
    omega (arith, c.if-count-gt-MOST.false)

pub slice_bounds-print_cut-end-2 : goal.slice_bounds-print_cut-end-2
slice_bounds-print_cut-end-2 c =
    let size : length c.args.tally.operations.rows ≡ 128 = search rules in
    sym (length-take-le _ _ (omega (arith, c.if-count-gt-MOST.false)))

pub slice_bounds-cut-end : goal.slice_bounds-cut-end
slice_bounds-cut-end c =
    let size : length c.finest-named.result.names ≡ 32 = search rules in
    omega (arith, c.if-count-gt-MOST.false)

pub print_cut-requires : goal.print_cut-requires
print_cut-requires c =
    let a = c.args.tally.operations in
    let size : length c.args.tally.operations.rows ≡ 128 = search rules in
    let wide : length c.finest-named.result.names ≡ 32 = search rules in
    let l = length-take-le (a.count * 4) a.rows (omega (arith, c.if-count-gt-MOST.false)) in
    let m = length-take-le a.count c.finest-named.result.names (omega (arith, c.if-count-gt-MOST.false)) in
    (record { few = omega (arith, l, c.if-count-gt-MOST.false); each = omega (arith, l, m) }, c.requires)

pub returns : goal.returns
returns c =
    let w = c.print_cut.ensures in
    let a = c.args.tally in
    record { upper_bound = omega (arith, w.upper_bound, c.requires); wrote = λ ss k. rw (sym (said-cut ss a k c.in_default.is c.if-count-gt-MOST.false c.if-unknown.false c.finest-named.result c.finest-named.ensures)) w.wrote }
