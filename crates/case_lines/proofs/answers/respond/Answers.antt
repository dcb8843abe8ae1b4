-- The numbers that are kept have their answer.
use Prim.Native.Nat.{ℕ}
use native.Mathlib.Omega.{arith}
use mathlib.Core.Path.{◌≡◌, refl, sym}
use mathlib.Core.List.{List}
use lib.ListN.{take}
use lib.Seq.{length-take-le}
use Rattle.std.proofs.Common.{Option, Some, None}
use Rattle.number_lines.specs.Lines.{held_by}
use Rattle.number_lines.specs.declared.scan.Scan.TheVariants.{Reads}
use Rattle.number_lines.proofs.Scanned.{take-over}
use Rattle.case_lines.specs.Answers.{answer_to, answer_at}
use Rattle.case_lines.proofs.answers.respond.Goals as goal

at_reads : (words : List ℕ) (o : Option ℕ) (n : ℕ) → answer_at (held_by words (Reads o n)) ≡ answer_to (take n words)
unfolding answer_at held_by
at_reads words (Some v) n = refl
at_reads words None n = refl

pub returns-in_default : goal.returns-in_default
unfolding answer_at held_by
returns-in_default c = rw c.in_default.is c.print_bad.ensures

pub returns-then-words-count : goal.returns-then-words-count
returns-then-words-count c =
    let w = c.args.words.now in
    let n = c.in-Reads.count in
    rw (c.in-Reads.is, at_reads w c.in-Reads.value n, take-over w n (omega (arith, c.if-words-count.true))) c.answer.ensures

pub slice_bounds-answer-end : goal.slice_bounds-answer-end
slice_bounds-answer-end c = sym (length-take-le _ _ c.if-words-count.false)

pub returns : goal.returns
returns c = rw (c.in-Reads.is, at_reads c.args.words.now c.in-Reads.value c.in-Reads.count) c.answer-2.ensures
