-- The bytes that count are the word; one that is too long is none of the short ones.
use borrow.Author.Rules.{rules}
use mathlib.Core.Path.{◌≡◌, sym, ap, ◌∙◌}
use native.Mathlib.Omega.{arith}
use Prim.Native.Nat.{ℕ}
use mathlib.Core.List.{List}
use lib.ListN.{length}
use lib.Seq.{length-take-le}
use Rattle.line_words.specs.Words.{same}
use Rattle.line_words.proofs.Sameness.{same_length}
use Rattle.line_words.proofs.Keeping.{count_long, front_is}
use Rattle.line_words.proofs.kept.Kept.is.Goals as goal

pub returns-then-count-gt-LONGEST : goal.returns-then-count-gt-LONGEST
returns-then-count-gt-LONGEST c = λ w k.
    let a = c.args in
    let long = count_long w a.self k c.if-count-gt-LONGEST.true in
    sym (same_length w a.word.now (λ e. omega (arith, long, c.requires)))

pub slice_bounds-bytes-end : goal.slice_bounds-bytes-end
slice_bounds-bytes-end c =
    let size : length c.args.self.bytes ≡ 32 = search rules in
    omega arith

pub slice_bounds-same-end : goal.slice_bounds-same-end
slice_bounds-same-end c =
    let size : length c.args.self.bytes ≡ 32 = search rules in
    sym (length-take-le _ _ (omega arith))

pub returns : goal.returns
returns c = λ w k.
    let a = c.args in
    c.same.ensures ∙ ap (λ (l : List ℕ). same l a.word.now) (front_is w a.self k c.if-count-gt-LONGEST.false)
