-- `digit` adds a digit, or spoils the line.
use Prim.Native.Nat.{ℕ}
use mathlib.Core.Path.{ap, ◌∙◌}
use Rattle.number_lines.specs.Lines.{digit_after, held_by}
use Rattle.numerals.specs.Numbers.{with_digit}
use Rattle.number_lines.proofs.Scanned.{digit_some, digit_none}
use Rattle.number_lines.proofs.scan.Scan.digit.Goals as goal

pub returns-in_default : goal.returns-in_default
unfolding held_by digit_after
returns-in_default c = λ words. rw c.in_default.is

pub returns-in-Some : goal.returns-in-Some
returns-in-Some c = λ words.
    rw c.in-Reads.is
    (digit_some words c.in-Reads.count c.in-Reads.value c.args.byte (c.in-Some.ensures ∙ ap (λ (v : ℕ). with_digit v c.args.byte) c.unwrap_or.ensures))

pub returns-in-None : goal.returns-in-None
unfolding held_by
returns-in-None c = λ words.
    rw c.in-Reads.is
    (digit_none words c.in-Reads.count c.in-Reads.value c.args.byte (c.in-None.ensures ∙ ap (λ (v : ℕ). with_digit v c.args.byte) c.unwrap_or.ensures))
