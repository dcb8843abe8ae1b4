-- A digit more, as long as all are digits and the number is not too great.
use mathlib.Core.Path.{◌≡◌, sym, ap, ◌∙◌}
use mathlib.Core.List.{[], ◌∷◌, ◌++◌}
use Rattle.std.specs.Prelude.{None}
use native.Mathlib.Omega.{arith}
use Rattle.numerals.specs.Numbers.{with_digit}
use Rattle.line_words.specs.Held.{number_in}
use Rattle.line_words.proofs.Keeping.{digits-before, no_number, is_none, number_on}
use Rattle.line_words.proofs.digits.Digits.push.Goals as goal

pub returns-in_default : goal.returns-in_default
returns-in_default c = λ w k.
    let n : None ≡ number_in w = sym c.in_default.is ∙ k.value in
    record { value = c.in_default.is ∙ sym (no_number (w ++ (c.args.byte ∷ [])) (digits-before w c.args.byte (is_none w n))) }

pub returns : goal.returns
returns c = λ w k. record { value = c.with_digit.ensures ∙ ap (λ v. with_digit v c.args.byte) (omega arith) ∙ number_on w c.args.byte (sym c.in-Some.is ∙ k.value) }
