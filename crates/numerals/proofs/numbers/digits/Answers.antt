use mathlib.Core.Path.{◌≡◌, refl, sym, ◌∙◌}
use mathlib.Core.Bool.{true, false}
use lib.ListN.{get_or, length}
use native.Mathlib.Omega.{arith}
use Rattle.numerals.specs.Numbers.{digit}
use Rattle.numerals.proofs.Scans.{digits_end, digits_stop, digits_on, digits_none}
use Rattle.numerals.proofs.numbers.digits.Goals as goal

pub loop-k-init : goal.loop-k-init
loop-k-init c = refl

pub returns-then-not-digit : goal.returns-then-not-digit
returns-then-not-digit c =
    let a = c.args in
    let e : digit (get_or a.line.now c.loop-k.k 0) ≡ false = sym c.digit.ensures ∙ c.if-not-digit.true in
    sym (digits_stop a.line.now c.loop-k.k c.loop-k.value c.loop-k-test.true e) ∙ c.loop-k.invariant

pub returns-in_err-value : goal.returns-in_err-value
returns-in_err-value c =
    let k = c.loop-k.k in
    let l = c.args.line.now in
    let e : digit (get_or l k 0) ≡ true = sym c.digit.ensures ∙ c.if-not-digit.false in
    rw c.from_residual.ensures (sym (digits_none l k c.loop-k.value c.loop-k-test.true e c.in_err-value.ensures) ∙ c.loop-k.invariant)

pub loop-k-preserved : goal.loop-k-preserved
loop-k-preserved c =
    let k = c.loop-k.k in
    let l = c.args.line.now in
    let e : digit (get_or l k 0) ≡ true = sym c.digit.ensures ∙ c.if-not-digit.false in
    sym (digits_on l k c.loop-k.value c.loop-k-test.true e c.in_ok-value.ensures) ∙ c.loop-k.invariant

pub returns : goal.returns
returns c =
    let l = c.args.line.now in
    let v = c.loop-k.value in
    digits_end l (length l) c.loop-k.k v (omega arith) c.loop-k-test.false ∙ c.loop-k.invariant
