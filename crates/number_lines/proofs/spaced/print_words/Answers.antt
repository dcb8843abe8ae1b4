use native.Mathlib.Omega.{arith}
use Prim.Native.Nat.{ℕ}
use mathlib.Core.Path.{◌≡◌, refl, ap, ◌∙◌}
use lib.ListN.{length, take, length-take}
use lib.Seq.{take_all}
use Rattle.numerals.proofs.Decimals.{length-spaced}
use Rattle.texts.proofs.Written.{wrote_more}
use Rattle.number_lines.proofs.Printed.{spaced-next, wrote_none}
use Rattle.number_lines.proofs.spaced.print_words.Goals as goal

pub loop-word-init : goal.loop-word-init
loop-word-init c = (refl, wrote_none c.args.out.now c.args.at)

pub print_word-end-requires : goal.print_word-end-requires
print_word-end-requires c =
    let ws = c.args.words.now in
    let i = c.loop-word.word-index in
    omega (arith, c.requires, c.loop-word-test.true, c.loop-word.invariant.0, c.loop-word.invariant.1.index, length-spaced (take i ws), length-take i ws)

pub loop-word-preserved : goal.loop-word-preserved
loop-word-preserved c =
    let ws = c.args.words.now in
    let l = c.loop-word in
    (omega arith, rw (← spaced-next ws l.word-index c.loop-word-test.true) (wrote_more (omega (arith, c.requires, c.loop-word-test.true, length-spaced (take l.word-index ws), length-take l.word-index ws)) l.invariant.1 c.print_word-end.ensures))

pub returns : goal.returns
returns c =
    let ws = c.args.words.now in
    let l = c.loop-word in
    let e : l.word-index ≡ length ws = omega arith in
    let t : take l.word-index ws ≡ ws = ap (λ (n : ℕ). take n ws) e ∙ take_all (length ws) ws (omega arith) in
    rw t at l.invariant.1
