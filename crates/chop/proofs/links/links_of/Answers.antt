use Prim.Native.Nat.{ℕ, ◌/◌}
use mathlib.Core.Path.{◌≡◌, refl, sym, ap, ap₂, ◌∙◌}
use native.Mathlib.Omega.{arith}
use lib.ListN.{length, take, length-set}
use lib.Bits.{bit_or}
use Rattle.rules.specs.Words.{tabulate_from}
use Rattle.chop.specs.Judgement.{links_of}
use Rattle.chop.proofs.InRows.{length-pieces}
use Rattle.chop.proofs.Linking.{tabulate_turn}
use Rattle.chop.proofs.links.links_of.Invariants.{link_word}
use Rattle.chop.proofs.links.links_of.Goals as goal

pub loop-at-init : goal.loop-at-init
unfolding tabulate_from
loop-at-init c = (refl, refl)

pub loop-at-preserved : goal.loop-at-preserved
unfolding link_word
loop-at-preserved c =
    let at = c.loop-at in
    (length-set at.out at.at _ ∙ at.invariant.0, tabulate_turn (link_word c.args.words.now) at.at _ at.out (omega arith) at.invariant.1 (ap₂ bit_or c.siblings_of.ensures c.conflicts_of.ensures))

pub returns : goal.returns
unfolding links_of link_word
returns c =
    let words = c.args.words.now in
    let at = c.loop-at in
    let e : at.at ≡ length words / 3 = omega arith in
    ap (λ (n : ℕ). take n at.out) (sym e) ∙ at.invariant.1 ∙ ap (λ (n : ℕ). tabulate_from 0 n (link_word words)) (e ∙ sym (length-pieces words))
