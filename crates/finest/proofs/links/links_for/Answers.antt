use Prim.Native.Nat.{ℕ, ◌/◌}
use mathlib.Core.Path.{◌≡◌, refl, sym, ap, ◌∙◌}
use native.Mathlib.Omega.{arith}
use lib.ListN.{length, take, length-set}
use Rattle.rules.specs.Words.{tabulate_from}
use Rattle.chop.proofs.Linking.{tabulate_turn}
use Rattle.finest.specs.Finest.{links_for}
use Rattle.finest.proofs.InRows.{length-operations}
use Rattle.finest.proofs.links.links_for.Invariants.{link_word}
use Rattle.finest.proofs.links.links_for.Goals as goal

pub loop-at-init : goal.loop-at-init
unfolding tabulate_from
loop-at-init c = (refl, refl)

pub loop-at-preserved : goal.loop-at-preserved
unfolding link_word
loop-at-preserved c =
    let a = c.args in
    let words = a.words.now in
    let at = c.loop-at in
    (length-set at.out at.at _ ∙ at.invariant.0, tabulate_turn (link_word words a.t (length words / 4)) at.at _ at.out (omega arith) at.invariant.1 c.links_at.ensures)

pub returns : goal.returns
unfolding links_for link_word
returns c =
    let a = c.args in
    let words = a.words.now in
    let at = c.loop-at in
    let e : at.at ≡ length words / 4 = omega arith in
    ap (λ (n : ℕ). take n at.out) (sym e)
    ∙ at.invariant.1
    ∙ ap (λ (n : ℕ). tabulate_from 0 n (link_word words a.t (length words / 4))) e
    ∙ ap (λ (n : ℕ). tabulate_from 0 n (link_word words a.t n)) (sym (length-operations words))
