use Prim.Native.Nat.{ℕ, ◌-◌, ◌/◌}
use mathlib.Core.Path.{◌≡◌, refl, sym, ap, ◌∙◌}
use mathlib.Core.List.{◌++◌}
use native.Mathlib.Omega.{arith}
use lib.ListN.{length, replicate, length-set}
use Rattle.rules.specs.Words.{tabulate_from}
use Rattle.chop.proofs.Linking.{tabulate_turn}
use Rattle.finest.specs.Operations.{most}
use Rattle.finest.specs.Finest.{finest_cut}
use Rattle.finest.proofs.InRows.{length-operations}
use Rattle.finest.proofs.Writing.{zeros_turn, written}
use Rattle.finest.proofs.naming.names_of.Invariants.{name}
use Rattle.finest.proofs.naming.names_of.Goals as goal

pub loop-at-init : goal.loop-at-init
unfolding tabulate_from
loop-at-init c = (refl, refl, refl)

pub loop-at-preserved : goal.loop-at-preserved
unfolding name
loop-at-preserved c =
    let words = c.args.words.now in
    let at = c.loop-at in
    (length-set at.out at.at _ ∙ at.invariant.0, tabulate_turn (name words) at.at _ at.out (omega arith) at.invariant.1 c.name_of.ensures, zeros_turn at.at _ at.out at.invariant.2)

pub returns : goal.returns
unfolding finest_cut name
returns c =
    let words = c.args.words.now in
    let at = c.loop-at in
    let e : at.at ≡ length words / 4 = omega arith in
    written at.at at.out (tabulate_from 0 at.at (name words)) at.invariant.1 at.invariant.2
    ∙ ap (λ (n : ℕ). tabulate_from 0 n (name words) ++ replicate (most - n) 0) e
    ∙ ap (λ (n : ℕ). tabulate_from 0 n (name words) ++ replicate (most - length words / 4) 0) (sym (length-operations words))
