use mathlib.Core.Path.{◌≡◌, refl, sym, ap, ◌∙◌}
use mathlib.Core.Bool.{Bool, ◌&&◌}
use Prim.Native.Nat.{ℕ, ◌+◌}
use native.Mathlib.Omega.{arith}
use lib.ListN.{get_or}
use lib.Dec.{eqb}
use Rattle.rules.specs.Words.{every_below}
use Rattle.words.specs.Zeros.{zero_words}
use Rattle.words.proofs.Turns.{every_more, or_zero}
use Rattle.words.proofs.zeros.Goals as goal

pub loop-k-init : goal.loop-k-init
unfolding every_below
loop-k-init c = refl

pub loop-k-preserved : goal.loop-k-preserved
loop-k-preserved c =
    let a = c.args in
    let k = c.loop-k.k in
    let w = get_or a.words.now (a.from + k) 0 in
    or_zero c.loop-k.acc w ∙ ap (λ (b : Bool). eqb w 0 && b) c.loop-k.invariant ∙ sym (every_more _ _)

pub returns : goal.returns
unfolding zero_words
returns c =
    let a = c.args in
    let e : c.loop-k.k ≡ a.n = omega arith in
    c.loop-k.invariant ∙ ap (λ (n : ℕ). every_below n (λ (j : ℕ). eqb (get_or a.words.now (a.from + j) 0) 0)) e
