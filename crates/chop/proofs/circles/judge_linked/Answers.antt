-- `chop::circles::judge_linked` meets its contract.
use Prim.Native.Nat.{ℕ}
use mathlib.Core.Path.{◌≡◌, sym, ap, ◌∙◌, subst}
use mathlib.Core.Logic.{◌≢◌}
use native.Mathlib.Omega.{arith}
use lib.ListN.{length}
use Rattle.chop.specs.Pieces.{pieces_of}
use Rattle.chop.specs.Verdicts.{said}
use Rattle.chop.specs.Judgement.{closing, turning}
use Rattle.chop.proofs.Linking.{as_many}
use Rattle.chop.proofs.Verdicts.{turning_closes, turning-le, verdict-refused, verdict-accepted, found_some, found_none}
use Rattle.chop.proofs.circles.judge_linked.Goals as goal

pub refusal-requires : goal.refusal-requires
refusal-requires c =
    let a = c.args in
    let ps = pieces_of a.words.now in
    let q = as_many a.words.now a.links.now c.requires in
    let f = found_some (length a.links.now) (turning ps a.links.now) c.in-Some.b c.in-Some.ensures in
    let e = f.0 in
    let d = f.1 in
    let l = turning-le ps a.links.now in (
      c.requires,
      omega arith,
      subst (λ (b : ℕ). closing ps a.links.now b ≢ 0) (sym e) (turning_closes ps a.links.now (omega arith)),
    )

pub returns-in-Some : goal.returns-in-Some
unfolding said
returns-in-Some c =
    let a = c.args in
    let ps = pieces_of a.words.now in
    let q = as_many a.words.now a.links.now c.requires in
    let f = found_some (length a.links.now) (turning ps a.links.now) c.in-Some.b c.in-Some.ensures in
    let e = f.0 in
    let d = f.1 in
    let l = turning-le ps a.links.now in
    c.refusal.ensures ∙ ap said (sym (verdict-refused ps a.links.now c.in-Some.b e (omega arith)))

pub returns-in-None : goal.returns-in-None
unfolding said
returns-in-None c =
    let a = c.args in
    let ps = pieces_of a.words.now in
    let q = as_many a.words.now a.links.now c.requires in
    let e : length a.links.now ≡ turning ps a.links.now = sym (found_none (length a.links.now) (turning ps a.links.now) c.in-None.ensures) in
    c.plain.ensures ∙ ap said (sym (verdict-accepted ps a.links.now (length a.links.now) e (omega arith)))
