use borrow.Author.Rules.{rules}
use mathlib.Core.Path.{◌≡◌, refl, subst}
use native.Mathlib.Omega.{arith}
use lib.ListN.{length}
use Rattle.chop_rows.proofs.Writing.{Written, write_turn, write_end}
use Rattle.chop_rows.proofs.words_of.Goals as goal

pub loop-at-init : goal.loop-at-init
loop-at-init c = record { size = refl; are = λ j l. absurd (omega arith) }

pub bounds-out-first : goal.bounds-out-first
bounds-out-first c = let W = c.loop-at.invariant.size in omega arith

pub bounds-out-first-in-loop-at : goal.bounds-out-first-in-loop-at
bounds-out-first-in-loop-at c = let W = c.loop-at.invariant.size in omega arith

pub bounds-out-first-in-loop-at-2 : goal.bounds-out-first-in-loop-at-2
bounds-out-first-in-loop-at-2 c = let W = c.loop-at.invariant.size in omega arith

pub loop-at-preserved : goal.loop-at-preserved
loop-at-preserved c =
    let a = c.args in
    let at = c.loop-at in
    write_turn a.pieces at.out at.at (omega arith) at.invariant

pub returns : goal.returns
returns c =
    let a = c.args in
    let at = c.loop-at in
    let e : at.at ≡ a.count = omega arith in
    let z : length a.pieces ≡ 32 = search rules in
    (at.invariant.size, write_end a.pieces at.out a.count c.requires z (subst (Written a.pieces at.out) e at.invariant))
