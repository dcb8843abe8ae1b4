use Prim.Native.Nat.{◌+◌, ◌/◌, ◌<◌}
use mathlib.Core.Path.{sym}
use native.Mathlib.Omega.{arith}
use lib.Dec.{ltb}
use borrow.Author.Tests.{ltb-true}
use Rattle.rules.proofs.Tests.{true_is, is_true, and_left, not_use}
use Rattle.choices.specs.Pairs.{count_in}
use Rattle.choices.proofs.Halved.{few_looks, begin, turned_right, turned_left, done, looked_enough, seen_lem}
use Rattle.choices.proofs.place_by.Goals as goal
use Rattle.choices.proofs.place_by.Goals.{then-too_new, else-too_new}

pub loop-lo-init : goal.loop-lo-init
loop-lo-init g c =
    let r = c.args.row.now in
    let m = c.requires.sound.least in
    (omega arith, omega arith, λ q f tells. (begin r q f, few_looks r q f))

pub loop-lo-preserved : goal.loop-lo-preserved
loop-lo-preserved g c =
    let r = c.args.row.now in
    let l = c.loop-lo in
    let o = l.invariant.1 in
    let inside : l.lo < l.hi = ltb-true l.lo l.hi (is_true (ltb l.lo l.hi) (and_left (ltb l.lo l.hi) _ (true_is c.loop-lo-test.true))) in
    let middle : (l.lo + l.hi) / 2 < count_in r = omega arith in
    elim c.if-too_new.branch [
      | then-too_new w ↦ (
        (let a = w.lo-is in let b = w.hi-is in omega arith),
        (let a = w.lo-is in let b = w.hi-is in omega arith),
        λ q f tells.
            let i = l.invariant.2 q f tells in
            turned_right r q f l.lo l.hi i.0 inside l.looks i.1 (not_use _ (true_is (sym (tells _ _ middle w.if-too_new.ensures)))) w.lo-is w.hi-is,
      )
      | else-too_new w ↦ (
        (let a = w.lo-is in let b = w.hi-is in omega arith),
        (let a = w.lo-is in let b = w.hi-is in omega arith),
        λ q f tells.
            let i = l.invariant.2 q f tells in
            turned_left r q f l.lo l.hi i.0 inside l.looks i.1 (seen_lem _ (tells _ _ middle w.if-too_new.ensures)) w.lo-is w.hi-is,
      )
    ]

pub returns : goal.returns
returns g c = λ q f tells.
    let l = c.loop-lo in
    let i = l.invariant.2 q f tells in
    done c.args.row.now q f l.lo l.hi i.0 (looked_enough l.lo l.hi l.looks i.1 c.loop-lo-test.false)
