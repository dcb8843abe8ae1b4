use mathlib.Core.Path.{refl}
use mathlib.Core.Logic.{inl, inr}
use native.Mathlib.Omega.{arith}
use native.Mathlib.Numerals.{add-one}
use Rattle.starts.proofs.Tells.{one_beside}
use Rattle.starts.proofs.sides.met.Goals as goal

pub returns-then-start-known : goal.returns-then-start-known
returns-then-start-known c =
    let a = c.args in
    λ qs k. one_beside qs a.stamp a.known.below a.known.next a.start k (omega arith) (λ l. omega arith) (inl refl) (omega arith) (λ l. absurd (omega arith)) (inl refl)

pub returns-then-start-stamp : goal.returns-then-start-stamp
returns-then-start-stamp c =
    let a = c.args in
    λ qs k. one_beside qs a.stamp a.known.below a.known.next a.start k (omega arith) (λ l. omega arith) (inr (omega arith, add-one a.start)) (omega arith) (λ l. absurd (omega arith)) (inl refl)

pub returns-then-known-start : goal.returns-then-known-start
returns-then-known-start c =
    let a = c.args in
    λ qs k. one_beside qs a.stamp a.known.below a.known.next a.start k (omega arith) (λ l. absurd (omega arith)) (inl refl) (omega arith) (λ l. omega arith) (inl refl)

pub returns : goal.returns
returns c =
    let a = c.args in
    λ qs k. one_beside qs a.stamp a.known.below a.known.next a.start k (omega arith) (λ l. absurd (omega arith)) (inl refl) (omega arith) (λ l. omega arith) (inr (omega arith, refl))
