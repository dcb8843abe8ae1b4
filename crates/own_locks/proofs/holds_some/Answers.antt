-- Whoever holds one has some, and whoever holds none has none.
use Prim.Native.Nat.{ℕ}
use mathlib.Core.Path.{◌≡◌, refl, ap, ◌∙◌}
use mathlib.Core.Bool.{Bool, true, false, not}
use native.Mathlib.Omega.{arith}
use lib.Dec.{eqb}
use borrow.Author.Tests.{eq-eqb, ne_eqb, eqb-true, eqb-false}
use Rattle.std.specs.Option.{is_some}
use Rattle.std.proofs.Common.{rules}
use Rattle.names.specs.Sizes.{base}
use Rattle.rules.specs.Words.{count_below, first_from}
use Rattle.rules.specs.Tables.{lock, holds_exclusive, exclusives_of}
use Rattle.rules.proofs.Counts.{count_none, count_zero, first-le, first-least, first_passes}
use Rattle.words.specs.Below.{found_below}
use Rattle.own_locks.proofs.holds_some.Goals as goal

some-found : (n : ℕ) (p : ℕ → Bool) → is_some (found_below n (first_from p 0 n)) ≡ not (eqb (count_below n p) 0)
unfolding found_below
some-found n p = go (eqb (first_from p 0 n) n) refl
  where
    go : (b : Bool) → eqb (first_from p 0 n) n ≡ b → is_some (found_below n (first_from p 0 n)) ≡ not (eqb (count_below n p) 0)
    go true e =
        let f = eqb-true (first_from p 0 n) n e in
        rw (e, eq-eqb (count_below n p) 0 (count_none n p (λ i l t. let m = first-least p i 0 n (omega arith) (omega arith) t in absurd (omega arith)))) refl
    go false e =
        let f = eqb-false (first_from p 0 n) n e in
        let l = first-le p 0 n in
        rw (e, ne_eqb (count_below n p) 0 (λ z. count_zero n p z (first_from p 0 n) (omega arith) (first_passes p 0 n (omega arith)))) refl

pub returns : goal.returns
unfolding exclusives_of
returns c =
    let p : (ℕ → Bool) = λ x. holds_exclusive (lock c.args.locks.now x) c.args.slot.0 in
    let e : c.first_below.result ≡ found_below base.items (first_from p 0 base.items) = c.first_below.ensures p (λ i b l h. search rules) in
    c.is_some.ensures ∙ ap is_some e ∙ some-found base.items p
