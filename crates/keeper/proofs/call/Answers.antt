-- Code 10 on tables that are not good; good ones have their sizes.
use mathlib.Core.Path.{sym, ap, ◌∙◌}
use mathlib.Core.Bool.{not}
use mathlib.Core.List.{List}
use Prim.Native.Nat.{ℕ}
use Rattle.rules.specs.Step.{step}
use Rattle.names.specs.declared.Answer.{Answer}
use Rattle.names.specs.Sizes.{base}
use Rattle.rules.specs.Tables.{tables}
use Rattle.rules.specs.Answers.{outcome}
use Rattle.rules.proofs.Steps.{step-bad}
use Rattle.keeper.proofs.Admitted.{admitted, turned_away}
use Rattle.keeper.proofs.call.Goals as goal

pub returns-then-not-good : goal.returns-then-not-good
returns-then-not-good c =
    let a = c.args in
    let G = tables a.txns.now a.locks.now a.versions.now in
    ap (λ (r : Answer). outcome r G.txns G.locks G.versions) c.refused.ensures
    ∙ sym (step-bad base a.call G (turned_away G _ c.good.ensures (ap not c.if-not-good.true)))

pub unreachable-requires : goal.unreachable-requires
unreachable-requires c =
    let a = c.args in
    c.in_default.ensures.cases (admitted (tables a.txns.now a.locks.now a.versions.now) _ c.good.ensures (ap not c.if-not-good.false)).txns_exact

pub unreachable-requires-in_default-as_mut_array : goal.unreachable-requires-in_default-as_mut_array
unreachable-requires-in_default-as_mut_array c =
    let a = c.args in
    c.in_default-as_mut_array.ensures.cases (admitted (tables a.txns.now a.locks.now a.versions.now) _ c.good.ensures (ap not c.if-not-good.false)).locks_exact

pub unreachable-requires-in_default-as_mut_array-2 : goal.unreachable-requires-in_default-as_mut_array-2
unreachable-requires-in_default-as_mut_array-2 c =
    let a = c.args in
    c.in_default-as_mut_array-2.ensures.cases (admitted (tables a.txns.now a.locks.now a.versions.now) _ c.good.ensures (ap not c.if-not-good.false)).versions_exact

-- the arrays are the slices
pub call_on_good-requires : goal.call_on_good-requires
call_on_good-requires c =
    let a = c.args in
    rw (c.in-Some.ensures.cases.same, c.in-Some-as_mut_array.ensures.cases.same, c.in-Some-as_mut_array-2.ensures.cases.same)
    (admitted (tables a.txns.now a.locks.now a.versions.now) _ c.good.ensures (ap not c.if-not-good.false))

pub returns : goal.returns
returns c =
    let a = c.args in
    c.call_on_good.ensures
    ∙ ap (λ (t : List ℕ). step base a.call (tables t c.in-Some-as_mut_array.locks.now c.in-Some-as_mut_array-2.versions.now)) c.in-Some.ensures.cases.same
    ∙ ap (λ (l : List ℕ). step base a.call (tables a.txns.now l c.in-Some-as_mut_array-2.versions.now)) c.in-Some-as_mut_array.ensures.cases.same
    ∙ ap (λ (v : List ℕ). step base a.call (tables a.txns.now a.locks.now v)) c.in-Some-as_mut_array-2.ensures.cases.same
