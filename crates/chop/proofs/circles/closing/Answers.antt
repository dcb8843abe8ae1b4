-- `chop::circles::closing` meets its contract.
use Prim.Native.Nat.{ℕ}
use mathlib.Core.Path.{◌≡◌, sym, ap, ap₂, ◌∙◌}
use mathlib.Core.Logic.{◌≢◌}
use native.Mathlib.Omega.{arith}
use borrow.Author.Tests.{ne_eqb}
use lib.Bits.{bit_and}
use Rattle.graph.specs.Sets.{lowest}
use Rattle.graph.specs.Near.{joined}
use Rattle.chop.specs.Pieces.{pieces_of}
use Rattle.chop.specs.Judgement.{siblings_of, others, closing}
use Rattle.chop.proofs.Closing.{goal_sibling_lem}
use Rattle.chop.proofs.Linking.{as_many, as_rows, few-pieces}
use Rattle.chop.proofs.circles.closing.Goals as goal

pub siblings_of-siblings-requires : goal.siblings_of-siblings-requires
siblings_of-siblings-requires c =
    let p = c.requires in
    let a = c.args in
    let q = as_rows a.words.now a.links.now p.0 in
    let f = p.0.few in
    (omega arith, omega arith)

pub returns-then-siblings-eq0 : goal.returns-then-siblings-eq0
unfolding closing
returns-then-siblings-eq0 c =
    let e : siblings_of (pieces_of c.args.words.now) c.args.b ≡ 0 = sym c.siblings_of-siblings.ensures ∙ c.if-siblings-eq0.true in
    rw e

pub others-room-requires : goal.others-room-requires
others-room-requires c = c.requires.0.few

pub joined-reached-requires : goal.joined-reached-requires
joined-reached-requires c =
    let a = c.args in
    let p = c.requires in
    let some : siblings_of (pieces_of a.words.now) a.b ≢ 0 = λ e. c.if-siblings-eq0.false (c.siblings_of-siblings.ensures ∙ e) in
    let g = (goal_sibling_lem (pieces_of a.words.now) (few-pieces a.words.now a.links.now p.0) a.b some).0 in
    let m = few-pieces a.words.now a.links.now p.0 in
    let e = c.lowest-goal.ensures ∙ ap lowest c.siblings_of-siblings.ensures in
    let f = p.0.few in
    (omega arith, omega arith)

pub conflicts_of-requires : goal.conflicts_of-requires
conflicts_of-requires c =
    let p = c.requires in
    let a = c.args in
    let q = as_rows a.words.now a.links.now p.0 in
    let f = p.0.few in
    (omega arith, omega arith)

pub returns : goal.returns
unfolding closing
returns c =
    let a = c.args in
    let p = c.requires in
    let s = c.siblings_of-siblings.ensures in
    let some : siblings_of (pieces_of a.words.now) a.b ≢ 0 = λ e. c.if-siblings-eq0.false (s ∙ e) in
    let room = c.others-room.ensures ∙ ap (λ (n : ℕ). others n a.b) (as_many a.words.now a.links.now p.0) in
    let goal = c.lowest-goal.ensures ∙ ap lowest s in
    rw (ne_eqb (siblings_of (pieces_of a.words.now) a.b) 0 some)
    (ap₂ bit_and c.conflicts_of.ensures (c.joined-reached.ensures ∙ ap₂ (joined a.links.now) room goal))
