-- `chop::circles::refusal` meets its contract: `Asked` is what it computes on its way.
use mathlib.Core.Path.{ap, ◌∙◌}
use native.Mathlib.Omega.{arith}
use Rattle.graph.specs.Sets.{lowest}
use Rattle.chop.proofs.Linking.{as_rows}
use Rattle.chop.proofs.Refusing.{Asked, goal_small, from-small, count_small, refusal_is}
use Rattle.chop.proofs.circles.refusal.Goals as goal

pub siblings_of-requires : goal.siblings_of-requires
siblings_of-requires c =
    let p = c.requires in
    let a = c.args in
    let q = as_rows a.words.now a.links.now p.0 in
    let f = p.0.few in
    (omega arith, omega arith)

pub others-room-requires : goal.others-room-requires
others-room-requires c = c.requires.0.few

pub closing-requires : goal.closing-requires
closing-requires c = (c.requires.0, c.requires.1)

pub distance-count-requires : goal.distance-count-requires
distance-count-requires c =
    let a = c.args in
    let p = c.requires in
    let f = p.0.few in (
      omega arith,
      goal_small a.words.now a.links.now p.0 a.b p.1 p.2 _ (c.lowest-goal.ensures ∙ ap lowest c.siblings_of.ensures),
      from-small a.words.now a.links.now p.0 a.b p.1 p.2 _ (c.lowest-from.ensures ∙ ap lowest c.closing.ensures),
    )

pub put_way-requires : goal.put_way-requires
put_way-requires c =
    let a = c.args in
    let p = c.requires in
    let A : Asked a.words.now a.links.now p.0 a.b p.1 p.2 c.others-room.result c.lowest-goal.result c.lowest-from.result c.distance-count.result =
    record {
      room_is = c.others-room.ensures;
      goal_is = c.lowest-goal.ensures ∙ ap lowest c.siblings_of.ensures;
      from_is = c.lowest-from.ensures ∙ ap lowest c.closing.ensures;
      count_is = c.distance-count.ensures;
    } in
    let f = p.0.few in
    let m = count_small a.words.now a.links.now p.0 a.b p.1 p.2 _ _ _ _ A in
    (omega arith, goal_small a.words.now a.links.now p.0 a.b p.1 p.2 _ A.goal_is, omega arith)

pub overflow_add-result : goal.overflow_add-result
overflow_add-result c =
    let a = c.args in
    let p = c.requires in
    let A : Asked a.words.now a.links.now p.0 a.b p.1 p.2 c.others-room.result c.lowest-goal.result c.lowest-from.result c.distance-count.result =
    record {
      room_is = c.others-room.ensures;
      goal_is = c.lowest-goal.ensures ∙ ap lowest c.siblings_of.ensures;
      from_is = c.lowest-from.ensures ∙ ap lowest c.closing.ensures;
      count_is = c.distance-count.ensures;
    } in
    let m = count_small a.words.now a.links.now p.0 a.b p.1 p.2 _ _ _ _ A in
    omega arith

pub returns : goal.returns
returns c =
    let a = c.args in
    let p = c.requires in
    let A : Asked a.words.now a.links.now p.0 a.b p.1 p.2 c.others-room.result c.lowest-goal.result c.lowest-from.result c.distance-count.result =
    record {
      room_is = c.others-room.ensures;
      goal_is = c.lowest-goal.ensures ∙ ap lowest c.siblings_of.ensures;
      from_is = c.lowest-from.ensures ∙ ap lowest c.closing.ensures;
      count_is = c.distance-count.ensures;
    } in
    refusal_is a.words.now a.links.now p.0 a.b p.1 p.2 _ _ _ _ A _ c.put_way.ensures
