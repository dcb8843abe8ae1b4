use mathlib.Core.Path.{sym}
use native.Mathlib.Omega.{arith}
use Rattle.words.proofs.SlotWords.{shifted}
use Rattle.circles.proofs.Visiting.{nothing_todo, goal_met, fewer, visited, visit}
use Rattle.circles.proofs.+search.Goals as goal

pub returns-then-todo-eq0 : goal.returns-then-todo-eq0
returns-then-todo-eq0 t c = nothing_todo c.args.waits.now c.args.todo c.args.goal c.if-todo-eq0.true

pub returns-then-slot-goal : goal.returns-then-slot-goal
returns-then-slot-goal t c =
    let a = c.args in
    let at = c.lowest-slot in
    goal_met a.waits.now a.todo a.goal at.result at.ensures.1 c.if-slot-goal.true

pub search-requires : goal.search-requires
search-requires t c =
    let a = c.args in
    let p = c.requires in
    let i = c.lowest-slot.result in
    let l = c.lowest-slot.ensures in
    let s = shifted i (omega arith) in
    let less = fewer a.waits.now a.done a.todo a.goal i p.0 p.1 l.0 l.1 in
    let still = visited a.waits.now a.done a.todo a.goal i p.0 p.1 l.0 l.1 c.if-slot-goal.false in
    rw s (rw (sym c.decreases) less, (p.0, still))

pub returns : goal.returns
returns t c =
    let a = c.args in
    let p = c.requires in
    let i = c.lowest-slot.result in
    let l = c.lowest-slot.ensures in
    let s = shifted i (omega arith) in
    visit a.waits.now a.done a.todo a.goal i p.0 p.1 l.0 l.1 c.if-slot-goal.false
    c.search.result (rw s at c.search.ensures)
