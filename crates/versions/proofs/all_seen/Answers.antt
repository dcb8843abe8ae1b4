use mathlib.Core.Path.{sym, ◌∙◌}
use Rattle.versions.proofs.Walk.{too_new, last-hidden, begin, fails, next, ends}
use Rattle.versions.proofs.all_seen.Goals as goal

pub returns-then-starts-row : goal.returns-then-starts-row
returns-then-starts-row c = let a = c.args in too_new a.starts.now a.row.now a.m c.if-starts-row.true

pub returns-then-row-m-ne0 : goal.returns-then-row-m-ne0
returns-then-row-m-ne0 c = let a = c.args in last-hidden a.starts.now a.row.now a.m c.if-starts-row.false c.if-row-m-ne0.true

pub loop-j-init : goal.loop-j-init
loop-j-init c = let a = c.args in begin a.starts.now a.row.now a.m c.requires.0 c.if-starts-row.false c.if-row-m-ne0.false

pub returns-then-not-step_ok : goal.returns-then-not-step_ok
returns-then-not-step_ok c =
    let a = c.args in
    let l = c.loop-j in
    fails a.starts.now a.row.now a.m l.p l.j c.requires.2 l.invariant c.loop-j-test.true (sym c.step_ok.ensures ∙ c.if-not-step_ok.true)

pub skip-p-requires : goal.skip-p-requires
skip-p-requires c = (c.requires.2, c.loop-j.invariant.first.within)

pub loop-j-preserved : goal.loop-j-preserved
loop-j-preserved c =
    let a = c.args in
    let l = c.loop-j in
    next a.starts.now a.row.now a.m l.p l.j c.requires.2 l.invariant c.loop-j-test.true (sym c.step_ok.ensures ∙ c.if-not-step_ok.false) c.skip-p.result c.skip-p.ensures

pub returns : goal.returns
returns c =
    let a = c.args in
    let l = c.loop-j in
    ends a.starts.now a.row.now a.m l.p l.j c.requires.2 l.invariant c.loop-j-test.false
