-- The words of the rows decide, but where a relaxed query lives.
use mathlib.Core.Path.{◌∙◌}
use Rattle.sets.proofs.Testing.{sets_out, sets_none, sets_beside, sets_joined}
use Rattle.sets.proofs.sets_pass.Goals as goal

pub returns-then-relaxed-later : goal.returns-then-relaxed-later
returns-then-relaxed-later c =
    let a = c.args in
    let p = c.requires in
    sets_out a.txns.now a.locks.now a.versions.now p.0 p.1 p.2 c.if-relaxed-later.true

pub returns-then-relaxed-eq0 : goal.returns-then-relaxed-eq0
returns-then-relaxed-eq0 c =
    let a = c.args in
    let p = c.requires in
    sets_none a.txns.now a.locks.now a.versions.now p.0 p.1 p.2 c.if-relaxed-later.false c.if-relaxed-eq0.true

pub returns-then-settled-ne0 : goal.returns-then-settled-ne0
returns-then-settled-ne0 c =
    let a = c.args in
    let p = c.requires in
    sets_beside a.txns.now a.locks.now a.versions.now p.0 p.1 p.2 c.if-relaxed-later.false c.if-relaxed-eq0.false c.if-settled-ne0.true

pub returns : goal.returns
returns c =
    let a = c.args in
    let p = c.requires in
    c.all_joined.ensures
    ∙ sets_joined a.txns.now a.locks.now a.versions.now p.0 p.1 p.2 c.if-relaxed-later.false c.if-relaxed-eq0.false c.if-settled-ne0.false
