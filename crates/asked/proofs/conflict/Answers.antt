-- A wait that is noted already closes no circle; else it is noted in a copy, and the slot searched for from those whom it waits for there.
use Rattle.std.proofs.Common.{sym, ◌∙◌, ℕ, List, subst}
use Rattle.rules.specs.Tables.{tables}
use Rattle.rules.specs.Step.{conflicted}
use Rattle.ranks.proofs.Ranks.{ranks-small}
use Rattle.waiting.specs.Waiting.{Readable, Links}
use Rattle.waiting.proofs.Rounds.{links_slots}
use Rattle.asked.proofs.Conflicts.{noted_readable, known-free, circle-found}
use Rattle.asked.proofs.conflict.Goals as goal

pub awaits_on-requires : goal.awaits_on-requires
awaits_on-requires c = c.requires.inside

pub returns-then-awaits_on : goal.returns-then-awaits_on
unfolding conflicted
returns-then-awaits_on c = rw (known-free _ _ _ _ _ c.requires (sym c.awaits_on.ensures ∙ c.if-awaits_on.true))

pub note-requires : goal.note-requires
note-requires c = let p = c.requires in (p.inside, p.known, ranks-small (tables c.args.txns.now c.args.locks.now p.versions) p.good)

pub waits-requires : goal.waits-requires
waits-requires c =
    subst (λ (u : List ℕ). Readable u c.args.locks.now) (sym c.note.ensures) (noted_readable _ _ _ _ _ c.requires)

pub reaches-requires : goal.reaches-requires
reaches-requires c =
    let w = c.waits in
    (links_slots _ c.args.locks.now w.result.links w.ensures.1, w.ensures.1.small c.args.slot.0)

pub returns-then-reaches : goal.returns-then-reaches
unfolding conflicted
returns-then-reaches c =
    let a = c.args in
    let w = c.waits in
    let searched = circle-found a.txns.now a.locks.now a.slot.0 a.lock a.item.0 c.requires w.result.links
    (subst (λ (u : List ℕ). Links u a.locks.now w.result.links) c.note.ensures w.ensures.1) c.reaches.result c.reaches.ensures in
    rw (sym searched ∙ c.if-reaches.true)

pub returns : goal.returns
unfolding conflicted
returns c =
    let a = c.args in
    let w = c.waits in
    let searched = circle-found a.txns.now a.locks.now a.slot.0 a.lock a.item.0 c.requires w.result.links
    (subst (λ (u : List ℕ). Links u a.locks.now w.result.links) c.note.ensures w.ensures.1) c.reaches.result c.reaches.ensures in
    rw (sym searched ∙ c.if-reaches.false)
