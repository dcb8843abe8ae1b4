-- A call is made and its answer printed, else `bad`.
use Rattle.rules.specs.Tables.{Tables, tables}
use Rattle.running.proofs.Replied.{wrote_as, call_reply, call-after, bad_reply, bad-after}
use Rattle.running.proofs.replies.respond.Goals as goal

pub returns-in_default : goal.returns-in_default
returns-in_default c =
    let a = c.args in
    let G : Tables = tables a.txns.now a.locks.now a.versions.now in
    let q = c.in_default.is in
    record { wrote = wrote_as (bad_reply G q) c.print_bad.ensures; versions_after = bad-after G q }

pub returns : goal.returns
returns c =
    let a = c.args in
    let G : Tables = tables a.txns.now a.locks.now a.versions.now in
    let q = c.in-Some.is in
    let e = c.call-answer.ensures in
    record { wrote = wrote_as (call_reply _ _ _ _ _ G q e) c.print.ensures; versions_after = call-after _ _ _ _ _ G q e }
