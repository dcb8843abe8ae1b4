-- Who is not past its writing is apart; who is, is where nobody below has its stamp.
use mathlib.Core.Path.{sym, ◌∙◌}
use Rattle.rules.specs.Tables.{txn}
use Rattle.stamps.proofs.Stamps.{settled-bit, writing_apart, settled-apart}
use Rattle.stamps.proofs.apart_at.Goals as goal

pub returns-then-not-is_settled : goal.returns-then-not-is_settled
returns-then-not-is_settled c =
    let a = c.args in
    writing_apart a.txns.now a.slot (sym (settled-bit a.txns.now a.settled a.slot c.requires.0 c.requires.1) ∙ sym c.is_settled.ensures ∙ c.if-not-is_settled.true)

pub returns : goal.returns
unfolding txn
returns c =
    let a = c.args in
    c.apart.ensures ∙ settled-apart a.txns.now a.slot (sym (settled-bit a.txns.now a.settled a.slot c.requires.0 c.requires.1) ∙ sym c.is_settled.ensures ∙ c.if-not-is_settled.false)
