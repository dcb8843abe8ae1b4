-- Nobody holds the item, or each slot is looked at.
use Prim.Native.Nat.{ℕ}
use mathlib.Core.Path.{◌≡◌, ap₂, ◌∙◌, subst}
use lib.Bits.{bit_or}
use Rattle.names.specs.Sizes.{base}
use Rattle.rules.specs.Words.{every_below}
use Rattle.rules.specs.Tables.{Lock}
use Rattle.sets.specs.Joined.{slot_joined, hidden_word}
use Rattle.sets.proofs.Testing.{joined_free, joined_slots}
use Rattle.sets.proofs.holders_joined.Goals as goal

pub returns-then-row-eq0 : goal.returns-then-row-eq0
returns-then-row-eq0 c =
    let a = c.args in
    joined_free a.txns.now a.locks.now a.versions.now a.item.0 (subst (λ (h : Lock). bit_or h.exclusive h.shared ≡ 0) c.lock_at-row.ensures c.if-row-eq0.true)

pub returns : goal.returns
unfolding hidden_word
returns c =
    let a = c.args in
    let m = hidden_word base a.versions.now a.item.0 in
    c.slots_joined.ensures
    ∙ ap₂ (λ (h : Lock) (w : ℕ). every_below base.slots (slot_joined a.txns.now h (bit_or w m) m)) c.lock_at-row.ensures c.have_read-readers.ensures
    ∙ joined_slots a.txns.now a.locks.now a.versions.now a.item.0
