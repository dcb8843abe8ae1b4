-- Who is found stands in a slot.
use Rattle.std.proofs.Common.{◌≡◌, ℕ, ◌<◌, ◌≤◌, ◌&&◌, Some, List, eqb, sym, ◌∙◌, arith, rules}
use Rattle.names.specs.Sizes.{base}
use Rattle.names.specs.Words.{item_of}
use Rattle.names.specs.declared.Slot.{Slot}
use Rattle.rules.specs.Tables.{txn, live, slot_of}
use Rattle.rules.proofs.Counts.{first-le}
use Rattle.rows.specs.Founds.{found_at}
use Rattle.tally.proofs.noted.awaits.Goals as goal

most : (t : List ℕ) (n : ℕ) → slot_of base t n ≤ base.slots
unfolding slot_of
most t n = first-le (λ s. live (txn t s) && eqb (txn t s).number n) 0 base.slots

inside : (k : ℕ) (s : Slot) → k ≤ base.slots → found_at k ≡ Some s → s.0 < base.slots
unfolding found_at
inside k s h e = grind arith

pub awaits_by-requires : goal.awaits_by-requires
unfolding item_of
awaits_by-requires c =
    let a = c.args in
    (inside (slot_of base a.txns.now a.number) _ (most a.txns.now a.number) (sym c.slot_of.ensures ∙ c.in-Some.is), search rules, c.requires)
