-- The ranks that the test lets pass.
use Rattle.std.proofs.Common.{◌≡◌, ℕ, true, List, sym, ◌∙◌, leb→le}
use Rattle.names.specs.Sizes.{base}
use Rattle.rules.proofs.Tests.{true_is}
use Rattle.rules.proofs.Counts.{every_below→}
use Rattle.ranks.specs.Lines.{RanksSmall}
use Rattle.tally.specs.Noted.{rank_small, ranks_small}
use Rattle.tally.proofs.noted.note.Goals as goal

small : (t : List ℕ) → ranks_small t ≡ true → RanksSmall t
unfolding ranks_small rank_small
small t h = record { at = λ s i. leb→le _ _ (every_below→ base.slots (rank_small t) (true_is h) s i) }

pub note_in-requires : goal.note_in-requires
note_in-requires c = small _ (sym c.ranks_small.ensures ∙ c.if-ranks_small.true)
