-- Request E4: "Waiters on an item now stand in the order of their first wait." A newcomer stands last (rules: NewcomerLast), or ahead of
-- those who hold nothing, if it shares the item; and whoever waits keeps its place.
use Rattle.std.specs.Prelude.{ℕ, ◌<◌, T}
use Rattle.names.specs.declared.Sizes.{Sizes}
use Rattle.rules.specs.Tables.{Tables, txn}
use Rattle.rules.specs.Waits.{awaits_on}
use Rattle.rules.specs.Good.{Good}
use Rattle.rules.specs.Answers.{Call}
use Rattle.rules.specs.Promises.{after}

-- of two slots that wait on the item x before a call and after it, the one that stood ahead stands ahead, whatever the call is
abbrev pub OrderKept : Sizes → Type 0
OrderKept S =
    (c : Call) (G : Tables) (x a b : ℕ) → Good S G → a < S.slots → b < S.slots
    → T (awaits_on x (txn G.txns a)) → T (awaits_on x (txn G.txns b))
    → T (awaits_on x (txn (after S c G).txns a)) → T (awaits_on x (txn (after S c G).txns b))
    → (txn G.txns a).rank < (txn G.txns b).rank
    → (txn (after S c G).txns a).rank < (txn (after S c G).txns b).rank
