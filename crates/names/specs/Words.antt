-- What a word says as a stamp, an item or a transaction's number, and where a count is held.
use Rattle.std.specs.Prelude.{ℕ, ◌+◌, cond, ◌||◌, eqb, ltb, Option, Some, None}
use Rattle.names.specs.Sizes.{base, last_word}
use Rattle.names.specs.declared.Stamp.{Stamp}
use Rattle.names.specs.declared.Item.{Item}
use Rattle.names.specs.declared.Number.{Number}

-- one more, up to the last
unfoldable pub next_stamp : Stamp → Option Stamp
next_stamp s = cond (ltb s.0 last_word) (Some (record { 0 = s.0 + 1 })) None

-- "64 items (0 to 63)"
unfoldable pub item_of : ℕ → Option Item
item_of w = cond (ltb w base.items) (Some (record { 0 = w })) None

-- "from 1 to 4,294,967,295"
unfoldable pub number_of : ℕ → Option Number
number_of w = cond (eqb w 0 || ltb last_word w) None (Some (record { 0 = w }))

-- request E8, "held at 4,294,967,295 once there": up to there a number is itself
unfoldable pub held_at_last : ℕ → ℕ
held_at_last n = cond (ltb last_word n) last_word n
