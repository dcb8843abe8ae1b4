-- Document 01, "Sizes: 64 items (0 to 63)", and of request E5 "Slots go to 32 and versions an item to 32".
-- A rule that depends on a size takes the sizes as its first argument, so that it holds of others too.
use Rattle.std.specs.Prelude.{ℕ}
use Rattle.names.specs.declared.Sizes.{Sizes}

-- the appliance's sizes. Request E2, "an update that holds 32 items exclusively": the quota is what one update may hold so at most, a
-- number of its own
abbrev pub base : Sizes
base = record { slots = 32; items = 64; places = 32; quota = 32 }

-- the sizes of before request E5: "16 slots for live transactions, 16 versions an item"
abbrev pub sixteen : Sizes
sixteen = record { slots = 16; items = 64; places = 16; quota = 32 }

-- what is stated of both: "State the facts over the number of slots, so that 16 and 32 both follow."
abbrev pub Both : (Sizes → Type 0) → Type 0
Both P = P base × P sixteen

-- "The first stamp is 0 and the last is 4,294,967,295. Transaction numbers run from 1 to 4,294,967,295"
abbrev pub first_stamp : ℕ
first_stamp = 0

abbrev pub last_word : ℕ
last_word = 4294967295
