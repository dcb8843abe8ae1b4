-- What a wait notes; request E4: the caller's place in the line, and the ranks behind it; request E11: the sets that it joins. Request E6: the waits of queries and of those
-- past their writing "change no word".
use Rattle.std.specs.Prelude.{ℕ, Bool, cond, List, length, ◌==◌, nat_le, nat_lt}
use Rattle.names.specs.Sizes.{base}
use Rattle.rules.specs.Words.{every_below}
use Rattle.rules.specs.Tables.{txn_words, lock_words, slot_of, txn, an_update, shared_lock, exclusive_lock}
use Rattle.rules.specs.Waits.{noted}
use Rattle.rules.specs.Step.{joined, asking_joins}
use Rattle.rules.specs.Answers.{Call, BeginUpdate, BeginQuery, Read, Write, Commit, Abort, Settle, BeginRelaxed}

-- the transactions with the wait of slot s noted, if it is an update's that still writes
unfoldable pub awaited_by : List ℕ → List ℕ → ℕ → ℕ → ℕ → List ℕ
awaited_by t l s k x = cond ((txn t s).kind == an_update) (joined (noted base t l s k x) s (asking_joins base t k x)) t

-- the same of the live transaction n; where there is none, or no such item, they stay as they are
unfoldable pub awaited : List ℕ → List ℕ → ℕ → ℕ → ℕ → List ℕ
awaited t l n k x =
    cond (slot_of base t n == base.slots) t (cond (nat_lt x base.items) (awaited_by t l (slot_of base t n) k x) t)

-- the transactions as a call leaves them that waits
unfoldable pub waited_in : Call → List ℕ → List ℕ → List ℕ
waited_in BeginUpdate t l = t
waited_in BeginQuery t l = t
waited_in (Read n x) t l = awaited t l n shared_lock x
waited_in (Write n x v) t l = awaited t l n exclusive_lock x
waited_in (Commit n) t l = t
waited_in (Abort n) t l = t
waited_in (Settle n) t l = t
waited_in BeginRelaxed t l = t

-- nobody waits in words of another length, nor where a rank is above the number of slots
unfoldable pub rank_small : List ℕ → ℕ → Bool
rank_small t s = nat_le (txn t s).rank base.slots

unfoldable pub ranks_small : List ℕ → Bool
ranks_small t = every_below base.slots (rank_small t)

unfoldable pub waited : Call → List ℕ → List ℕ → List ℕ
waited c t l =
    cond (length t == txn_words base) (cond (length l == lock_words base) (cond (ranks_small t) (waited_in c t l) t) t) t
