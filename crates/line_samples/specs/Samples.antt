-- Small runs in which updates wait in line for item 5, with the codes that they are answered; and what they say of request E4's promise:
-- each of its suppositions is needed.
use Rattle.std.specs.Prelude.{ℕ, ◌≢◌, List, [], ◌∷◌, ◌++◌, T}
use Rattle.names.specs.Sizes.{base}
use Rattle.rules.specs.Tables.{Tables, fresh, txn, live_settled, lock, holds}
use Rattle.rules.specs.Answers.{Call, BeginUpdate, BeginQuery, Read, Write, Commit, Abort, Settle}
use Rattle.rules.specs.Conditions.{Caller}
use Rattle.history.specs.Runs.{Event, run, end_of}
use Rattle.line.specs.Served.{Before, Gone, StillWaits, AllEnded, NoneExchanges, ServedWhere}

-- the codes that the calls cs from fresh tables are answered
unfoldable pub codes_in : List Event → List ℕ
codes_in [] = []
codes_in (e ∷ es) = e.answer.code ∷ codes_in es

unfoldable pub codes : List Call → List ℕ
codes cs = codes_in (run base cs (fresh base))

-- update 1 writes the item, and update 2 waits to read it
unfoldable pub held : List Call
held = BeginUpdate ∷ BeginUpdate ∷ Write 1 5 7 ∷ Read 2 5 ∷ []

-- ---- served
-- 1 has ended; 3, a later comer, shares the item: 2 is granted it
unfoldable pub reader : List Call
reader = held ++ (Commit 1 ∷ BeginUpdate ∷ Read 3 5 ∷ Read 2 5 ∷ [])

unfoldable pub reader_codes : List ℕ
reader_codes = 0 ∷ 0 ∷ 0 ∷ 1 ∷ 0 ∷ 0 ∷ 0 ∷ 0 ∷ []

-- "an upload waited all night behind a stream of readers": 2 waits to write what 1 shares, and no reader that comes later passes it
unfoldable pub upload : List Call
upload =
    BeginUpdate ∷ BeginUpdate ∷ Read 1 5 ∷ Write 2 5 7 ∷ BeginUpdate ∷ Read 3 5 ∷ Commit 1 ∷ BeginUpdate ∷ Read 4 5 ∷ Write 2 5 7 ∷ []

unfoldable pub upload_codes : List ℕ
upload_codes = 0 ∷ 0 ∷ 0 ∷ 1 ∷ 0 ∷ 1 ∷ 0 ∷ 0 ∷ 1 ∷ 0 ∷ []

-- request E6: 1 shares the item and settles; "its shared locks go", and 2, which waits to write, is granted it
unfoldable pub share_gone : List Call
share_gone = BeginUpdate ∷ BeginUpdate ∷ Read 1 5 ∷ Write 2 5 7 ∷ Settle 1 ∷ Write 2 5 7 ∷ []

unfoldable pub share_gone_codes : List ℕ
share_gone_codes = 0 ∷ 0 ∷ 0 ∷ 1 ∷ 0 ∷ 0 ∷ []

-- 1, which wrote the item, settles and keeps it: 2 waits on, and so does query 3, which begins then. Both read when 1 has ended
unfoldable pub settle : List Call
settle = Settle 1 ∷ []

unfoldable pub past_writing : List Call
past_writing = held ++ (settle ++ (Read 2 5 ∷ BeginQuery ∷ Read 3 5 ∷ Commit 1 ∷ Read 2 5 ∷ Read 3 5 ∷ []))

unfoldable pub past_writing_codes : List ℕ
past_writing_codes = 0 ∷ 0 ∷ 0 ∷ 1 ∷ 0 ∷ 1 ∷ 0 ∷ 1 ∷ 0 ∷ 0 ∷ 0 ∷ []

-- ---- not served
-- "every waiter ahead .. has ended" is needed: 2 waits to write what 1 wrote, and 3 waits behind it to read; when 1 has ended, 2 does not
-- ask again
unfoldable pub queued : List Call
queued = BeginUpdate ∷ BeginUpdate ∷ BeginUpdate ∷ Write 1 5 7 ∷ Write 2 5 8 ∷ Read 3 5 ∷ []

-- "and no other shared holder has asked to exchange" is needed: the later comer 3 shares the item and exchanges at once
unfoldable pub exchange : List Call
exchange = Commit 1 ∷ BeginUpdate ∷ Read 3 5 ∷ Write 3 5 8 ∷ []

unfoldable pub exchanger : List Call
exchanger = held ++ (exchange ++ (Read 2 5 ∷ []))

unfoldable pub exchanger_codes : List ℕ
exchanger_codes = 0 ∷ 0 ∷ 0 ∷ 1 ∷ 0 ∷ 0 ∷ 0 ∷ 0 ∷ 1 ∷ []

-- that it still waits is needed: 2 is aborted, and unknown from then on
unfoldable pub given_up : List Call
given_up = Commit 1 ∷ Abort 2 ∷ []

-- that the request waits is needed: that of 2 is refused as a deadlock, so it stands nowhere. 1, the only other holder and waiter, has
-- ended, nobody else exchanges, and the later comer 3 is passed in
unfoldable pub refusal : List Call
refusal =
    BeginUpdate ∷ BeginUpdate ∷ Read 1 5 ∷ Read 2 5 ∷ Write 1 5 7 ∷ Write 2 5 8 ∷ Abort 1 ∷ BeginUpdate ∷ Read 3 5 ∷ Write 2 5 8 ∷ []

unfoldable pub refusal_codes : List ℕ
refusal_codes = 0 ∷ 0 ∷ 0 ∷ 0 ∷ 1 ∷ 2 ∷ 0 ∷ 0 ∷ 0 ∷ 1 ∷ []

-- ---- so the promise is false without each of its suppositions
-- that all have ended
abbrev pub EndsNeeded : Type 0
EndsNeeded = ServedWhere base (λ G n s x cs. StillWaits base G n cs × NoneExchanges base G n s x cs) → ⊥

-- that they have, and are not only past their writing (request E6)
abbrev pub AllPast : Tables → ℕ → ℕ → List Call → Type 0
AllPast G s x cs =
    (m b : ℕ) → Before base G s x m → Caller base (end_of base cs G) m b → T (live_settled (txn (end_of base cs G).txns b))

abbrev pub PastTooLittle : Type 0
PastTooLittle = ServedWhere base (λ G n s x cs. StillWaits base G n cs × AllPast G s x cs × NoneExchanges base G n s x cs) → ⊥

-- that the waiters ahead have, beside the holders
abbrev pub HoldersEnded : Tables → ℕ → ℕ → List Call → Type 0
HoldersEnded G s x cs = (m b : ℕ) → Caller base G m b → b ≢ s → T (holds (lock G.locks x) b) → Gone base (end_of base cs G) m

abbrev pub WaitersNeeded : Type 0
WaitersNeeded = ServedWhere base (λ G n s x cs. StillWaits base G n cs × HoldersEnded G s x cs × NoneExchanges base G n s x cs) → ⊥

-- that nobody exchanged
abbrev pub ExchangesNeeded : Type 0
ExchangesNeeded = ServedWhere base (λ G n s x cs. StillWaits base G n cs × AllEnded base G s x cs) → ⊥

-- that it still waits
abbrev pub WaitNeeded : Type 0
WaitNeeded = ServedWhere base (λ G n s x cs. AllEnded base G s x cs × NoneExchanges base G n s x cs) → ⊥
