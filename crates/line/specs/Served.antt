-- Request E4: "Shown: once every other holder and every waiter ahead of a request has ended, and no other shared holder has asked to
-- exchange, its next asking is granted, whatever later comers do."
use Rattle.std.specs.Prelude.{ℕ, ◌<◌, ◌≡◌, ◌≢◌, ◌⊎◌, true, List, [], ◌∷◌, T}
use Rattle.names.specs.declared.Sizes.{Sizes}
use Rattle.rules.specs.Tables.{Tables, txn, live_update, lock, holds, holds_shared, fresh}
use Rattle.rules.specs.Waits.{awaits_on}
use Rattle.rules.specs.Good.{Good}
use Rattle.rules.specs.Locks.{Asked, wanted}
use Rattle.rules.specs.Answers.{Call, Write, granted, code, Wait}
use Rattle.rules.specs.Conditions.{Caller, Names}
use Rattle.rules.specs.Promises.{code_of, after, asking}
use Rattle.history.specs.Runs.{end_of}

-- ---- "a request" that waits
-- the transaction n, in slot s, waits on the item x: to read it or to write it, as a says
pub record Waiting (S : Sizes) (G : Tables) (a : Asked) (n s x : ℕ) : Type 0 where
  pub caller : Caller S G n s
  pub lock_kind : (txn G.txns s).awaited_lock ≡ wanted a
  pub item : (txn G.txns s).awaited_item ≡ x

-- "every other holder and every waiter ahead of a request": m is the number of a transaction in another slot than s, and holds the item x
-- or waits on it with a smaller rank
pub record Before (S : Sizes) (G : Tables) (s x m : ℕ) : Type 0 where
  pub slot : ℕ
  pub caller : Caller S G m slot
  pub other : slot ≢ s
  pub there :
      T (holds (lock G.locks x) slot)
      ⊎ (T (awaits_on x (txn G.txns slot)) × ((txn G.txns slot).rank < (txn G.txns s).rank))

-- ".. has ended": no live row has the number m
abbrev pub Gone : Sizes → Tables → ℕ → Type 0
Gone S G m = (b : ℕ) → Caller S G m b → ⊥

-- "a shared holder has asked to exchange": the transaction m shares the item x in the tables H, and its call c asks to write it and is
-- granted that, or told to wait for it
pub record Exchange (S : Sizes) (H : Tables) (x : ℕ) (c : Call) (m : ℕ) : Type 0 where
  pub slot : ℕ
  pub value : ℕ
  pub caller : Caller S H m slot
  pub shares : T (holds_shared (lock H.locks x) slot)
  pub asks : c ≡ Write m x value
  pub heard : (code_of S c H ≡ granted) ⊎ (code_of S c H ≡ code Wait)

-- ---- the calls cs from the tables G: P holds of every call, and of the tables on which it is made
unfoldable pub EveryCall : Sizes → (Call → Tables → Type 0) → List Call → Tables → Type 0
EveryCall S P [] G = T true
EveryCall S P (c ∷ cs) G = P c G × EveryCall S P cs (after S c G)

-- ---- what is supposed of the calls cs from the tables G, in which the transaction n waits on the item x, in slot s
-- it still waits: no call that names it was granted. While it waits only its awaited call and its abort can be
abbrev pub StillWaits : Sizes → Tables → ℕ → List Call → Type 0
StillWaits S G n cs = EveryCall S (λ c H. Names c n → code_of S c H ≢ granted) cs G

-- "every other holder and every waiter ahead of a request has ended"
abbrev pub AllEnded : Sizes → Tables → ℕ → ℕ → List Call → Type 0
AllEnded S G s x cs = (m : ℕ) → Before S G s x m → Gone S (end_of S cs G) m

-- "and no other shared holder has asked to exchange": none that came later, for those before it have ended
abbrev pub NoneExchanges : Sizes → Tables → ℕ → ℕ → ℕ → List Call → Type 0
NoneExchanges S G n s x cs = EveryCall S (λ c H. (m : ℕ) → Exchange S H x c m → (m ≡ n) ⊎ Before S G s x m) cs G

pub record Supposed (S : Sizes) (G : Tables) (n s x : ℕ) (cs : List Call) : Type 0 where
  pub waits : StillWaits S G n cs
  pub ended : AllEnded S G s x cs
  pub unchanged : NoneExchanges S G n s x cs

-- ---- "its next asking is granted, whatever later comers do": from any good tables, where P is supposed of the calls. A write may now be
-- of another value v
abbrev pub ServedWhere : Sizes → (Tables → ℕ → ℕ → ℕ → List Call → Type 0) → Type 0
ServedWhere S P =
    (G : Tables) (cs : List Call) (a : Asked) (n s x v : ℕ) → Good S G → Waiting S G a n s x → P G n s x cs
    → code_of S (asking a n x v) (end_of S cs G) ≡ granted

abbrev pub Served : Sizes → Type 0
Served S = ServedWhere S (Supposed S)

-- until then it waits on the item, in the same slot
abbrev pub WaitsOn : Sizes → Type 0
WaitsOn S =
    (G : Tables) (cs : List Call) (a : Asked) (n s x : ℕ) → Good S G → Waiting S G a n s x
    → StillWaits S G n cs → Waiting S (end_of S cs G) a n s x

-- an update's request waits from the answer 1 on. Request E6: a reader that is held back "takes no rank", and its row does not say that
-- it waits
abbrev pub WaitsFrom : Sizes → Type 0
WaitsFrom S =
    (G : Tables) (a : Asked) (n s x v : ℕ) → Good S G → Caller S G n s → T (live_update (txn G.txns s))
    → code_of S (asking a n x v) G ≡ code Wait
    → Waiting S (after S (asking a n x v) G) a n s x

-- so, of runs from fresh tables: after the calls `before` the transaction n, in slot s, asks for the item x and is answered 1; the calls
-- cs follow; then it asks again. Since request E6 this is said of readers too: one is held back by an exclusive holder, so when that has
-- ended it reads
abbrev pub ServedInRuns : Sizes → Type 0
ServedInRuns S =
    (before cs : List Call) (a : Asked) (n s x u v : ℕ)
    → let H = end_of S before (fresh S) in
    let G = after S (asking a n x u) H in
    Caller S H n s → code_of S (asking a n x u) H ≡ code Wait → Supposed S G n s x cs
    → code_of S (asking a n x v) (end_of S cs G) ≡ granted
