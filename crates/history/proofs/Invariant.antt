-- The invariant of a run, said of what the serial proof sees of the tables: no word of a table is named here.
--
-- Why it holds. A shared lock keeps still what its holder read: another's commit changes only items that the other holds
-- exclusively, and such an item has no second holder (Fair, alone). So whatever a live update has done so far it could do just as
-- well now, on the newest values: its reads would give the same numbers, and its writes would end in its working values (Pending).
-- Its commit puts it behind all others in the order, where the array is the newest values: there it does exactly that.
-- A query's place in the order is fixed by its start, the clock at its begin. What it sees is the array at its place (`snapped`).
-- Who is past its writing (request E6) has its place from its settle on, though it stands there only when it commits: what it has done
-- it could do at that place (Own), and whoever stands behind, or will stand behind, names no item that it may change (`clear`), for
-- its locks keep updates away and hold later readers back. So its commit changes nothing for them.
-- A relaxed query (request E11) stands nowhere, holds nothing and changes nothing of what the others see.
-- Trimming does not matter: it takes only versions that nobody's start chooses, and the newest stays.
use Prim.Native.Nat.{ℕ, ◌+◌, ◌*◌, ◌≤◌, ◌<◌, ◌%◌}
use mathlib.Core.Path.{◌≡◌}
use mathlib.Core.Logic.{◌≢◌, ◌⊎◌}
use mathlib.Core.Bool.{Bool, cond}
use mathlib.Core.List.{List, []}
use lib.Dec.{T}
use Rattle.rules.specs.Tables.{an_update, a_query, a_settled, a_relaxed}
use Rattle.history.specs.Happened.{Access}
use Rattle.history.specs.Serial.{Entry, numbers_of, Absent, Once}
use Rattle.history.proofs.Plain.{Array, agrees, final}
use Rattle.history.proofs.Replay.{Within}
use Rattle.history.proofs.Order.{All, Sorted, array_at}

-- ---- what the proof sees of the tables, by slot and item
pub record View : Type 1 where
  -- the newest value of an item
  pub current : ℕ → ℕ
  -- the last number given, and the clock
  pub last : ℕ
  pub clock : ℕ
  -- somebody lives in the slot; its number, its kind and its start
  pub alive : ℕ → Type 0
  pub number : ℕ → ℕ
  pub kind : ℕ → ℕ
  pub start : ℕ → ℕ
  -- the slot holds the item exclusively; it holds it; the working value of an item
  pub writes : ℕ → ℕ → Bool
  pub holds : ℕ → ℕ → Bool
  pub working : ℕ → ℕ
  -- what who reads by a start, in the slot, reads of the item
  pub snapshot : ℕ → ℕ → ℕ
  -- what a relaxed query in the slot reads of it: no theorem on strict queries goes by this
  pub shown : ℕ → ℕ → ℕ

-- an update that still writes; a query; an update past its writing; a relaxed query (request E11); who reads by a start
abbrev pub update : View → ℕ → Type 0
update W s = W.alive s × (W.kind s ≡ an_update)

abbrev pub query : View → ℕ → Type 0
query W s = W.alive s × (W.kind s ≡ a_query)

abbrev pub settled : View → ℕ → Type 0
settled W s = W.alive s × (W.kind s ≡ a_settled)

abbrev pub relaxed : View → ℕ → Type 0
relaxed W s = W.alive s × (W.kind s ≡ a_relaxed)

abbrev pub reader : View → ℕ → Type 0
reader W s = W.alive s × (W.kind s ≢ an_update) × (W.kind s ≢ a_relaxed)

-- a query, relaxed or not
abbrev pub Asks : ℕ → Type 0
Asks k = (k ≡ a_query) ⊎ (k ≡ a_relaxed)

-- ---- what good tables give
pub record Fair (items : ℕ) (W : View) : Type 0 where
  pub known : (s : ℕ) → W.alive s → W.number s ≤ W.last
  pub apart : (s r : ℕ) → W.alive s → W.alive r → s ≢ r → W.number s ≢ W.number r
  pub listed : (s : ℕ) → W.alive s → (W.kind s ≡ an_update) ⊎ ((W.kind s ≡ a_query) ⊎ ((W.kind s ≡ a_settled) ⊎ (W.kind s ≡ a_relaxed)))
  pub low : (s : ℕ) → reader W s → W.start s ≤ W.clock
  pub stamps-apart : (s r : ℕ) → settled W s → settled W r → s ≢ r → W.start s ≢ W.start r
  pub alone : (s r x : ℕ) → x < items → s ≢ r → T (W.writes s x) → T (W.holds r x) → ⊥
  pub written_held : (s x : ℕ) → T (W.writes s x) → T (W.holds s x)

-- ---- the row of slot r is after a call as before
pub record Row (W W' : View) (r : ℕ) : Type 0 where
  pub was : W'.alive r → W.alive r
  pub lives_on : W.alive r → W'.alive r
  pub number_is : W'.number r ≡ W.number r
  pub kind_is : W'.kind r ≡ W.kind r
  pub start_is : W'.start r ≡ W.start r

-- and so are its locks
pub record Locks (items : ℕ) (W W' : View) (r : ℕ) : Type 0 where
  pub still_holds : (x : ℕ) → x < items → T (W.holds r x) → T (W'.holds r x)
  pub same_writes : (x : ℕ) → x < items → W'.writes r x ≡ W.writes r x
  pub same-working : (x : ℕ) → x < items → T (W.writes r x) → W'.working x ≡ W.working x

-- and what it reads by a start
abbrev pub Sees : ℕ → View → View → ℕ → Type 0
Sees items W W' r = (x : ℕ) → x < items → reader W' r → W'.snapshot r x ≡ W.snapshot r x

-- ---- a live update in slot s, to which the accesses l were granted
pub record Pending (items : ℕ) (W : View) (s : ℕ) (l : List Access) : Type 0 where
  -- it holds every item that it read or wrote: locks are kept to the end
  pub within : Within (λ x. (x < items) × T (W.holds s x)) l
  -- done again on the newest values, its reads give the numbers that they gave
  pub reads : T (agrees l W.current)

-- ---- one past its writing, in slot s. The item y is not held by it
abbrev pub Free : ℕ → View → ℕ → ℕ → Type 0
Free items W s y = (y < items) × (T (W.writes s y) → ⊥)

pub record Own (items : ℕ) (es : List Entry) (log : ℕ → List Access) (W : View) (s : ℕ) : Type 0 where
  -- nobody stands at its place
  pub vacant : All (λ p n. p ≢ 2 * W.start s) es
  -- done again there, its reads give the numbers that they gave
  pub reads : T (agrees (log (W.number s)) (array_at (2 * W.start s) es log))
  -- whoever stands behind its place names no item that it holds
  pub clear : All (λ p n. 2 * W.start s < p → Within (Free items W s) (log n)) es

-- ---- whoever lives in slot s
pub record Slot (items : ℕ) (es : List Entry) (log : ℕ → List Access) (W : View) (s : ℕ) : Type 0 where
  -- an update is not yet in the order, so that what it does changes nothing there, and a relaxed query never is
  pub waiting : W.kind s ≢ a_query → Absent (W.number s) (numbers_of es)
  -- on whatever array it is done again, it ends in its working values, where it holds exclusively, and changes nothing elsewhere
  pub ends :
      W.kind s ≢ a_query → (a : Array) (x : ℕ) → x < items → final (log (W.number s)) a x ≡ cond (W.writes s x) (W.working x) (a x)
  pub pending : W.kind s ≡ an_update → Pending items W s (log (W.number s))
  pub own : W.kind s ≡ a_settled → Own items es log W s
  -- who reads by a start sees the array behind all updates with stamps up to it
  pub snapped : W.kind s ≢ an_update → W.kind s ≢ a_relaxed → (x : ℕ) → x < items → array_at (2 * W.start s + 1) es log x ≡ W.snapshot s x
  -- a query stands there
  pub placed : W.kind s ≡ a_query → All (λ p n. n ≡ W.number s → p ≡ 2 * W.start s + 1) es

-- ---- the invariant: es is the serial order so far, log the accesses granted so far to each number
pub record Inv (items : ℕ) (es : List Entry) (log : ℕ → List Access) (W : View) : Type 0 where
  pub sorted : Sorted es
  pub most : All (λ p n. p ≤ 2 * W.clock + 1) es
  -- each entry, run on the array that its place sees, gives every read its number
  pub told : All (λ p n. T (agrees (log n) (array_at p es log))) es
  -- queries change nothing
  pub still : All (λ p n. p % 2 ≡ 1 → (a : Array) → final (log n) a ≡ a) es
  -- and all of them end in the newest values
  pub now : (x : ℕ) → x < items → array_at (2 * W.clock + 2) es log x ≡ W.current x
  -- only items are named
  pub named : (n : ℕ) → Within (λ x. x < items) (log n)
  -- nobody stands twice; a number that was not yet given stands nowhere, and nothing was granted to it: who begins starts with
  -- nothing done
  pub once : Once (numbers_of es)
  pub unplaced : (n : ℕ) → W.last < n → Absent n (numbers_of es)
  pub unlogged : (n : ℕ) → W.last < n → log n ≡ []
  pub slots : (s : ℕ) → W.alive s → Slot items es log W s
  -- who is to stand behind one past its writing names no item that it holds
  pub clear : (s r : ℕ) → settled W s → settled W r → W.start s < W.start r → Within (Free items W s) (log (W.number r))
