-- "a query reads the newest version committed when it began"; "Calls by others after a query began never alter the numbers it reads."
-- Since request E6 "Demand 2's query reads the newest version stamped up to its start", which one past its writing when the query began
-- may still commit, and demand 3's last sentence "now speaks of granted reads, and supposes that each transaction past its writing when
-- the query began, if it commits in either run, commits in both with the same values." Request E8: it "covers reads only"; what a query's
-- end answers goes by the places of the versions that it read (Weighed), and others' commits move these. Request E11: it "no longer covers"
-- relaxed queries.
use Rattle.std.specs.Prelude.{ℕ, ◌<◌, Bool, false, ◌||◌, cond, List, [], ◌∷◌, ◌++◌, ◌≡◌, ◌⊎◌, T, eqb}
use Rattle.names.specs.declared.Sizes.{Sizes}
use Rattle.rules.specs.Tables.{Tables, txn, live_settled, lock, holds_exclusive, fresh}
use Rattle.rules.specs.Versions.{newest}
use Rattle.rules.specs.Answers.{Call, BeginQuery, Read, granted}
use Rattle.rules.specs.Step.{step}
use Rattle.history.specs.Runs.{Event, run, end_of, Every}
use Rattle.history.specs.Happened.{Access, got, put, Happening, update_began, query_began, relaxed_began, accessed, update_committed, empty_committed, settled_under, only_ended, nothing}
use Rattle.history.specs.Happened.{happenings}
use Rattle.history.specs.Serial.{granted_to}

-- ---- what became of the update m
-- it committed
unfoldable pub commit_of : ℕ → Happening → Bool
commit_of m (update_committed n c) = eqb n m
commit_of m (empty_committed n c) = eqb n m
commit_of m (update_began n) = false
commit_of m (query_began n) = false
commit_of m (relaxed_began n) = false
commit_of m (accessed n a) = false
commit_of m (settled_under n c) = false
commit_of m (only_ended n) = false
commit_of m nothing = false

unfoldable pub commit_in : ℕ → List Happening → Bool
commit_in m [] = false
commit_in m (h ∷ hs) = commit_of m h || commit_in m hs

-- the number that the accesses put to item x last; v if they put none there
unfoldable pub last_put : ℕ → List Access → ℕ → ℕ
last_put x [] v = v
last_put x (got y w ∷ l) v = last_put x l v
last_put x (put y w ∷ l) v = last_put x l (cond (eqb x y) w v)

-- the number that item x has when m has committed, v before; v if m does not commit
unfoldable pub left_by : ℕ → List Happening → ℕ → ℕ → ℕ
left_by m hs x v = cond (commit_in m hs) (last_put x (granted_to m hs) v) v

-- ---- the transaction in slot b is past its writing, in the tables G; and it holds the item x
abbrev pub PastIn : Sizes → Tables → ℕ → Type 0
PastIn S G b = (b < S.slots) × T (live_settled (txn G.txns b))

abbrev pub PastOn : Sizes → Tables → ℕ → ℕ → Type 0
PastOn S G x b = PastIn S G b × T (holds_exclusive (lock G.locks x) b)

-- every read of item x that is granted to n gives the number v
abbrev pub Gives : ℕ → ℕ → ℕ → Event → Type 0
Gives n x v e = e.call ≡ Read n x → e.answer.code ≡ granted → e.answer.value ≡ v

-- "reads the newest version stamped up to its start". Of a query n that began on the tables G, with what it and others were answered
-- since, es, and all that happened, hs
pub record ReadsUpTo (S : Sizes) (G : Tables) (hs : List Happening) (es : List Event) (n x : ℕ) : Type 0 where
  -- nobody past its writing held the item when the query began: every stamp given later is above its start, so that version is the newest
  -- of then
  pub free : ((b : ℕ) → PastOn S G x b → ⊥) → Every (Gives n x (newest S G.versions x)) es
  -- one past its writing held it: its stamp is up to the start, and above those of the item's versions. If it commits, its version is the
  -- one; else that of then
  pub held :
      (b : ℕ) → PastOn S G x b → Every (Gives n x (left_by (txn G.txns b).number hs x (newest S G.versions x))) es

-- after the calls `before` from fresh tables a query begins under the number n, and the calls cs follow
unfoldable pub ReadsAsBegun : Sizes → Type 0
ReadsAsBegun S =
    (before cs : List Call) (n x : ℕ)
    → let G = end_of S before (fresh S) in
    let o = step S BeginQuery G in
    o.answer.code ≡ granted → o.answer.number ≡ n
    → ReadsUpTo S G (happenings S (before ++ (BeginQuery ∷ cs))) (run S cs o.after) n x

-- ---- "each transaction past its writing when the query began, if it commits in either run, commits in both with the same values": past
-- its writing in the tables G; hs and ks is all that happened in the one run and in the other
unfoldable pub Alike : Sizes → Tables → List Happening → List Happening → Type 0
Alike S G hs ks =
    (b : ℕ) → PastIn S G b
    → let m = (txn G.txns b).number in
    T (commit_in m hs) ⊎ T (commit_in m ks)
    → T (commit_in m hs) × T (commit_in m ks) × ((x v : ℕ) → last_put x (granted_to m hs) v ≡ last_put x (granted_to m ks) v)

-- two runs from fresh tables that are the same up to a query's begin, which gives it the number n. Afterwards it and others call whatever
-- they like, in the one run cs and in the other ds, but for what is supposed. Then reads of the same item that are granted to it in the
-- one and in the other give the same number
unfoldable pub Undisturbed : Sizes → Type 0
Undisturbed S =
    (before cs ds : List Call) (n : ℕ)
    → let G = end_of S before (fresh S) in
    let o = step S BeginQuery G in
    o.answer.code ≡ granted → o.answer.number ≡ n
    → Alike S G (happenings S (before ++ (BeginQuery ∷ cs))) (happenings S (before ++ (BeginQuery ∷ ds)))
    → Every
    (λ e. (x : ℕ) → e.call ≡ Read n x → e.answer.code ≡ granted → Every (Gives n x e.answer.value) (run S ds o.after))
    (run S cs o.after)
