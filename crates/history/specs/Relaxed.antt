-- Request E11, of relaxed queries: "For these queries demand 3 reads: run alone, in commit order, the updates committed when it ends (or
-- the sequence does) and outside its set give every number it read, and that collection contains every update its members read from or
-- overwrote." Since request E6 an update may commit later than its stamp says; the order of stamps gives the same numbers.
use Rattle.std.specs.Prelude.{ℕ, suc, ◌<◌, Bool, true, false, ◌&&◌, ◌||◌, not, cond, List, [], ◌∷◌, ◌++◌, ◌≡◌, ◌⊎◌, length, get_or, T, eqb}
use Rattle.names.specs.declared.Sizes.{Sizes}
use Rattle.rules.specs.Words.{some, some_below, bit}
use Rattle.rules.specs.Tables.{Tables, Txn, txn, live, live_relaxed, may_hold, lock, holds_exclusive, fresh}
use Rattle.rules.specs.Versions.{versions_of, stamp_at}
use Rattle.rules.specs.Answers.{Call, Read, Commit, granted}
use Rattle.rules.specs.Step.{step}
use Rattle.rules.specs.Conditions.{Caller}
use Rattle.history.specs.Runs.{end_of}
use Rattle.history.specs.Happened.{Access, Happening, update_began, query_began, relaxed_began, accessed, update_committed, empty_committed, settled_under, only_ended, nothing}
use Rattle.history.specs.Happened.{happenings, all_of}
use Rattle.history.specs.Serial.{zeros, agrees, final, granted_to, order, one_by_one, Once}

-- ---- the set of the relaxed query with the number q
-- in the tables G the update with the number u is in it: the query lives, in a slot s, and the update's row says that it is a later one for s
unfoldable pub later_for : Tables → ℕ → ℕ → ℕ → Bool
later_for G s u b = (live (txn G.txns b) && eqb (txn G.txns b).number u) && bit (txn G.txns b).later_for s

unfoldable pub in_set : Sizes → Tables → ℕ → ℕ → Bool
in_set S G q u =
    some_below S.slots
    (λ s.
    (live_relaxed (txn G.txns s) && eqb (txn G.txns s).number q) && some_below S.slots (later_for G s u))

-- it ever was, in the tables G or in some that the calls cs lead to
unfoldable pub ever_in_set : Sizes → List Call → Tables → ℕ → ℕ → Bool
ever_in_set S [] G q u = in_set S G q u
ever_in_set S (c ∷ cs) G q u = in_set S G q u || ever_in_set S cs (step S c G).after q u

-- ---- "when it ends (or the sequence does)": what happened until the query q ended
unfoldable pub ends_it : ℕ → Happening → Bool
ends_it q (only_ended n) = eqb n q
ends_it q (update_began n) = false
ends_it q (query_began n) = false
ends_it q (relaxed_began n) = false
ends_it q (accessed n a) = false
ends_it q (update_committed n c) = false
ends_it q (empty_committed n c) = false
ends_it q (settled_under n c) = false
ends_it q nothing = false

unfoldable pub until_end : ℕ → List Happening → List Happening
until_end q [] = []
until_end q (h ∷ hs) = let rest = until_end q hs in cond (ends_it q h) [] (h ∷ rest)

-- the update that committed
unfoldable pub committer : Happening → List ℕ
committer (update_committed n c) = n ∷ []
committer (empty_committed n c) = n ∷ []
committer (update_began n) = []
committer (query_began n) = []
committer (relaxed_began n) = []
committer (accessed n a) = []
committer (settled_under n c) = []
committer (only_ended n) = []
committer nothing = []

-- those of a list that pass a test
unfoldable pub those : (ℕ → Bool) → List ℕ → List ℕ
those p [] = []
those p (n ∷ ns) = let rest = those p ns in cond (p n) (n ∷ rest) rest

-- ---- of the calls cs from fresh tables, and of the relaxed query q
-- what happened until it ended
unfoldable pub until : Sizes → List Call → ℕ → List Happening
until S cs q = until_end q (happenings S cs)

-- "the updates committed when it ends (or the sequence does) and outside its set", in commit order; and by their stamps
unfoldable pub outside : Sizes → List Call → ℕ → ℕ → Bool
outside S cs q n = not (ever_in_set S cs (fresh S) q n)

unfoldable pub committed_outside : Sizes → List Call → ℕ → List ℕ
committed_outside S cs q = those (outside S cs q) (all_of committer (until S cs q))

unfoldable pub outside_by_stamp : Sizes → List Call → ℕ → List ℕ
outside_by_stamp S cs q = those (λ n. some (eqb n) (committed_outside S cs q)) (order (until S cs q))

-- run alone, these one after another
unfoldable pub alone : Sizes → List Call → ℕ → List ℕ → List Access
alone S cs q ns = one_by_one (λ n. granted_to n (until S cs q)) ns

-- ---- "read from or overwrote"
-- at the call c on the tables G the update m reads the version at the place k of the item x. "looked is 1 for the newest value, 0 for the own
-- working value, the place for a query": the own working value is no version
abbrev pub ReadsVersionAt : Sizes → Tables → Call → ℕ → ℕ → ℕ → Type 0
ReadsVersionAt S G c m x k =
    let a = (step S c G).answer in
    (c ≡ Read m x) × (a.code ≡ granted) × (a.looked ≡ suc k)

-- or it commits the item, which it holds in slot s, and that version is the one that it puts its own in front of
abbrev pub Overwrites : Sizes → Tables → Call → ℕ → ℕ → ℕ → ℕ → Type 0
Overwrites S G c m s x k =
    (c ≡ Commit m) × ((step S c G).answer.code ≡ granted) × T (holds_exclusive (lock G.locks x) s) × (k ≡ 0)

-- the update u committed under the stamp d
unfoldable pub commits_under : ℕ → ℕ → Happening → Bool
commits_under u d (update_committed n c) = eqb n u && eqb c d
commits_under u d (empty_committed n c) = false
commits_under u d (update_began n) = false
commits_under u d (query_began n) = false
commits_under u d (relaxed_began n) = false
commits_under u d (accessed n a) = false
commits_under u d (settled_under n c) = false
commits_under u d (only_ended n) = false
commits_under u d nothing = false

unfoldable pub committed_under : ℕ → ℕ → List Happening → Bool
committed_under u d [] = false
committed_under u d (h ∷ hs) = commits_under u d h || committed_under u d hs

-- so, after the calls `before` from fresh tables, the update m reads or overwrites a version of u: the one that u committed under its stamp
pub record Meets (S : Sizes) (before : List Call) (c : Call) (m u : ℕ) : Type 0 where
  pub slot : ℕ
  pub caller : Caller S (end_of S before (fresh S)) m slot
  pub update : T (may_hold (txn (end_of S before (fresh S)).txns slot))
  pub item : ℕ
  pub place : ℕ
  pub known : item < S.items
  pub there : place < length (versions_of S (end_of S before (fresh S)).versions item)
  pub meets : ReadsVersionAt S (end_of S before (fresh S)) c m item place ⊎ Overwrites S (end_of S before (fresh S)) c m slot item place
  pub creator :
      T (committed_under u (stamp_at (versions_of S (end_of S before (fresh S)).versions item) place) (happenings S before))

-- ---- the query began
unfoldable pub began_relaxed : ℕ → Happening → Bool
began_relaxed q (relaxed_began n) = eqb n q
began_relaxed q (update_began n) = false
began_relaxed q (query_began n) = false
began_relaxed q (accessed n a) = false
began_relaxed q (update_committed n c) = false
began_relaxed q (empty_committed n c) = false
began_relaxed q (settled_under n c) = false
began_relaxed q (only_ended n) = false
began_relaxed q nothing = false

unfoldable pub is_relaxed : ℕ → List Happening → Bool
is_relaxed q [] = false
is_relaxed q (h ∷ hs) = began_relaxed q h || is_relaxed q hs

-- ---- demand 3 for the relaxed query q, of the calls cs from fresh tables
pub record SerializesRelaxed (S : Sizes) (cs : List Call) (q : ℕ) : Type 0 where
  -- "run alone, in commit order, .. give every number it read": the array that they leave has them all
  pub reads : T (agrees (granted_to q (until S cs q)) (final (alone S cs q (committed_outside S cs q)) (zeros S)))
  -- and in the order of their stamps
  pub reads_by_stamp : T (agrees (granted_to q (until S cs q)) (final (alone S cs q (outside_by_stamp S cs q)) (zeros S)))
  -- "that collection contains every update its members read from or overwrote"
  pub closed :
      (before after : List Call) (c : Call) (m u : ℕ) → cs ≡ before ++ (c ∷ after) → T (some (eqb m) (committed_outside S cs q))
      → Meets S before c m u → T (some (eqb u) (committed_outside S cs q))

abbrev pub RelaxedSerial : Sizes → Type 0
RelaxedSerial S = (cs : List Call) (q : ℕ) → T (is_relaxed q (happenings S cs)) → SerializesRelaxed S cs q

-- in both orders they leave the same array, item by item, though since request E6 the orders differ
abbrev pub StampsAgree : Sizes → Type 0
StampsAgree S =
    (cs : List Call) (q x : ℕ) → T (is_relaxed q (happenings S cs)) → x < S.items
    → get_or (final (alone S cs q (outside_by_stamp S cs q)) (zeros S)) x 0 ≡ get_or (final (alone S cs q (committed_outside S cs q)) (zeros S)) x 0
