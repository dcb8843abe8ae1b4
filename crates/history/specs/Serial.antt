-- "the committed updates run whole, one after another in commit order, on a plain array of 64 zeros, each query right after the
-- last update committed before it began, give every read the number it gave in the mixed run, and the array ends as the newest
-- committed versions." Request E6: "Demand 3 now orders updates by stamp, a query after all those with stamps up to its start."
use Rattle.std.specs.Prelude.{ℕ, ◌+◌, ◌*◌, ◌<◌, Bool, true, ◌&&◌, cond, List, [], ◌∷◌, ◌++◌, ◌≡◌, ◌≢◌, eqb, leb, T, get_or, set, replicate}
use Rattle.names.specs.declared.Sizes.{Sizes}
use Rattle.rules.specs.Tables.{fresh}
use Rattle.rules.specs.Versions.{newest}
use Rattle.rules.specs.Answers.{Call}
use Rattle.history.specs.Runs.{end_of}
use Rattle.history.specs.Happened.{Access, got, put, Happening, update_began, query_began, relaxed_began, accessed, update_committed, empty_committed, settled_under, only_ended, nothing}
use Rattle.history.specs.Happened.{clock_after, happenings, all_of}

-- ---- a plain array, a number for each item, at first all zero
abbrev pub zeros : Sizes → List ℕ
zeros S = replicate S.items 0

-- accesses done again on the array a, one after another: every read gives the number that it gave
unfoldable pub agrees : List Access → List ℕ → Bool
agrees [] a = true
agrees (got x v ∷ l) a = let rest = agrees l a in eqb (get_or a x 0) v && rest
agrees (put x v ∷ l) a = agrees l (set a x v)

-- the array afterwards
unfoldable pub final : List Access → List ℕ → List ℕ
final [] a = a
final (got x v ∷ l) a = final l a
final (put x v ∷ l) a = final l (set a x v)

-- ---- the transaction n, whole: the reads and writes granted to it, in their order
unfoldable pub access_of : ℕ → Happening → List Access
access_of n (accessed m a) = cond (eqb m n) (a ∷ []) []
access_of n (update_began m) = []
access_of n (query_began m) = []
access_of n (relaxed_began m) = []
access_of n (update_committed m c) = []
access_of n (empty_committed m c) = []
access_of n (settled_under m c) = []
access_of n (only_ended m) = []
access_of n nothing = []

unfoldable pub granted_to : ℕ → List Happening → List Access
granted_to n hs = all_of (access_of n) hs

-- ---- the serial order: "orders updates by stamp, a query after all those with stamps up to its start". A committed update stands by its
-- stamp, whenever it commits; a query by its start, ended or not. Nobody else stands there
-- a transaction, and where it stands: an update at twice its stamp, a query at twice its start and one more, which is behind all updates
-- with stamps up to its start and ahead of the next
pub record Entry : Type 0 where
  pub place : ℕ
  pub number : ℕ

-- who is to stand there since this happening, c being the greatest stamp given so far: "A query's start is the clock."
unfoldable pub place_of : ℕ → Happening → List Entry
place_of c (update_committed n d) = record { place = 2 * d; number = n } ∷ []
place_of c (query_began n) = record { place = 2 * c + 1; number = n } ∷ []
-- request E7: "after all updates with stamps up to that one and before the next"
place_of c (empty_committed n d) = record { place = 2 * d + 1; number = n } ∷ []
place_of c (settled_under n d) = []
place_of c (update_began n) = []
-- request E11: a relaxed query stands nowhere here; what is shown of it instead is in Relaxed
place_of c (relaxed_began n) = []
place_of c (accessed n a) = []
place_of c (only_ended n) = []
place_of c nothing = []

-- e comes behind all whose place is up to its own, and ahead of all others
unfoldable pub insert : Entry → List Entry → List Entry
insert e [] = e ∷ []
insert e (f ∷ es) = let rest = insert e es in cond (leb f.place e.place) (f ∷ rest) (e ∷ (f ∷ es))

-- each of these in turn
unfoldable pub insert_all : List Entry → List Entry → List Entry
insert_all [] es = es
insert_all (e ∷ ds) es = insert_all ds (insert e es)

-- es stand there so far, and c is the greatest stamp given so far
unfoldable pub entries_from : ℕ → List Entry → List Happening → List Entry
entries_from c es [] = es
entries_from c es (h ∷ hs) = entries_from (clock_after c h) (insert_all (place_of c h) es) hs

unfoldable pub numbers_of : List Entry → List ℕ
numbers_of [] = []
numbers_of (e ∷ es) = e.number ∷ numbers_of es

unfoldable pub order : List Happening → List ℕ
order hs = numbers_of (entries_from 0 [] hs)

-- ---- the transactions ns, one after another
unfoldable pub one_by_one : (ℕ → List Access) → List ℕ → List Access
one_by_one log [] = []
one_by_one log (n ∷ ns) = log n ++ one_by_one log ns

unfoldable pub serial : List Happening → List Access
serial hs = one_by_one (λ n. granted_to n hs) (order hs)

-- n does not stand in the list; no number stands twice
unfoldable pub Absent : ℕ → List ℕ → Type 0
Absent n [] = T true
Absent n (m ∷ ns) = (m ≢ n) × Absent n ns

unfoldable pub Once : List ℕ → Type 0
Once [] = T true
Once (n ∷ ns) = Absent n ns × Once ns

-- ---- demand 3, of the calls cs from fresh tables
pub record Serializes (S : Sizes) (cs : List Call) : Type 0 where
  -- no transaction is run twice
  pub once : Once (order (happenings S cs))
  -- "give every read the number it gave in the mixed run"
  pub reads : T (agrees (serial (happenings S cs)) (zeros S))
  -- "the array ends as the newest committed versions"
  pub ends :
      (x : ℕ) → x < S.items
      → get_or (final (serial (happenings S cs)) (zeros S)) x 0 ≡ newest S (end_of S cs (fresh S)).versions x
