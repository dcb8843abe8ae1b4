-- What happened at a call, told by the call, its answer and the calls and answers before it. The serial order, what each
-- transaction did, and the numbers and stamps given all go by the happenings of a run, and none of them names a call: a further call is
-- one clause of `did` and one of `names`.
--
-- A granted commit is told by what came before: a query's by its begin, and since request E7 that of an update without a new stamp by
-- this, that it was granted no write and did not settle. Its answer does not tell it: on fresh tables its number is 0, as at a query's
-- end.
use Rattle.std.specs.Prelude.{ℕ, Bool, false, cond, List, [], ◌∷◌, ◌++◌, eqb, leb}
use Rattle.names.specs.declared.Sizes.{Sizes}
use Rattle.names.specs.declared.Answer.{Answer}
use Rattle.rules.specs.Words.{some}
use Rattle.rules.specs.Tables.{fresh}
use Rattle.rules.specs.Answers.{Call, BeginUpdate, BeginQuery, Read, Write, Commit, Abort, Settle, BeginRelaxed, granted}
use Rattle.history.specs.Runs.{Event, run}

-- a granted read of item x, which gave the number v; a granted write of the number v to item x
pub data Access : Type 0 where
  got put : ℕ → ℕ → Access

-- each with the number of its transaction
pub data Happening : Type 0 where
  -- request E11: a relaxed query is told from the others by its begin
  update_began query_began relaxed_began : ℕ → Happening
  accessed : ℕ → Access → Happening
  -- an update committed, under this stamp
  update_committed : ℕ → ℕ → Happening
  -- an update committed without a stamp of its own (request E7), the clock being this
  empty_committed : ℕ → ℕ → Happening
  -- an update ended its writing (request E6), and took this stamp
  settled_under : ℕ → ℕ → Happening
  -- a query ended, or an update was aborted
  only_ended : ℕ → Happening
  nothing : Happening

-- ---- one call
-- the call names the transaction n
unfoldable pub names : ℕ → Call → Bool
names n BeginUpdate = false
names n BeginQuery = false
names n (Read m x) = eqb m n
names n (Write m x v) = eqb m n
names n (Commit m) = eqb m n
names n (Abort m) = eqb m n
names n (Settle m) = eqb m n
names n BeginRelaxed = false

-- what a granted call did, u being whether the transaction that it names began as an update, and w whether it was granted a write, or
-- settled
unfoldable pub did : Bool → Bool → Call → Answer → Happening
-- "begin: number is the new number"
did u w BeginUpdate r = update_began r.number
did u w BeginQuery r = query_began r.number
did u w BeginRelaxed r = relaxed_began r.number
-- "read: value"
did u w (Read n x) r = accessed n (got x r.value)
did u w (Write n x v) r = accessed n (put x v)
-- "update commit: number is the stamp"; "A query only ends."; request E6: one past its writing "answers it and takes no new one"; request
-- E7: one "that holds no exclusive lock, and has not ended its writing .. commits without a new stamp, answers the present clock"
did u w (Commit n) r = cond u (cond w (update_committed n r.number) (empty_committed n r.number)) (only_ended n)
-- "Abort removes locks, working values and the row, and for a query is the same as commit."
did u w (Abort n) r = only_ended n
-- request E6: "the stamp is answered as number"
did u w (Settle n) r = settled_under n r.number

-- "0 granted". At a refusal, and at a wait, nothing happened
unfoldable pub told : Bool → Bool → Call → Answer → Happening
told u w c r = cond (eqb r.code granted) (did u w c r) nothing

-- what is known of the calls and answers so far: the numbers of the updates that began, and of those that were granted a write, or settled
pub record SoFar : Type 0 where
  pub updates : List ℕ
  pub stamped : List ℕ

abbrev pub none_so_far : SoFar
none_so_far = record { updates = []; stamped = [] }

unfoldable pub happened : SoFar → Call → Answer → Happening
happened us c r = told (some (λ n. names n c) us.updates) (some (λ n. names n c) us.stamped) c r

-- ---- a run
-- what is known, us before this
abbrev pub with_update : ℕ → SoFar → SoFar
with_update n us = record { updates = n ∷ us.updates; stamped = us.stamped }

abbrev pub with_stamped : ℕ → SoFar → SoFar
with_stamped n us = record { updates = us.updates; stamped = n ∷ us.stamped }

unfoldable pub begun_with : Happening → SoFar → SoFar
begun_with (update_began n) us = with_update n us
begun_with (query_began n) us = us
begun_with (relaxed_began n) us = us
begun_with (accessed n (got x v)) us = us
begun_with (accessed n (put x v)) us = with_stamped n us
begun_with (update_committed n c) us = us
begun_with (empty_committed n c) us = us
begun_with (settled_under n c) us = with_stamped n us
begun_with (only_ended n) us = us
begun_with nothing us = us

unfoldable pub happenings_after : SoFar → List Event → List Happening
happenings_after us [] = []
happenings_after us (e ∷ es) =
    let h = happened us e.call e.answer in
    h ∷ happenings_after (begun_with h us) es

-- of the calls cs from fresh tables
unfoldable pub happenings : Sizes → List Call → List Happening
happenings S cs = happenings_after none_so_far (run S cs (fresh S))

-- the greatest stamp given so far, c before this. Since request E6 a stamp is given at a settle, or at the commit of an update that did not
-- settle: "the update takes clock plus 1 as its stamp, the clock moves there"
unfoldable pub clock_after : ℕ → Happening → ℕ
clock_after c (settled_under n d) = d
clock_after c (update_committed n d) = cond (leb d c) c d
clock_after c (empty_committed n d) = c
clock_after c (update_began n) = c
clock_after c (query_began n) = c
clock_after c (relaxed_began n) = c
clock_after c (accessed n a) = c
clock_after c (only_ended n) = c
clock_after c nothing = c

-- what f tells of each happening, all together
unfoldable pub all_of : {A : Type 0} → (Happening → List A) → List Happening → List A
all_of f [] = []
all_of f (h ∷ hs) = f h ++ all_of f hs
