-- Small runs, made by the rules or written by hand, and demand 3 as one test.
use Rattle.std.specs.Prelude.{ℕ, Bool, ◌&&◌, List, [], ◌∷◌, eqb, get_or}
use Rattle.names.specs.declared.Answer.{Answer}
use Rattle.names.specs.Sizes.{base}
use Rattle.rules.specs.Words.{every_below}
use Rattle.rules.specs.Tables.{Tables, fresh}
use Rattle.rules.specs.Versions.{newest}
use Rattle.rules.specs.Answers.{Call, BeginUpdate, BeginQuery, Read, Write, Commit, Abort, Settle, BeginRelaxed}
use Rattle.history.specs.Runs.{Event, end_of}
use Rattle.history.specs.Happened.{Access, got, Happening, happenings}
use Rattle.history.specs.Serial.{zeros, agrees, final, granted_to, one_by_one, serial}

-- what Serializes asks of reads and of the end, as a test: of the happenings hs, after which the tables are G
unfoldable pub serializes : List Happening → Tables → Bool
serializes hs G =
    agrees (serial hs) (zeros base)
    && every_below base.items (λ x. eqb (get_or (final (serial hs) (zeros base)) x 0) (newest base G.versions x))

-- the calls cs from fresh tables pass it
unfoldable pub run_passes : List Call → Bool
run_passes cs = serializes (happenings base cs) (end_of base cs (fresh base))

-- ---- each kind of call, mixed. Updates 1 and 2 commit, in this order; 2 waits for 1 and reads what 1 wrote. Query 3 begins before
-- both, query 4 between them; update 5 aborts, and nobody reads what it wrote
unfoldable pub mixed : List Call
mixed =
    BeginUpdate ∷ BeginUpdate ∷ BeginQuery ∷ Read 1 5 ∷ Write 1 6 77 ∷ Read 2 5 ∷ Read 2 6 ∷ Commit 1 ∷ BeginQuery
    ∷ Read 2 6 ∷ Write 2 5 88 ∷ Read 2 5 ∷ BeginUpdate ∷ Write 5 7 99 ∷ Abort 5 ∷ Read 3 6 ∷ Read 4 6 ∷ Commit 2 ∷ Read 4 5
    ∷ Read 3 5 ∷ Read 4 7 ∷ Commit 3 ∷ Read 4 6 ∷ []

-- ---- request E6. Update 1 settles under stamp 1; query 3 begins; update 2 commits under stamp 2; then 1 reads what 2 wrote as it was before,
-- and commits under its stamp. 3 waits for it, and reads what 1 wrote and not what 2 wrote
unfoldable pub past_writing : List Call
past_writing =
    BeginUpdate ∷ BeginUpdate ∷ Write 1 5 77 ∷ Write 2 6 88 ∷ Settle 1 ∷ BeginQuery ∷ Commit 2 ∷ Read 3 6 ∷ Read 3 5 ∷ Read 1 6
    ∷ Commit 1 ∷ Read 3 5 ∷ []

-- ---- request E7. Update 1 settles under stamp 1; update 2 reads, and commits at the clock 1 without a stamp; then 1 commits. Update 4 reads what 1
-- wrote, and commits so too; 3 writes, and commits under stamp 2
unfoldable pub without_stamp : List Call
without_stamp =
    BeginUpdate ∷ BeginUpdate ∷ BeginUpdate ∷ BeginUpdate ∷ Write 1 5 77 ∷ Settle 1 ∷ Read 2 6 ∷ Commit 2 ∷ Commit 1 ∷ Read 4 5
    ∷ Write 3 6 88 ∷ Commit 4 ∷ Commit 3 ∷ []

-- why the clock that it was answered tells its place, and not the time of its commit. Update 1 settles under stamp 1; 2 writes, and commits under
-- stamp 2; 3 reads what 2 wrote, and commits without a stamp; then 1 reads it as it was before 2, and commits
unfoldable pub settled_later : List Call
settled_later =
    BeginUpdate ∷ BeginUpdate ∷ BeginUpdate ∷ Write 1 5 77 ∷ Settle 1 ∷ Write 2 6 88 ∷ Commit 2 ∷ Read 3 6 ∷ Commit 3 ∷ Read 1 6 ∷ Commit 1
    ∷ []

-- the same, 1 committing ahead of 3
unfoldable pub settled_sooner : List Call
settled_sooner =
    BeginUpdate ∷ BeginUpdate ∷ BeginUpdate ∷ Write 1 5 77 ∷ Settle 1 ∷ Write 2 6 88 ∷ Commit 2 ∷ Read 1 6 ∷ Commit 1 ∷ Read 3 6 ∷ Commit 3
    ∷ []

unfoldable pub by_clock : List ℕ
by_clock = 1 ∷ 2 ∷ 3 ∷ []

-- of the happenings hs, the transactions ns one after another give every read its number
unfoldable pub agrees_in : List ℕ → List Happening → Bool
agrees_in ns hs = agrees (one_by_one (λ n. granted_to n hs) ns) (zeros base)

-- an update that did nothing commits, and a query ends: on fresh tables both are answered the number 0
unfoldable pub empty_update : List Call
empty_update = BeginUpdate ∷ Commit 1 ∷ []

unfoldable pub ended_query : List Call
ended_query = BeginQuery ∷ Commit 1 ∷ []

-- ---- request E11. Query 1 begins, relaxed or not; update 2 writes and commits; then 1 reads
unfoldable pub fresher : Call → List Call
fresher c = c ∷ BeginUpdate ∷ Write 2 5 77 ∷ Commit 2 ∷ Read 1 5 ∷ Commit 1 ∷ []

-- Relaxed query 1 reads item 5, which update 2 then writes, and so joins its set. 2 reads item 7 and commits; update 3 writes it, and 6, and
-- commits; then 1 reads 6. So 1 comes before 2, 2 before 3, and 3 before 1: no order of the three gives every read its number
unfoldable pub circle : List Call
circle =
    BeginRelaxed ∷ BeginUpdate ∷ BeginUpdate ∷ Read 1 5 ∷ Write 2 5 77 ∷ Read 2 7 ∷ Commit 2 ∷ Write 3 7 99 ∷ Write 3 6 88 ∷ Commit 3
    ∷ Read 1 6 ∷ Commit 1 ∷ []

-- an update writes and commits
unfoldable pub stored : List Call
stored = BeginUpdate ∷ Write 1 5 77 ∷ Commit 1 ∷ []

-- ---- runs that no keeper may show, written by hand: a call, and the code, value and number that it is answered
abbrev pub event : Call → ℕ → ℕ → ℕ → Event
event c k v n = record { call = c; answer = record { code = k; value = v; number = n; looked = 0 } }

-- "Fixing a query's snapshot at its first read instead of its begin.": it began before the commit and reads the new number
unfoldable pub late_snapshot : List Event
late_snapshot =
    event BeginUpdate 0 0 1 ∷ event BeginQuery 0 0 2 ∷ event (Write 1 5 77) 0 0 0 ∷ event (Commit 1) 0 0 1
    ∷ event (Read 2 5) 0 77 0 ∷ []

-- the same with the number that the rules give
unfoldable pub timely_snapshot : List Event
timely_snapshot =
    event BeginUpdate 0 0 1 ∷ event BeginQuery 0 0 2 ∷ event (Write 1 5 77) 0 0 0 ∷ event (Commit 1) 0 0 1
    ∷ event (Read 2 5) 0 0 0 ∷ []

-- "Letting a shared lock go when the read returns. Two jobs then overwrite each other."
unfoldable pub lost_update : List Event
lost_update =
    event BeginUpdate 0 0 1 ∷ event BeginUpdate 0 0 2 ∷ event (Read 1 5) 0 0 0 ∷ event (Read 2 5) 0 0 0 ∷ event (Write 1 5 1) 0 0 0
    ∷ event (Commit 1) 0 0 1 ∷ event (Write 2 5 1) 0 0 0 ∷ event (Commit 2) 0 0 2 ∷ []

-- the second reads after the first's commit, and adds
unfoldable pub kept_update : List Event
kept_update =
    event BeginUpdate 0 0 1 ∷ event BeginUpdate 0 0 2 ∷ event (Read 1 5) 0 0 0 ∷ event (Write 1 5 1) 0 0 0 ∷ event (Commit 1) 0 0 1
    ∷ event (Read 2 5) 0 1 0 ∷ event (Write 2 5 2) 0 0 0 ∷ event (Commit 2) 0 0 2 ∷ []

-- an aborted write that was read
unfoldable pub dirty_read : List Event
dirty_read =
    event BeginUpdate 0 0 1 ∷ event BeginUpdate 0 0 2 ∷ event (Write 1 5 9) 0 0 0 ∷ event (Read 2 5) 0 9 0 ∷ event (Abort 1) 0 0 0
    ∷ event (Commit 2) 0 0 0 ∷ []

-- a reader that was not held back: the query began after the settle, and reads what was before it
unfoldable pub hasty : List Event
hasty =
    event BeginUpdate 0 0 1 ∷ event (Write 1 5 77) 0 0 0 ∷ event (Settle 1) 0 0 1 ∷ event BeginQuery 0 0 2 ∷ event (Read 2 5) 0 0 0
    ∷ event (Commit 1) 0 0 1 ∷ []

-- it is held back, and reads after the commit
unfoldable pub patient : List Event
patient =
    event BeginUpdate 0 0 1 ∷ event (Write 1 5 77) 0 0 0 ∷ event (Settle 1) 0 0 1 ∷ event BeginQuery 0 0 2 ∷ event (Read 2 5) 1 0 0
    ∷ event (Commit 1) 0 0 1 ∷ event (Read 2 5) 0 77 0 ∷ []

-- ---- query 1 alone, and the same among others that write, commit, abort and end another query; its own end is in both
unfoldable pub quietly : List Call
quietly = Read 1 5 ∷ Write 1 5 3 ∷ Read 1 64 ∷ Read 1 5 ∷ Commit 1 ∷ Read 1 5 ∷ []

-- the reads that are granted to it in both
unfoldable pub undisturbed : List Access
undisturbed = got 5 0 ∷ got 5 0 ∷ []

unfoldable pub among : List Call
among =
    BeginUpdate ∷ Write 2 5 77 ∷ Read 1 5 ∷ Commit 2 ∷ BeginQuery ∷ Write 1 5 3 ∷ BeginUpdate ∷ Write 4 5 78 ∷ Commit 4 ∷ Read 1 64
    ∷ Commit 3 ∷ BeginUpdate ∷ Write 5 5 79 ∷ Read 1 5 ∷ Abort 5 ∷ Commit 1 ∷ BeginQuery ∷ Read 1 5 ∷ []

-- ---- request E8, "covers reads only": query 2 reads the item 5 twice and ends, and update 1, which wrote it, commits between the reads or
-- not
unfoldable pub ends_unmoved : List Call
ends_unmoved = BeginUpdate ∷ BeginQuery ∷ Write 1 5 77 ∷ Read 2 5 ∷ Read 2 5 ∷ Commit 2 ∷ []

unfoldable pub ends_moved : List Call
ends_moved = BeginUpdate ∷ BeginQuery ∷ Write 1 5 77 ∷ Read 2 5 ∷ Commit 1 ∷ Read 2 5 ∷ Commit 2 ∷ []

-- the answer to the last call, a if there is none
unfoldable pub last_answer : Answer → List Event → Answer
last_answer a [] = a
last_answer a (e ∷ es) = last_answer e.answer es

-- ---- why it is supposed that one past its writing ends alike in both runs: update 1 settles, query 2 begins and reads what 1 holds, after
-- 1 has committed, after it has aborted, and after it has committed another value
unfoldable pub settled_before : List Call → List Call
settled_before cs = BeginUpdate ∷ Write 1 5 77 ∷ Settle 1 ∷ BeginQuery ∷ cs

unfoldable pub then_commits : List Call
then_commits = settled_before (Read 2 5 ∷ Commit 1 ∷ Read 2 5 ∷ [])

unfoldable pub then_aborts : List Call
then_aborts = settled_before (Read 2 5 ∷ Abort 1 ∷ Read 2 5 ∷ [])

unfoldable pub then_rewrites : List Call
then_rewrites = settled_before (Read 2 5 ∷ Write 1 5 78 ∷ Commit 1 ∷ Read 2 5 ∷ [])

-- ---- an update is disturbed: update 1 alone, and after another's commit
unfoldable pub update_alone : List Call
update_alone = BeginUpdate ∷ Read 1 5 ∷ []

unfoldable pub update_after : List Call
update_after = BeginUpdate ∷ BeginUpdate ∷ Write 2 5 77 ∷ Commit 2 ∷ Read 1 5 ∷ []

-- the reads that are granted to it alone, and after the commit
unfoldable pub reads_alone : List Access
reads_alone = got 5 0 ∷ []

unfoldable pub reads_after : List Access
reads_after = got 5 77 ∷ []
