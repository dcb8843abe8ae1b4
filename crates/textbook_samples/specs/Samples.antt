-- Small runs, made by the rules, and marks made up by hand.
use Rattle.std.specs.Prelude.{List, [], ◌∷◌}
use Rattle.rules.specs.Answers.{Call, BeginUpdate, BeginQuery, Read, Write, Commit, Abort, Settle, BeginRelaxed}
use Rattle.history.specs.Happened.{got, put, Happening, update_began, query_began, accessed, update_committed, only_ended}
use Rattle.history.specs.Serial.{Entry}
use Rattle.textbook.specs.Marks.{Source, none, version, Mark}
use Rattle.textbook.specs.Nodes.{under_stamp, after_stamp}

-- ---- a link of each kind. Update 1 writes item 5, and so does update 3, which does not read it. Query 2 begins between their commits and query
-- 4 behind both; each reads the item. So 2 reads from 1 and 4 from 3; what 2 read comes before the version of 3; and what 4 read comes behind
-- the version of 1
unfoldable pub each_kind : List Call
each_kind =
    BeginUpdate ∷ Write 1 5 77 ∷ Commit 1 ∷ BeginQuery ∷ BeginUpdate ∷ Write 3 5 88 ∷ Commit 3 ∷ BeginQuery ∷ Read 2 5 ∷ Read 4 5 ∷ Commit 4 ∷ Abort 2
    ∷ []

-- the same with one value: who is read from does not go by it
unfoldable pub one_value : List Call
one_value =
    BeginUpdate ∷ Write 1 5 77 ∷ Commit 1 ∷ BeginQuery ∷ BeginUpdate ∷ Write 3 5 77 ∷ Commit 3 ∷ BeginQuery ∷ Read 2 5 ∷ Read 4 5 ∷ Commit 4 ∷ Abort 2
    ∷ []

-- ---- an update reads the starting zero of an item, writes the item twice, reads what it wrote, and commits
unfoldable pub reads_then_writes : List Call
reads_then_writes = BeginUpdate ∷ Read 1 5 ∷ Write 1 5 77 ∷ Read 1 5 ∷ Write 1 5 78 ∷ Commit 1 ∷ []

-- ---- one place is not enough for a stamp. Update 1 commits under stamp 1; query 2 starts there, and update 3, which writes nothing, commits there;
-- both read what 1 wrote
unfoldable pub same_stamp : List Call
same_stamp = BeginUpdate ∷ Write 1 5 77 ∷ Commit 1 ∷ BeginQuery ∷ BeginUpdate ∷ Read 3 5 ∷ Commit 3 ∷ Read 2 5 ∷ Commit 2 ∷ []

-- ---- request E6. Update 1 settles under stamp 1, update 2 commits under stamp 2, then 1 reads what 2 wrote as it was before, and commits
unfoldable pub past_writing : List Call
past_writing = BeginUpdate ∷ BeginUpdate ∷ Write 1 5 77 ∷ Write 2 6 88 ∷ Settle 1 ∷ Commit 2 ∷ Read 1 6 ∷ Commit 1 ∷ []

-- ---- who is no node: query 2 lives, update 3 aborts, update 4 lives, relaxed query 5 ends. Update 1 did nothing and is one
unfoldable pub others : List Call
others =
    BeginUpdate ∷ BeginQuery ∷ BeginUpdate ∷ BeginUpdate ∷ BeginRelaxed ∷ Read 2 5 ∷ Write 3 5 77 ∷ Abort 3 ∷ Write 4 6 88 ∷ Read 5 6 ∷ Commit 5 ∷ Commit 1
    ∷ []

-- ---- a relaxed query that would close a circle: 1 reads item 5, which update 2 then writes; 2 reads item 7, which update 3 then writes, and 6;
-- then 1 reads 6
unfoldable pub with_relaxed : List Call
with_relaxed =
    BeginRelaxed ∷ BeginUpdate ∷ BeginUpdate ∷ Read 1 5 ∷ Write 2 5 77 ∷ Read 2 7 ∷ Commit 2 ∷ Write 3 7 99 ∷ Write 3 6 88 ∷ Commit 3 ∷ Read 1 6
    ∷ Commit 1 ∷ []

-- the nodes with it counted in, wherever it may stand
unfoldable pub counted_in : List Entry
counted_in = after_stamp 1 0 ∷ under_stamp 2 1 ∷ under_stamp 3 2 ∷ []

-- ---- what no keeper may show, made up: "Letting a shared lock go when the read returns. Two jobs then overwrite each other." Both read the
-- starting zero, and both write
abbrev pub mark : Happening → Source → Mark
mark h d = record { what = h; from = d }

unfoldable pub lost_update : List Mark
lost_update =
    mark (update_began 1) none ∷ mark (update_began 2) none ∷ mark (accessed 1 (got 5 0)) (version 0) ∷ mark (accessed 2 (got 5 0)) (version 0)
    ∷ mark (accessed 1 (put 5 1)) none ∷ mark (update_committed 1 1) none ∷ mark (accessed 2 (put 5 1)) none ∷ mark (update_committed 2 2) none ∷ []

-- a query that reads one item as it was before update 1, and another as it is behind it
unfoldable pub torn_query : List Mark
torn_query =
    mark (update_began 1) none ∷ mark (query_began 2) none ∷ mark (accessed 2 (got 5 0)) (version 0) ∷ mark (accessed 1 (put 5 1)) none
    ∷ mark (accessed 1 (put 6 1)) none ∷ mark (update_committed 1 1) none ∷ mark (accessed 2 (got 6 1)) (version 1) ∷ mark (only_ended 2) none ∷ []
