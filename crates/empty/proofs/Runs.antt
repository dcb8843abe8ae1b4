-- Small runs from fresh tables, trial C of document 01 among them, and what the rules say of the next call, by computation. The tables
-- stay behind the inputs' names: whoever uses a run has only what is stated of it here.
use Prim.Native.Nat.{ℕ, ◌-◌}
use mathlib.Core.Path.{◌≡◌, refl, sym, ap, subst, ◌∙◌}
use mathlib.Core.Bool.{not}
use mathlib.Core.List.{List, [], ◌∷◌}
use lib.Dec.{T}
use native.Mathlib.Omega.{arith}
use lib.ListN.{replicate}
use Rattle.names.specs.declared.Answer.{Answer}
use Rattle.names.specs.Sizes.{base}
use Rattle.names.specs.Words.{held_at_last}
use Rattle.rules.specs.Words.{implies, every_below, some_below, count_below, first_from, every, some, tabulate_from, row, every_row, map_rows, bit, with_bit, without_bit, contains, slots_that}
use Rattle.rules.specs.Tables.{txn, set_txn, set_awaited, set_reads, set_items_read, set_later_for, reworded, live, live_update, live_query, live_settled, live_relaxed, query_kind, any_query, may_hold, is_reader, by_start, slot_of, free_slot, some_settled, some_relaxed, relaxed_in, have_read, reader_in, readers_from, readers, lock, set_lock, holds_shared, holds_exclusive, holds, exclusives_of, released, release, unshare, fresh}
use Rattle.rules.specs.Versions.{versions_from, versions_in, versions_of, pair_words, mask_words, row_of, stamp_at, hidden_at, newest, hidden_now, sees, place, choice, read_by_some, kept_from, kept, rewritten, revealed}
use Rattle.rules.specs.Waits.{awaits, awaits_on, waiters_on, exchangers_on, rank_for, raised, lowered, noted, closed_up, conflicts, ahead, blocks, blocked, waits_for, marked, spread, rounds, reached, circle_at, no_circle}
use Rattle.rules.specs.Locks.{held_by, decide, another_shares, another_excludes, another_ahead, decision}
use Rattle.rules.specs.Step.{begun, meets_settled, begin_by, conflicted, cleared, joined, asking_joins, grant_joins, holder_joins, read_noted, forgotten, locked, locked_anew, cell_deed, access, awaits_other, writes_further, holds_back, held_back, start_read, writes_past, counted, version_read, read_by, write_by, with_new, committed_under, committed, settled_committed, ended, commit_update, commit_by, aborted, settled_aborted, settled, abort_by, settle_by, judged, done, act, step}
use Rattle.rules.specs.Tables.{Tables, tables, last_number, txn_words, lock_words, a_query}
use Rattle.rules.specs.Answers.{Call, BeginUpdate, BeginQuery, Read, Write, Commit, Outcome}
use Rattle.rules.specs.Tested.{good}
use Rattle.rules.specs.Good.{Good}
use Rattle.rules.proofs.Equal.{Good→good}
use Rattle.rules.proofs.Steps.{acts}
use Rattle.rules.proofs.Keeps.{keeps}
use Rattle.rules.proofs.Fresh.{fresh-good}
use Rattle.empty.specs.Calls.{is_word, call_of_words, is_read, is_begin}
use Rattle.empty.specs.Programs.{Input, tables_of_words}
use Rattle.empty.specs.Empty.{without_versions}

-- the tables that the calls leave, one after another: good ones stay good (leave-good), so `act` leaves what `step` does, and they are
-- not tested at each call
unfoldable leave : List Call → Tables → Tables
leave [] G = G
leave (c ∷ cs) G = leave cs (act base c G).after

-- the tables that the calls leave of fresh ones
unfoldable pub tables_after : List Call → Tables
unfolding leave
tables_after cs = leave cs (fresh base)

-- what the rules answer and leave of an input
unfoldable pub right : Input → Outcome
right i = step base i.call i.before

leave_good : (cs : List Call) (G : Tables) → Good base G → Good base (leave cs G)
unfolding leave
leave_good [] G g = g
leave_good (c ∷ cs) G g =
    leave_good cs (act base c G).after
    (subst (λ (o : Outcome). Good base o.after) (acts base c G g) (keeps base (omega arith) c G g))

after-good : (cs : List Call) → Good base (tables_after cs)
unfolding tables_after
after-good cs = leave_good cs (fresh base) (fresh-good base (omega arith))

-- on good tables the rules answer and leave the same without the test
right-act : (i : Input) → Good base i.before → right i ≡ act base i.call i.before
unfolding right
right-act i g = acts base i.call i.before g

right_answer : (i : Input) → Good base i.before → (right i).answer ≡ (act base i.call i.before).answer
right_answer i g = ap (λ (o : Outcome). o.answer) (right-act i g)

-- whoever unfolds this computes with all the rules
unfoldable computed : Input → Outcome
unfolding is_read is_begin is_word call_of_words tables_of_words without_versions tables_after leave implies every_below some_below count_below first_from every some tabulate_from row every_row map_rows bit with_bit without_bit contains slots_that txn set_txn set_awaited set_reads set_items_read set_later_for reworded live live_update live_query live_settled live_relaxed query_kind any_query may_hold is_reader by_start slot_of free_slot some_settled some_relaxed relaxed_in have_read reader_in readers_from readers lock set_lock holds_shared holds_exclusive holds exclusives_of released release unshare fresh versions_from versions_in versions_of pair_words mask_words row_of stamp_at hidden_at newest hidden_now sees place choice read_by_some kept_from kept rewritten revealed awaits awaits_on waiters_on exchangers_on rank_for raised lowered noted closed_up conflicts ahead blocks blocked waits_for marked spread rounds reached circle_at no_circle held_by decide another_shares another_excludes another_ahead decision begun meets_settled begin_by conflicted cleared joined asking_joins grant_joins holder_joins read_noted forgotten locked locked_anew cell_deed access awaits_other writes_further holds_back held_back start_read writes_past held_at_last counted version_read read_by write_by with_new committed_under committed settled_committed ended commit_update commit_by aborted settled_aborted settled abort_by settle_by judged done act
computed i = act base i.call i.before

-- the call c after the calls cs
abbrev asked : (c : Call) (cs : List Call) → T (call_of_words c) → T (tables_of_words (tables_after cs)) → Input
asked c cs w u = record { call = c; before = tables_after cs; call_words = w; table_words = u }

-- an answer's code, value, number and looked
abbrev pub answer : ℕ → ℕ → ℕ → ℕ → Answer
answer c v n k = record { code = c; value = v; number = n; looked = k }

-- ---- a begin on fresh tables: it is granted, and gives the number 1
pub begin_fresh : Input
unfolding computed
begin_fresh = asked BeginUpdate [] tt tt

pub begin_fresh_answer : (right begin_fresh).answer ≡ answer 0 0 1 0
unfolding computed begin_fresh
begin_fresh_answer = right_answer begin_fresh (after-good []) ∙ refl

pub begin_fresh_last : last_number begin_fresh.before.txns ≡ 0
unfolding computed begin_fresh
begin_fresh_last = refl

pub begin_fresh_next : last_number (right begin_fresh).after.txns ≡ 1
unfolding computed begin_fresh
begin_fresh_next = ap (λ (o : Outcome). last_number o.after.txns) (right-act begin_fresh (after-good [])) ∙ refl

-- ---- trial C, "T1 writes x, T2 reads x: 1.": x is 7, and T1 writes 42
abbrev after_write : List Call
after_write = BeginUpdate ∷ BeginUpdate ∷ Write 1 7 42 ∷ []

pub read_held : Input
unfolding computed
read_held = asked (Read 2 7) after_write tt tt

pub read_held_good : T (good base read_held.before)
unfolding computed read_held
read_held_good = Good→good base read_held.before (after-good after_write)

pub read_held_answer : (right read_held).answer ≡ answer 1 0 0 0
unfolding computed read_held
read_held_answer = right_answer read_held (after-good after_write) ∙ refl

-- "T1 commits": the newest value of x was 0 and is 42
abbrev after_wait : List Call
after_wait = BeginUpdate ∷ BeginUpdate ∷ Write 1 7 42 ∷ Read 2 7 ∷ []

pub commit_written : Input
unfolding computed
commit_written = asked (Commit 1) after_wait tt tt

pub commit_written_later : T (not (is_begin commit_written.call))
unfolding computed commit_written
commit_written_later = tt

pub commit_written_was : newest base commit_written.before.versions 7 ≡ 0
unfolding computed commit_written
commit_written_was = refl

pub commit_written_is : newest base (right commit_written).after.versions 7 ≡ 42
unfolding computed commit_written
commit_written_is = ap (λ (o : Outcome). newest base o.after.versions 7) (right-act commit_written (after-good after_wait)) ∙ refl

-- "T2 reads x: 0 with T1's value."
abbrev after_commit : List Call
after_commit = BeginUpdate ∷ BeginUpdate ∷ Write 1 7 42 ∷ Read 2 7 ∷ Commit 1 ∷ []

pub read_committed : Input
unfolding computed
read_committed = asked (Read 2 7) after_commit tt tt

pub read_committed_reads : T (is_read read_committed.call)
unfolding computed read_committed
read_committed_reads = tt

pub read_committed_answer : (right read_committed).answer ≡ answer 0 42 0 1
unfolding computed read_committed
read_committed_answer = right_answer read_committed (after-good after_commit) ∙ refl

-- ---- query 1 reads item 5 after update 2 wrote that item, or another one, and committed. All but the version rows is the same, and
-- the query reads 0 in both, at place 2 and at place 1
abbrev item_written : List Call
item_written = BeginQuery ∷ BeginUpdate ∷ Write 2 5 77 ∷ Commit 2 ∷ []

pub read_past : Input
unfolding computed
read_past = asked (Read 1 5) item_written tt tt

abbrev other_written : List Call
other_written = BeginQuery ∷ BeginUpdate ∷ Write 2 6 77 ∷ Commit 2 ∷ []

pub read_beside : Input
unfolding computed
read_beside = asked (Read 1 5) other_written tt tt

pub same-call : read_past.call ≡ read_beside.call
unfolding computed read_past read_beside
same-call = refl

-- what is the same: two numbers given, one commit, query 1 with the start 0 in slot 0, and no lock
unfoldable one_query : Tables
one_query = tables (2 ∷ 1 ∷ 1 ∷ a_query ∷ replicate (txn_words base - 4) 0) (replicate (lock_words base) 0) []

read_past_beside : without_versions read_past.before ≡ one_query
unfolding computed read_past one_query
read_past_beside = refl

read_beside_beside : without_versions read_beside.before ≡ one_query
unfolding computed read_beside one_query
read_beside_beside = refl

pub same-beside-versions : without_versions read_past.before ≡ without_versions read_beside.before
same-beside-versions = read_past_beside ∙ sym read_beside_beside

pub read_past_answer : (right read_past).answer ≡ answer 0 0 0 2
unfolding computed read_past
read_past_answer = right_answer read_past (after-good item_written) ∙ refl

pub read_beside_answer : (right read_beside).answer ≡ answer 0 0 0 1
unfolding computed read_beside
read_beside_answer = right_answer read_beside (after-good other_written) ∙ refl
