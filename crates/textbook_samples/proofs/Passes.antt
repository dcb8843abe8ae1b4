-- Graphs computed: on tables that stay good and so are not tested at each call.
use mathlib.Core.Bool.{Bool, not, ◌&&◌}
use mathlib.Core.List.{List, [], ◌∷◌}
use mathlib.Core.Path.{◌≡◌, refl, sym, ap, subst, ◌∙◌}
use lib.Dec.{T}
use native.Mathlib.Omega.{arith}
use Rattle.names.specs.Sizes.{base}
use Rattle.names.specs.Words.{held_at_last}
use Rattle.rules.specs.Words.{implies, every_below, some_below, count_below, first_from, every, some, tabulate_from, row, every_row, map_rows, bit, with_bit, without_bit, contains, slots_that}
use Rattle.rules.specs.Tables.{txn, set_txn, set_awaited, set_reads, set_items_read, set_later_for, reworded, live, live_update, live_query, live_settled, live_relaxed, query_kind, any_query, may_hold, is_reader, by_start, slot_of, free_slot, some_settled, some_relaxed, relaxed_in, have_read, reader_in, readers_from, readers, lock, set_lock, holds_shared, holds_exclusive, holds, exclusives_of, released, release, unshare, fresh}
use Rattle.rules.specs.Versions.{versions_from, versions_in, versions_of, pair_words, mask_words, row_of, stamp_at, hidden_at, newest, hidden_now, sees, place, choice, read_by_some, kept_from, kept, rewritten, revealed}
use Rattle.rules.specs.Waits.{awaits, awaits_on, waiters_on, exchangers_on, rank_for, raised, lowered, noted, closed_up, conflicts, ahead, blocks, blocked, waits_for, marked, spread, rounds, reached, circle_at, no_circle}
use Rattle.rules.specs.Locks.{held_by, decide, another_shares, another_excludes, another_ahead, decision}
use Rattle.rules.specs.Step.{begun, meets_settled, begin_by, conflicted, cleared, joined, asking_joins, grant_joins, holder_joins, read_noted, forgotten, locked, locked_anew, cell_deed, access, awaits_other, writes_further, holds_back, held_back, start_read, writes_past, counted, version_read, read_by, write_by, with_new, committed_under, committed, settled_committed, ended, commit_update, commit_by, aborted, settled_aborted, settled, abort_by, settle_by, judged, done, act}
use Rattle.rules.specs.Waits.{Walk, one, more}
use Rattle.rules.specs.Answers.{Call}
use Rattle.history.specs.Happened.{none_so_far, did, told, happened, begun_with, clock_after, all_of, names}
use Rattle.history.specs.Serial.{access_of, granted_to, numbers_of}
use Rattle.textbook.specs.Marks.{looked_up, source, Mark, marks, whats}
use Rattle.textbook.specs.Nodes.{under_stamp, after_stamp, queries_with, bearing, node_of, nodes_from, nodes}
use Rattle.textbook.specs.Graph.{got_from, read_at, reads_of, puts, wrote, is_of, writes_later, writes_earlier, reads_from, reads_before, different, writes_before, linked, link_among, link}
use Rattle.textbook.specs.Ordered.{before, put_in, put_all, in_order, printed}
use Rattle.textbook.proofs.Played.{played_marks, marks_played}
use Rattle.textbook_samples.specs.Samples.{each_kind, one_value, reads_then_writes, same_stamp, past_writing, others, with_relaxed, counted_in, lost_update, torn_query}

-- the marks of a run from fresh tables, as they are computed: whoever unfolds this computes with all the rules and with the graph
unfoldable computed : List Call → List Mark
unfolding played_marks looked_up source whats queries_with bearing node_of nodes_from nodes got_from read_at reads_of puts wrote is_of writes_later writes_earlier reads_from reads_before different writes_before linked link_among link before put_in put_all in_order printed names did told happened begun_with all_of access_of granted_to clock_after numbers_of implies every_below some_below count_below first_from every some tabulate_from row every_row map_rows bit with_bit without_bit contains slots_that txn set_txn set_awaited set_reads set_items_read set_later_for reworded live live_update live_query live_settled live_relaxed query_kind any_query may_hold is_reader by_start slot_of free_slot some_settled some_relaxed relaxed_in have_read reader_in readers_from readers lock set_lock holds_shared holds_exclusive holds exclusives_of released release unshare fresh versions_from versions_in versions_of pair_words mask_words row_of stamp_at hidden_at newest hidden_now sees place choice read_by_some kept_from kept rewritten revealed awaits awaits_on waiters_on exchangers_on rank_for raised lowered noted closed_up conflicts ahead blocks blocked waits_for marked spread rounds reached circle_at no_circle held_by decide another_shares another_excludes another_ahead decision begun meets_settled begin_by conflicted cleared joined asking_joins grant_joins holder_joins read_noted forgotten locked locked_anew cell_deed access awaits_other writes_further holds_back held_back start_read writes_past held_at_last counted version_read read_by write_by with_new committed_under committed settled_committed ended commit_update commit_by aborted settled_aborted settled abort_by settle_by judged done act
computed cs = played_marks base none_so_far cs (fresh base)

-- that is what they are
marks_so : (cs : List Call) → marks base cs ≡ played_marks base none_so_far cs (fresh base)
marks_so cs = marks_played base (omega arith) (omega arith) cs

-- a test of the marks, a list told by them
so : (f : List Mark → Bool) (cs : List Call) → T (f (played_marks base none_so_far cs (fresh base))) → T (f (marks base cs))
so f cs t = subst (λ (ms : List Mark). T (f ms)) (sym (marks_so cs)) t

-- ---- a link of each kind
kinds_nodes : nodes (whats (marks base each_kind)) ≡ under_stamp 1 1 ∷ under_stamp 3 2 ∷ after_stamp 4 2 ∷ after_stamp 2 1 ∷ []
unfolding computed each_kind
kinds_nodes = ap (λ (ms : List Mark). nodes (whats ms)) (marks_so each_kind) ∙ refl

from_1_and_3 : T (reads_from (marks base each_kind) (under_stamp 1 1) (after_stamp 2 1) && reads_from (marks base each_kind) (under_stamp 3 2) (after_stamp 4 2))
unfolding computed each_kind
from_1_and_3 = so (λ ms. reads_from ms (under_stamp 1 1) (after_stamp 2 1) && reads_from ms (under_stamp 3 2) (after_stamp 4 2)) each_kind tt

before_3 : T (reads_before (marks base each_kind) (after_stamp 2 1) (under_stamp 3 2))
unfolding computed each_kind
before_3 = so (λ ms. reads_before ms (after_stamp 2 1) (under_stamp 3 2)) each_kind tt

-- of the last kind alone: 3 did not read
version_1_first : T (writes_before (nodes (whats (marks base each_kind))) (marks base each_kind) (under_stamp 1 1) (under_stamp 3 2))
unfolding computed each_kind
version_1_first = so (λ ms. writes_before (nodes (whats ms)) ms (under_stamp 1 1) (under_stamp 3 2)) each_kind tt

not_otherwise : T (not (reads_from (marks base each_kind) (under_stamp 1 1) (under_stamp 3 2)) && not (reads_before (marks base each_kind) (under_stamp 1 1) (under_stamp 3 2)))
unfolding computed each_kind
not_otherwise = so (λ ms. not (reads_from ms (under_stamp 1 1) (under_stamp 3 2)) && not (reads_before ms (under_stamp 1 1) (under_stamp 3 2))) each_kind tt

-- and none against the order
none_back : T (not (link (marks base each_kind) 2 1) && (not (link (marks base each_kind) 3 2) && (not (link (marks base each_kind) 3 1) && not (link (marks base each_kind) 4 3))))
unfolding computed each_kind
none_back = so (λ ms. not (link ms 2 1) && (not (link ms 3 2) && (not (link ms 3 1) && not (link ms 4 3)))) each_kind tt

kinds_printed : printed (whats (marks base each_kind)) ≡ 1 ∷ 2 ∷ 3 ∷ 4 ∷ []
unfolding computed each_kind
kinds_printed = ap (λ (ms : List Mark). printed (whats ms)) (marks_so each_kind) ∙ refl

-- the same values: each query reads from one alone
by_version : T (reads_from (marks base one_value) (under_stamp 1 1) (after_stamp 2 1) && not (reads_from (marks base one_value) (under_stamp 3 2) (after_stamp 2 1)))
unfolding computed one_value
by_version = so (λ ms. reads_from ms (under_stamp 1 1) (after_stamp 2 1) && not (reads_from ms (under_stamp 3 2) (after_stamp 2 1))) one_value tt

-- ---- what it wrote it does not read from, nor is it linked to itself; taken literally, it would be
own_read : reads_of 1 (marks base reads_then_writes) ≡ record { item = 5; stamp = 0 } ∷ []
unfolding computed reads_then_writes
own_read = ap (reads_of 1) (marks_so reads_then_writes) ∙ refl

not_itself : T (not (link (marks base reads_then_writes) 1 1) && reads_before (marks base reads_then_writes) (under_stamp 1 1) (under_stamp 1 1))
unfolding computed reads_then_writes
not_itself = so (λ ms. not (link ms 1 1) && reads_before ms (under_stamp 1 1) (under_stamp 1 1)) reads_then_writes tt

-- ---- update 1, query 2 and the empty commit 3, all of stamp 1
stamp-links : T (link (marks base same_stamp) 1 2 && (link (marks base same_stamp) 1 3 && (not (link (marks base same_stamp) 2 3) && not (link (marks base same_stamp) 3 2))))
unfolding computed same_stamp
stamp-links = so (λ ms. link ms 1 2 && (link ms 1 3 && (not (link ms 2 3) && not (link ms 3 2)))) same_stamp tt

stamp-printed : printed (whats (marks base same_stamp)) ≡ 1 ∷ 2 ∷ 3 ∷ []
unfolding computed same_stamp
stamp-printed = ap (λ (ms : List Mark). printed (whats ms)) (marks_so same_stamp) ∙ refl

-- ---- by stamp, though 2 commits first
past-link : T (link (marks base past_writing) 1 2 && not (link (marks base past_writing) 2 1))
unfolding computed past_writing
past-link = so (λ ms. link ms 1 2 && not (link ms 2 1)) past_writing tt

past-printed : printed (whats (marks base past_writing)) ≡ 1 ∷ 2 ∷ []
unfolding computed past_writing
past-printed = ap (λ (ms : List Mark). printed (whats ms)) (marks_so past_writing) ∙ refl

-- ---- no nodes
others-printed : printed (whats (marks base others)) ≡ 1 ∷ []
unfolding computed others
others-printed = ap (λ (ms : List Mark). printed (whats ms)) (marks_so others) ∙ refl

-- ---- circles
lost_circle : Walk (link lost_update) 1 1
unfolding computed lost_update
lost_circle = more (one {a = 1} {b = 2} tt) tt

torn_circle : Walk (link torn_query) 1 1
unfolding computed torn_query
torn_circle = more (one {a = 1} {b = 2} tt) tt

-- a relaxed query is no node; counted in, it closes one
relaxed-out : nodes (whats (marks base with_relaxed)) ≡ under_stamp 2 1 ∷ under_stamp 3 2 ∷ []
unfolding computed with_relaxed
relaxed-out = ap (λ (ms : List Mark). nodes (whats ms)) (marks_so with_relaxed) ∙ refl

relaxed-circle : Walk (link_among counted_in (marks base with_relaxed)) 1 1
unfolding computed with_relaxed counted_in
relaxed-circle =
    more {b = 3} (more {b = 2} (one {a = 1} {b = 2} (so (λ ms. link_among counted_in ms 1 2) with_relaxed tt)) (so (λ ms. link_among counted_in ms 2 3) with_relaxed tt))
    (so (λ ms. link_among counted_in ms 3 1) with_relaxed tt)
