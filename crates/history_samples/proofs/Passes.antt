-- Right runs pass, wrong ones do not, a query is undisturbed and an update is not: by computation, on tables that stay good and so are not
-- tested at each call.
use Prim.Native.Nat.{ℕ}
use mathlib.Core.Bool.{Bool, not}
use mathlib.Core.List.{List, [], ◌∷◌}
use mathlib.Core.Path.{◌≡◌, refl, sym, ap, subst, ◌∙◌}
use lib.Dec.{T}
use native.Mathlib.Omega.{arith}
use Rattle.names.specs.Sizes.{base}
use Rattle.names.specs.Answers.{plain, found}
use Rattle.names.specs.Words.{held_at_last}
use Rattle.rules.specs.Words.{implies, every_below, some_below, count_below, first_from, every, some, tabulate_from, row, every_row, map_rows, bit, with_bit, without_bit, contains, slots_that}
use Rattle.rules.specs.Tables.{txn, set_txn, set_awaited, set_reads, set_items_read, set_later_for, reworded, live, live_update, live_query, live_settled, live_relaxed, query_kind, any_query, may_hold, is_reader, by_start, slot_of, free_slot, some_settled, some_relaxed, relaxed_in, have_read, reader_in, readers_from, readers, lock, set_lock, holds_shared, holds_exclusive, holds, exclusives_of, released, release, unshare, fresh}
use Rattle.rules.specs.Versions.{versions_from, versions_in, versions_of, pair_words, mask_words, row_of, stamp_at, hidden_at, newest, hidden_now, sees, place, choice, read_by_some, kept_from, kept, rewritten, revealed}
use Rattle.rules.specs.Waits.{awaits, awaits_on, waiters_on, exchangers_on, rank_for, raised, lowered, noted, closed_up, conflicts, ahead, blocks, blocked, waits_for, marked, spread, rounds, reached, circle_at, no_circle}
use Rattle.rules.specs.Locks.{held_by, decide, another_shares, another_excludes, another_ahead, decision}
use Rattle.rules.specs.Step.{begun, meets_settled, begin_by, conflicted, cleared, joined, asking_joins, grant_joins, holder_joins, read_noted, forgotten, locked, locked_anew, cell_deed, access, awaits_other, writes_further, holds_back, held_back, start_read, writes_past, counted, version_read, read_by, write_by, with_new, committed_under, committed, settled_committed, ended, commit_update, commit_by, aborted, settled_aborted, settled, abort_by, settle_by, judged, done, act}
use Rattle.rules.specs.Answers.{Call, BeginQuery, BeginRelaxed}
use Rattle.rules.specs.Tables.{Tables}
use Rattle.rules.proofs.Fresh.{fresh-good}
use Rattle.history.specs.Runs.{Event, run, end_of}
use Rattle.history.specs.Happened.{got, put, Happening, empty_committed, only_ended, update_began, query_began, none_so_far, did, told, happened, begun_with, happenings_after, happenings, clock_after, all_of, names}
use Rattle.history.specs.Serial.{zeros, agrees, final, access_of, granted_to, place_of, insert, insert_all, entries_from, numbers_of, order, one_by_one, serial}
use Rattle.history.proofs.Played.{played, played_end, run_played, end_played}
use Rattle.history_samples.specs.Samples.{serializes, run_passes, mixed, past_writing, without_stamp, settled_later, settled_sooner, by_clock, agrees_in, empty_update, ended_query, stored, late_snapshot, timely_snapshot, fresher, circle, lost_update, kept_update, dirty_read, hasty, patient}
use Rattle.history_samples.specs.Samples.{ends_moved, ends_unmoved, last_answer, quietly, among, undisturbed, settled_before, then_commits, then_aborts, then_rewrites, update_alone, update_after, reads_alone, reads_after}

-- what happens in a run from fresh tables, as it is computed: whoever unfolds this computes with all the rules and with the definitions of
-- demand 3
unfoldable computed : List Call → List Event
unfolding played played_end names did told happened begun_with happenings_after all_of agrees final access_of granted_to clock_after place_of insert insert_all entries_from numbers_of order one_by_one serial serializes agrees_in implies every_below some_below count_below first_from every some tabulate_from row every_row map_rows bit with_bit without_bit contains slots_that txn set_txn set_awaited set_reads set_items_read set_later_for reworded live live_update live_query live_settled live_relaxed query_kind any_query may_hold is_reader by_start slot_of free_slot some_settled some_relaxed relaxed_in have_read reader_in readers_from readers lock set_lock holds_shared holds_exclusive holds exclusives_of released release unshare fresh versions_from versions_in versions_of pair_words mask_words row_of stamp_at hidden_at newest hidden_now sees place choice read_by_some kept_from kept rewritten revealed awaits awaits_on waiters_on exchangers_on rank_for raised lowered noted closed_up conflicts ahead blocks blocked waits_for marked spread rounds reached circle_at no_circle held_by decide another_shares another_excludes another_ahead decision begun meets_settled begin_by conflicted cleared joined asking_joins grant_joins holder_joins read_noted forgotten locked locked_anew cell_deed access awaits_other writes_further holds_back held_back start_read writes_past held_at_last counted version_read read_by write_by with_new committed_under committed settled_committed ended commit_update commit_by aborted settled_aborted settled abort_by settle_by judged done act
computed cs = played base cs (fresh base)

abbrev played_happenings : List Call → List Happening
played_happenings cs = happenings_after none_so_far (played base cs (fresh base))

-- that is what happens
run_so : (cs : List Call) → run base cs (fresh base) ≡ played base cs (fresh base)
run_so cs = run_played base (omega arith) cs (fresh base) (fresh-good base (omega arith))

end_so : (cs : List Call) → end_of base cs (fresh base) ≡ played_end base cs (fresh base)
end_so cs = end_played base (omega arith) cs (fresh base) (fresh-good base (omega arith))

happenings_so : (cs : List Call) → happenings base cs ≡ played_happenings cs
unfolding happenings
happenings_so cs = ap (happenings_after none_so_far) (run_so cs)

passes_so : (cs : List Call) → T (serializes (played_happenings cs) (played_end base cs (fresh base))) → T (run_passes cs)
unfolding run_passes
passes_so cs h =
    subst (λ (hs : List Happening). T (serializes hs (end_of base cs (fresh base)))) (sym (happenings_so cs))
    (subst (λ (G : Tables). T (serializes (played_happenings cs) G)) (sym (end_so cs)) h)

-- ---- right runs
mixed-order : order (happenings base mixed) ≡ 3 ∷ 1 ∷ 4 ∷ 2 ∷ []
unfolding computed mixed
mixed-order = ap order (happenings_so mixed) ∙ refl

-- query 3, update 1, query 4, update 2, each whole
mixed-serial :
    serial (happenings base mixed)
    ≡ got 6 0 ∷ got 5 0
    ∷ got 5 0 ∷ put 6 77
    ∷ got 6 77 ∷ got 5 0 ∷ got 7 0 ∷ got 6 77
    ∷ got 5 0 ∷ got 6 77 ∷ put 5 88 ∷ got 5 88 ∷ []
unfolding computed mixed
mixed-serial = ap serial (happenings_so mixed) ∙ refl

mixed-passes : T (run_passes mixed)
unfolding computed mixed
mixed-passes = passes_so mixed tt

-- by stamp, though 2 commits first
past-order : order (happenings base past_writing) ≡ 1 ∷ 3 ∷ 2 ∷ []
unfolding computed past_writing
past-order = ap order (happenings_so past_writing) ∙ refl

past-serial : serial (happenings base past_writing) ≡ put 5 77 ∷ got 6 0 ∷ got 6 0 ∷ got 5 77 ∷ put 6 88 ∷ []
unfolding computed past_writing
past-serial = ap serial (happenings_so past_writing) ∙ refl

past-passes : T (run_passes past_writing)
unfolding computed past_writing
past-passes = passes_so past_writing tt

-- request E7: 2 and 4 stand behind 1, whose stamp is the clock that they were answered, though 2 commits before it
empty_order : order (happenings base without_stamp) ≡ 1 ∷ 2 ∷ 4 ∷ 3 ∷ []
unfolding computed without_stamp
empty_order = ap order (happenings_so without_stamp) ∙ refl

empty_passes : T (run_passes without_stamp)
unfolding computed without_stamp
empty_passes = passes_so without_stamp tt

later-order : order (happenings base settled_later) ≡ by_clock
unfolding computed settled_later by_clock
later-order = ap order (happenings_so settled_later) ∙ refl

later-passes : T (run_passes settled_later)
unfolding computed settled_later
later-passes = passes_so settled_later tt

-- in the order of the commits' times 1 reads a wrong number; with 3 ahead of 1, and the others by their stamps, 3 does
by_time_refused : T (not (agrees_in (2 ∷ 3 ∷ 1 ∷ []) (happenings base settled_later)))
unfolding computed settled_later
by_time_refused = subst (λ (hs : List Happening). T (not (agrees_in (2 ∷ 3 ∷ 1 ∷ []) hs))) (sym (happenings_so settled_later)) tt

ahead-refused : T (not (agrees_in (3 ∷ 1 ∷ 2 ∷ []) (happenings base settled_later)))
unfolding computed settled_later
ahead-refused = subst (λ (hs : List Happening). T (not (agrees_in (3 ∷ 1 ∷ 2 ∷ []) hs))) (sym (happenings_so settled_later)) tt

-- where 1 is the last to commit before 3: right behind it 3 reads a wrong number
sooner_order : order (happenings base settled_sooner) ≡ by_clock
unfolding computed settled_sooner by_clock
sooner_order = ap order (happenings_so settled_sooner) ∙ refl

behind-last-refused : T (not (agrees_in (1 ∷ 3 ∷ 2 ∷ []) (happenings base settled_sooner)))
unfolding computed settled_sooner
behind-last-refused = subst (λ (hs : List Happening). T (not (agrees_in (1 ∷ 3 ∷ 2 ∷ []) hs))) (sym (happenings_so settled_sooner)) tt

-- the same call and the same answer: what was before tells them apart
update-told : happenings base empty_update ≡ update_began 1 ∷ empty_committed 1 0 ∷ []
unfolding computed empty_update
update-told = happenings_so empty_update ∙ refl

query-told : happenings base ended_query ≡ query_began 1 ∷ only_ended 1 ∷ []
unfolding computed ended_query
query-told = happenings_so ended_query ∙ refl

stored-passes : T (run_passes stored)
unfolding computed stored
stored-passes = passes_so stored tt

-- ---- wrong ones, each beside a right one
late_refused : T (not (agrees (serial (happenings_after none_so_far late_snapshot)) (zeros base)))
unfolding computed late_snapshot
late_refused = tt

timely_accepted : T (agrees (serial (happenings_after none_so_far timely_snapshot)) (zeros base))
unfolding computed timely_snapshot
timely_accepted = tt

lost_refused : T (not (agrees (serial (happenings_after none_so_far lost_update)) (zeros base)))
unfolding computed lost_update
lost_refused = tt

kept-accepted : T (agrees (serial (happenings_after none_so_far kept_update)) (zeros base))
unfolding computed kept_update
kept-accepted = tt

dirty_refused : T (not (agrees (serial (happenings_after none_so_far dirty_read)) (zeros base)))
unfolding computed dirty_read
dirty_refused = tt

hasty-refused : T (not (agrees (serial (happenings_after none_so_far hasty)) (zeros base)))
unfolding computed hasty
hasty-refused = tt

patient-accepted : T (agrees (serial (happenings_after none_so_far patient)) (zeros base))
unfolding computed patient
patient-accepted = tt

-- a right run whose writes were stored nowhere: the reads agree, the end does not
unstored_refused : T (not (serializes (happenings base stored) (fresh base)))
unfolding computed stored
unstored_refused = subst (λ (hs : List Happening). T (not (serializes hs (fresh base)))) (sym (happenings_so stored)) tt

-- ---- the undisturbed query: the same reads, the same numbers
reads_so : (n : ℕ) (cs : List Call) → granted_to n (happenings base cs) ≡ granted_to n (played_happenings cs)
reads_so n cs = ap (granted_to n) (happenings_so cs)

query-alone : granted_to 1 (happenings base (BeginQuery ∷ quietly)) ≡ undisturbed
unfolding computed quietly undisturbed
query-alone = reads_so 1 (BeginQuery ∷ quietly) ∙ refl

query-among : granted_to 1 (happenings base (BeginQuery ∷ among)) ≡ undisturbed
unfolding computed among undisturbed
query-among = reads_so 1 (BeginQuery ∷ among) ∙ refl

-- ---- request E8: its end is disturbed. The reads give the same numbers in both runs; the second looks at two versions in the one and at one in
-- the other
moved-reads : granted_to 2 (happenings base ends_moved) ≡ granted_to 2 (happenings base ends_unmoved)
unfolding computed ends_moved ends_unmoved
moved-reads = reads_so 2 ends_moved ∙ refl ∙ sym (reads_so 2 ends_unmoved)

end_moved : last_answer plain (run base ends_moved (fresh base)) ≡ found 3 2
unfolding computed ends_moved last_answer
end_moved = ap (last_answer plain) (run_so ends_moved) ∙ refl

end_unmoved : last_answer plain (run base ends_unmoved (fresh base)) ≡ found 2 2
unfolding computed ends_unmoved last_answer
end_unmoved = ap (last_answer plain) (run_so ends_unmoved) ∙ refl

-- ---- request E6: where one past its writing ends otherwise, so does the query's read
reads-commit : granted_to 2 (happenings base then_commits) ≡ got 5 77 ∷ []
unfolding computed then_commits settled_before
reads-commit = reads_so 2 then_commits ∙ refl

reads-abort : granted_to 2 (happenings base then_aborts) ≡ got 5 0 ∷ []
unfolding computed then_aborts settled_before
reads-abort = reads_so 2 then_aborts ∙ refl

reads_rewrite : granted_to 2 (happenings base then_rewrites) ≡ got 5 78 ∷ []
unfolding computed then_rewrites settled_before
reads_rewrite = reads_so 2 then_rewrites ∙ refl

-- ---- an update is disturbed, so that the statement is not empty: the same call, another number
update-alone : granted_to 1 (happenings base update_alone) ≡ reads_alone
unfolding computed update_alone reads_alone
update-alone = reads_so 1 update_alone ∙ refl

update-after : granted_to 1 (happenings base update_after) ≡ reads_after
unfolding computed update_after reads_after
update-after = reads_so 1 update_after ∙ refl

-- ---- request E11: a relaxed query reads what was committed since its begin, and a strict one does not
relaxed-fresher : granted_to 1 (happenings base (fresher BeginRelaxed)) ≡ got 5 77 ∷ []
unfolding computed fresher
relaxed-fresher = reads_so 1 (fresher BeginRelaxed) ∙ refl

strict_older : granted_to 1 (happenings base (fresher BeginQuery)) ≡ got 5 0 ∷ []
unfolding computed fresher
strict_older = reads_so 1 (fresher BeginQuery) ∙ refl

-- its end answers as a query's does
relaxed_end : last_answer plain (run base (fresher BeginRelaxed) (fresh base)) ≡ found 1 1
unfolding computed fresher last_answer
relaxed_end = ap (last_answer plain) (run_so (fresher BeginRelaxed)) ∙ refl

-- what no strict query could read: in no order of the three do all reads agree, and update 3 alone gives the query its numbers
circle-reads : granted_to 1 (happenings base circle) ≡ got 5 0 ∷ got 6 88 ∷ []
unfolding computed circle
circle-reads = reads_so 1 circle ∙ refl

agrees_so : (ns : List ℕ) → agrees_in ns (happenings base circle) ≡ agrees_in ns (played_happenings circle)
agrees_so ns = ap (agrees_in ns) (happenings_so circle)

no_order :
    T (not (agrees_in (1 ∷ 2 ∷ 3 ∷ []) (happenings base circle))) × T (not (agrees_in (1 ∷ 3 ∷ 2 ∷ []) (happenings base circle)))
    × T (not (agrees_in (2 ∷ 1 ∷ 3 ∷ []) (happenings base circle))) × T (not (agrees_in (2 ∷ 3 ∷ 1 ∷ []) (happenings base circle)))
    × T (not (agrees_in (3 ∷ 1 ∷ 2 ∷ []) (happenings base circle))) × T (not (agrees_in (3 ∷ 2 ∷ 1 ∷ []) (happenings base circle)))
unfolding computed circle
no_order = (
  subst (λ (b : Bool). T (not b)) (sym (agrees_so (1 ∷ 2 ∷ 3 ∷ []))) tt,
  subst (λ (b : Bool). T (not b)) (sym (agrees_so (1 ∷ 3 ∷ 2 ∷ []))) tt,
  subst (λ (b : Bool). T (not b)) (sym (agrees_so (2 ∷ 1 ∷ 3 ∷ []))) tt,
  subst (λ (b : Bool). T (not b)) (sym (agrees_so (2 ∷ 3 ∷ 1 ∷ []))) tt,
  subst (λ (b : Bool). T (not b)) (sym (agrees_so (3 ∷ 1 ∷ 2 ∷ []))) tt,
  subst (λ (b : Bool). T (not b)) (sym (agrees_so (3 ∷ 2 ∷ 1 ∷ []))) tt,
)

outside_alone : T (agrees_in (3 ∷ 1 ∷ []) (happenings base circle))
unfolding computed circle
outside_alone = subst T (sym (agrees_so (3 ∷ 1 ∷ []))) tt

-- the updates stand in their order, as they would without it
circle-order : order (happenings base circle) ≡ 2 ∷ 3 ∷ []
unfolding computed circle
circle-order = ap order (happenings_so circle) ∙ refl

circle-passes : T (run_passes circle)
unfolding computed circle
circle-passes = passes_so circle tt
