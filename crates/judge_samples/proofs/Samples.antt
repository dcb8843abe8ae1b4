-- Each small file has its verdict: by computation.
use lib.Dec.{T}
use Rattle.names.specs.Words.{held_at_last}
use Rattle.rules.specs.Words.{implies, every_below, some_below, count_below, first_from, every, some, tabulate_from, row, every_row, map_rows, bit, with_bit, without_bit, contains, slots_that}
use Rattle.rules.specs.Tables.{txn, set_txn, set_awaited, set_reads, set_items_read, set_later_for, reworded, live, live_update, live_query, live_settled, live_relaxed, query_kind, any_query, may_hold, is_reader, by_start, slot_of, free_slot, some_settled, some_relaxed, relaxed_in, have_read, reader_in, readers_from, readers, lock, set_lock, holds_shared, holds_exclusive, holds, exclusives_of, released, release, unshare, fresh}
use Rattle.rules.specs.Versions.{versions_from, versions_in, versions_of, pair_words, mask_words, row_of, stamp_at, hidden_at, newest, hidden_now, sees, place, choice, read_by_some, kept_from, kept, rewritten, revealed}
use Rattle.rules.specs.Waits.{awaits, awaits_on, waiters_on, exchangers_on, rank_for, raised, lowered, noted, closed_up, conflicts, ahead, blocks, blocked, waits_for, marked, spread, rounds, reached, circle_at, no_circle}
use Rattle.rules.specs.Tested.{sizes_exact, tops_most, all_zero, free_zero, listed, start_good, awaited_good, reads_good, notes_good, awaiter_good, txn_good, distinct, holders_live, lock_good, quota_most, full_idle, quota_good, rank_within, ranks_apart, ranks_good, falls, nests, last_seen, all_read, versions_good, holders_joined, stamps_apart, stamp_above, settled_good, sets_good, good}
use Rattle.rules.specs.Locks.{held_by, decide, another_shares, another_excludes, another_ahead, decision}
use Rattle.rules.specs.Step.{begun, meets_settled, begin_by, conflicted, cleared, joined, asking_joins, grant_joins, holder_joins, read_noted, forgotten, locked, locked_anew, cell_deed, access, awaits_other, writes_further, holds_back, held_back, start_read, writes_past, counted, version_read, read_by, write_by, with_new, committed_under, committed, settled_committed, ended, commit_update, commit_by, aborted, settled_aborted, settled, abort_by, settle_by, judged, done, act, step}
use Rattle.call_words.specs.Calls.{fields_of, call_in, same_fields, is_call}
use Rattle.journal.specs.Words.{bytes_of, number_in, word_bytes, word_at}
use Rattle.journal.specs.Format.{call_at, answer_at, calls_in, answers_in, call_count, second_place, answers_place, answer_count, calls_of, answers_of}
use Rattle.judge.specs.Verdicts.{calls_short, answers_short, counts_equal, left_over, same_answer, right, wrong_from, first_wrong, verdict_on}
use Rattle.judge_samples.specs.Samples.{samples, point, named, alike, bytes_of_all, as_said, all_as_said}

pub samples_as_said : T (all_as_said samples)
unfolding samples all_as_said as_said alike point named bytes_of_all verdict_on first_wrong wrong_from right same_answer left_over counts_equal answers_short calls_short answers_of calls_of answer_count answers_place second_place call_count answers_in calls_in answer_at call_at word_at word_bytes number_in bytes_of call_in is_call same_fields fields_of implies every_below some_below count_below first_from every some tabulate_from row every_row map_rows bit with_bit without_bit contains slots_that txn set_txn set_awaited set_reads set_items_read set_later_for reworded live live_update live_query live_settled live_relaxed query_kind any_query may_hold is_reader by_start slot_of free_slot some_settled some_relaxed relaxed_in have_read reader_in readers_from readers lock set_lock holds_shared holds_exclusive holds exclusives_of released release unshare fresh versions_from versions_in versions_of pair_words mask_words row_of stamp_at hidden_at newest hidden_now sees place choice read_by_some kept_from kept rewritten revealed awaits awaits_on waiters_on exchangers_on rank_for raised lowered noted closed_up conflicts ahead blocks blocked waits_for marked spread rounds reached circle_at no_circle held_by decide another_shares another_excludes another_ahead decision begun meets_settled begin_by conflicted cleared joined asking_joins grant_joins holder_joins read_noted forgotten locked locked_anew cell_deed access awaits_other writes_further holds_back held_back start_read writes_past held_at_last counted version_read read_by write_by with_new committed_under committed settled_committed ended commit_update commit_by aborted settled_aborted settled abort_by settle_by judged done act step sizes_exact tops_most all_zero free_zero listed start_good awaited_good reads_good notes_good awaiter_good txn_good distinct holders_live lock_good quota_most full_idle quota_good rank_within ranks_apart ranks_good falls nests last_seen all_read versions_good holders_joined stamps_apart stamp_above settled_good sets_good good
samples_as_said = tt
