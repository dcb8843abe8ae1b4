-- What the small runs are answered, by computation, on tables that stay good and so are not tested at each call.
use Prim.Native.Nat.{ℕ}
use mathlib.Core.List.{List}
use mathlib.Core.Path.{◌≡◌, refl, ap, ◌∙◌}
use native.Mathlib.Omega.{arith}
use Rattle.names.specs.Sizes.{base}
use Rattle.names.specs.Words.{held_at_last}
use Rattle.rules.specs.Words.{implies, every_below, some_below, count_below, first_from, every, some, tabulate_from, row, every_row, map_rows, bit, with_bit, without_bit, contains, slots_that}
use Rattle.rules.specs.Tables.{txn, set_txn, set_awaited, set_reads, set_items_read, set_later_for, reworded, live, live_update, live_query, live_settled, live_relaxed, query_kind, any_query, may_hold, is_reader, by_start, slot_of, free_slot, some_settled, some_relaxed, relaxed_in, have_read, reader_in, readers_from, readers, lock, set_lock, holds_shared, holds_exclusive, holds, exclusives_of, released, release, unshare, fresh}
use Rattle.rules.specs.Versions.{versions_from, versions_in, versions_of, pair_words, mask_words, row_of, stamp_at, hidden_at, newest, hidden_now, sees, place, choice, read_by_some, kept_from, kept, rewritten, revealed}
use Rattle.rules.specs.Waits.{awaits, awaits_on, waiters_on, exchangers_on, rank_for, raised, lowered, noted, closed_up, conflicts, ahead, blocks, blocked, waits_for, marked, spread, rounds, reached, circle_at, no_circle}
use Rattle.rules.specs.Locks.{held_by, decide, another_shares, another_excludes, another_ahead, decision}
use Rattle.rules.specs.Step.{meets_settled, begin_by, conflicted, cell_deed, access, awaits_other, writes_further, holds_back, held_back, start_read, writes_past, read_by, write_by, commit_update, commit_by, abort_by, settle_by, judged, begun, cleared, joined, asking_joins, grant_joins, holder_joins, read_noted, forgotten, locked, locked_anew, counted, version_read, with_new, committed_under, committed, settled_committed, ended, aborted, settled_aborted, settled, done, act}
use Rattle.rules.specs.Answers.{Call}
use Rattle.rules.proofs.Fresh.{fresh-good}
use Rattle.history.specs.Runs.{end_of}
use Rattle.history.proofs.Happens.{run-good}
use Rattle.history.proofs.Played.{played, played_end, run_played, end_played}
use Rattle.line_samples.specs.Samples.{codes_in, codes, held, reader, reader_codes, upload, upload_codes, share_gone, share_gone_codes, settle, past_writing, past_writing_codes}
use Rattle.line_samples.specs.Samples.{queued, given_up, exchange, exchanger, exchanger_codes, refusal, refusal_codes}

-- whoever unfolds this computes with all the rules
unfoldable pub computed : List Call → List ℕ
unfolding played played_end codes_in held settle queued exchange given_up implies every_below some_below count_below first_from every some tabulate_from row every_row map_rows bit with_bit without_bit contains slots_that txn set_txn set_awaited set_reads set_items_read set_later_for reworded live live_update live_query live_settled live_relaxed query_kind any_query may_hold is_reader by_start slot_of free_slot some_settled some_relaxed relaxed_in have_read reader_in readers_from readers lock set_lock holds_shared holds_exclusive holds exclusives_of released release unshare fresh versions_from versions_in versions_of pair_words mask_words row_of stamp_at hidden_at newest hidden_now sees place choice read_by_some kept_from kept rewritten revealed awaits awaits_on waiters_on exchangers_on rank_for raised lowered noted closed_up conflicts ahead blocks blocked waits_for marked spread rounds reached circle_at no_circle held_by decide another_shares another_excludes another_ahead decision meets_settled begin_by conflicted cell_deed access awaits_other writes_further holds_back held_back start_read writes_past read_by write_by commit_update commit_by abort_by settle_by judged begun cleared joined asking_joins grant_joins holder_joins read_noted forgotten locked locked_anew held_at_last counted version_read with_new committed_under committed settled_committed ended aborted settled_aborted settled done act
computed cs = codes_in (played base cs (fresh base))

-- these are the codes, and the tables at the end, of one run and of another after it
codes_so : (cs : List Call) → codes cs ≡ codes_in (played base cs (fresh base))
unfolding codes
codes_so cs = ap codes_in (run_played base (omega arith) cs (fresh base) (fresh-good base (omega arith)))

pub end_so : (cs : List Call) → end_of base cs (fresh base) ≡ played_end base cs (fresh base)
end_so cs = end_played base (omega arith) cs (fresh base) (fresh-good base (omega arith))

pub ends_so : (cs ds : List Call) → end_of base ds (end_of base cs (fresh base)) ≡ played_end base ds (played_end base cs (fresh base))
ends_so cs ds =
    end_played base (omega arith) ds (end_of base cs (fresh base)) (run-good base (omega arith) (omega arith) cs)
    ∙ ap (played_end base ds) (end_so cs)

reader-codes : codes reader ≡ reader_codes
unfolding computed reader reader_codes
reader-codes = codes_so reader ∙ refl

upload-codes : codes upload ≡ upload_codes
unfolding computed upload upload_codes
upload-codes = codes_so upload ∙ refl

share_gone-codes : codes share_gone ≡ share_gone_codes
unfolding computed share_gone share_gone_codes
share_gone-codes = codes_so share_gone ∙ refl

past_writing-codes : codes past_writing ≡ past_writing_codes
unfolding computed past_writing past_writing_codes
past_writing-codes = codes_so past_writing ∙ refl

exchanger-codes : codes exchanger ≡ exchanger_codes
unfolding computed exchanger exchanger_codes
exchanger-codes = codes_so exchanger ∙ refl

refusal-codes : codes refusal ≡ refusal_codes
unfolding computed refusal refusal_codes
refusal-codes = codes_so refusal ∙ refl
