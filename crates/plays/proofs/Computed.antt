-- A trial, computed: on good tables, which every call leaves good, so that they are tested once and not at each call.
use Prim.Native.Nat.{◌≤◌}
use mathlib.Core.Bool.{Bool, ◌&&◌}
use mathlib.Core.Logic.{◌⊎◌, inl, inr}
use mathlib.Core.List.{List, [], ◌∷◌}
use mathlib.Core.Path.{◌≡◌, sym, subst}
use lib.Dec.{T}
use native.Mathlib.Omega.{arith}
use Rattle.names.specs.declared.Sizes.{Sizes}
use Rattle.names.specs.Sizes.{base, sixteen, Both}
use Rattle.names.specs.Words.{held_at_last}
use Rattle.rules.specs.Words.{implies, every_below, some_below, count_below, first_from, every, some, tabulate_from, row, every_row, map_rows, bit, with_bit, without_bit, contains, slots_that}
use Rattle.rules.specs.Tables.{txn, set_txn, set_awaited, set_reads, set_items_read, set_later_for, reworded, live, live_update, live_query, live_settled, live_relaxed, query_kind, any_query, may_hold, is_reader, by_start, slot_of, free_slot, some_settled, some_relaxed, relaxed_in, have_read, reader_in, readers_from, readers, lock, set_lock, holds_shared, holds_exclusive, holds, exclusives_of, released, release, unshare, fresh}
use Rattle.rules.specs.Versions.{versions_from, versions_in, versions_of, pair_words, mask_words, row_of, stamp_at, hidden_at, newest, hidden_now, sees, place, choice, read_by_some, kept_from, kept, rewritten, revealed}
use Rattle.rules.specs.Waits.{awaits, awaits_on, waiters_on, exchangers_on, rank_for, raised, lowered, noted, closed_up, conflicts, ahead, blocks, blocked, waits_for, marked, spread, rounds, reached, circle_at, no_circle}
use Rattle.rules.specs.Locks.{held_by, decide, another_shares, another_excludes, another_ahead, decision}
use Rattle.rules.specs.Step.{begun, meets_settled, begin_by, conflicted, cleared, joined, asking_joins, grant_joins, holder_joins, read_noted, forgotten, locked, locked_anew, cell_deed, access, awaits_other, writes_further, holds_back, held_back, start_read, writes_past, counted, version_read, read_by, write_by, with_new, committed_under, committed, settled_committed, ended, commit_update, commit_by, aborted, settled_aborted, settled, abort_by, settle_by, judged, done, act, step}
use Rattle.rules.specs.Answers.{Outcome}
use Rattle.rules.specs.Good.{Good}
use Rattle.rules.proofs.Tests.{and_left, and_right, and_both}
use Rattle.rules.proofs.Steps.{acts}
use Rattle.rules.proofs.Keeps.{keeps}
use Rattle.rules.proofs.Fresh.{fresh-good}
use Rattle.rules.specs.Tables.{Tables}
use Rattle.plays.specs.Plays.{Line, answers, passes}

-- a script played without the test of all tables
unfoldable pub played : Sizes → List Line → (Tables → Bool) → Tables → Bool
played S [] end G = end G
played S (l ∷ ls) end G =
    let o = act S l.call G in
    let rest = played S ls end o.after in
    answers l o.answer && rest

module _ (S : Sizes) (enough : S.slots ≤ S.places) where
  -- from good tables that is the same
  pub played_passes : (ls : List Line) (end : Tables → Bool) (G : Tables) → Good S G → T (played S ls end G) → T (passes S ls end G)
  unfolding played passes
  played_passes [] end G g h = h
  played_passes (l ∷ ls) end G g h =
      let a = answers l (act S l.call G).answer in
      let e : act S l.call G ≡ step S l.call G = sym (acts S l.call G g) in
      let o = step S l.call G in
      and_both (answers l o.answer) (passes S ls end o.after)
      (subst (λ (o : Outcome). T (answers l o.answer)) e (and_left a _ h))
      (played_passes ls end o.after (keeps S enough l.call G g)
      (subst (λ (o : Outcome). T (played S ls end o.after)) e (and_right a _ h)))

-- from fresh tables, of both sizes
abbrev pub PlayedFresh : (Sizes → List Line) → (Sizes → Tables → Bool) → Sizes → Type 0
PlayedFresh ls end S = T (played S (ls S) (end S) (fresh S))

abbrev pub PassesFresh : (Sizes → List Line) → (Sizes → Tables → Bool) → Sizes → Type 0
PassesFresh ls end S = T (passes S (ls S) (end S) (fresh S))

abbrev pub OneOfBoth : Sizes → Type 0
OneOfBoth S = (S ≡ base) ⊎ (S ≡ sixteen)

pub fresh-passes : (ls : Sizes → List Line) (end : Sizes → Tables → Bool) → Both (PlayedFresh ls end) → (S : Sizes) → OneOfBoth S → PassesFresh ls end S
fresh-passes ls end h S (inl e) =
    subst (PassesFresh ls end) (sym e) (played_passes base (omega arith) (ls base) (end base) (fresh base) (fresh-good base (omega arith)) h.0)
fresh-passes ls end h S (inr e) =
    subst (PassesFresh ls end) (sym e) (played_passes sixteen (omega arith) (ls sixteen) (end sixteen) (fresh sixteen) (fresh-good sixteen (omega arith)) h.1)

-- a script, as it is computed: whoever unfolds this computes with all the rules
unfoldable pub computed : Sizes → List Line → (Tables → Bool) → Tables → Bool
unfolding played answers implies every_below some_below count_below first_from every some tabulate_from row every_row map_rows bit with_bit without_bit contains slots_that txn set_txn set_awaited set_reads set_items_read set_later_for reworded live live_update live_query live_settled live_relaxed query_kind any_query may_hold is_reader by_start slot_of free_slot some_settled some_relaxed relaxed_in have_read reader_in readers_from readers lock set_lock holds_shared holds_exclusive holds exclusives_of released release unshare fresh versions_from versions_in versions_of pair_words mask_words row_of stamp_at hidden_at newest hidden_now sees place choice read_by_some kept_from kept rewritten revealed awaits awaits_on waiters_on exchangers_on rank_for raised lowered noted closed_up conflicts ahead blocks blocked waits_for marked spread rounds reached circle_at no_circle held_by decide another_shares another_excludes another_ahead decision begun meets_settled begin_by conflicted cleared joined asking_joins grant_joins holder_joins read_noted forgotten locked locked_anew cell_deed access awaits_other writes_further holds_back held_back start_read writes_past held_at_last counted version_read read_by write_by with_new committed_under committed settled_committed ended commit_update commit_by aborted settled_aborted settled abort_by settle_by judged done act
computed S ls end G = played S ls end G
