-- A trial, computed with the test of all tables at each call: for tables that are not good, or not known to be.
use mathlib.Core.Bool.{Bool}
use mathlib.Core.List.{List}
use Rattle.names.specs.declared.Sizes.{Sizes}
use Rattle.rules.specs.Tables.{Tables}
use Rattle.rules.specs.Tested.{sizes_exact, tops_most, all_zero, free_zero, listed, start_good, awaited_good, reads_good, notes_good, awaiter_good, txn_good, distinct, holders_live, lock_good, quota_most, full_idle, quota_good, rank_within, ranks_apart, ranks_good, falls, nests, last_seen, all_read, versions_good, holders_joined, stamps_apart, stamp_above, settled_good, sets_good, good}
use Rattle.rules.specs.Step.{step}
use Rattle.plays.specs.Plays.{Line, passes}
use Rattle.plays.proofs.Computed.{computed}

unfoldable pub tested : Sizes → List Line → (Tables → Bool) → Tables → Bool
unfolding computed passes step sizes_exact tops_most all_zero free_zero listed start_good awaited_good reads_good notes_good awaiter_good txn_good distinct holders_live lock_good quota_most full_idle quota_good rank_within ranks_apart ranks_good falls nests last_seen all_read versions_good holders_joined stamps_apart stamp_above settled_good sets_good good
tested S ls end G = passes S ls end G
