-- What the search asks for, good tables have.
use Prim.Native.Nat.{ℕ, ◌<◌, ◌≤◌}
use mathlib.Core.Path.{subst}
use mathlib.Core.List.{List}
use lib.Dec.{T}
use Rattle.names.specs.Sizes.{base}
use Rattle.rules.specs.Words.{row}
use Rattle.rules.specs.Tables.{Tables, version_row, txn, is_reader, by_start, live_relaxed, up_to, outside, reader_in}
use Rattle.rules.specs.Versions.{versions_of}
use Rattle.rules.specs.Good.{Good, GoodVersions}
use Rattle.rules.proofs.RowKinds.{start-reads, start_not_relaxed, reads_up_to, relaxed-live, relaxed-reads, reads-outside}
use Rattle.rules.proofs.Looked.{looked-chosen}
use Rattle.choices.specs.Pairs.{count_in}
use Rattle.choices.specs.Choosable.{Choosable}
use Rattle.choices.specs.SoundRow.{SoundRow}

pub good-sound : (t r : List ℕ) → GoodVersions base t r → SoundRow r
good-sound t r g = record { least = g.count_least; most = g.count_most; fall = g.fall; nest = g.nest }

module _ (G : Tables) (g : Good base G) where
  -- whoever reads versions finds one of each item
  pub good-found :
      (x s : ℕ) → x < base.items → s < base.slots → T (is_reader (txn G.txns s)) → Choosable G.versions x (reader_in G.txns s)
  unfolding versions_of
  good-found x s h inside reads =
      let r = row (version_row base) x G.versions in
      record {
        size = g.versions_exact;
        known = h;
        sound = good-sound G.txns r (g.versions_good x h);
        found = (looked-chosen base G.txns r (g.versions_good x h) s inside reads).0;
      }

  -- for chosen: who reads by a start
  pub good_start :
      (x s : ℕ) → x < base.items → s < base.slots → T (by_start (txn G.txns s)) → Choosable G.versions x (up_to (txn G.txns s).start)
  good_start x s h inside start =
      subst (Choosable G.versions x) (reads_up_to G.txns s (start_not_relaxed (txn G.txns s) start))
      (good-found x s h inside (start-reads (txn G.txns s) start))

  -- for chosen_outside: a relaxed query
  pub good-outside :
      (x s : ℕ) → x < base.items → s < base.slots → T (live_relaxed (txn G.txns s)) → Choosable G.versions x (outside s)
  good-outside x s h inside relaxed =
      subst (Choosable G.versions x) (reads-outside G.txns s (relaxed-live (txn G.txns s) relaxed).1)
      (good-found x s h inside (relaxed-reads (txn G.txns s) relaxed))

  -- for newest and hidden_now: each item has a version
  pub good-least : (x : ℕ) → x < base.items → 1 ≤ count_in (row (version_row base) x G.versions)
  good-least x h = (g.versions_good x h).count_least
