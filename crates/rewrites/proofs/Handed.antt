-- What the functions ask for, good tables have.
use Prim.Native.Nat.{ℕ, ◌+◌, ◌*◌, ◌≤◌, ◌<◌}
use mathlib.Core.Path.{◌≡◌, refl, sym, ap, ◌∙◌, subst}
use mathlib.Core.Logic.{◌≢◌, ◌⊎◌, inl, inr}
use mathlib.Core.List.{List}
use native.Mathlib.Omega.{arith}
use native.Mathlib.Numerals.{add-one}
use lib.ListN.{length, get_or}
use lib.Dec.{T, eqb}
use Rattle.names.specs.Sizes.{base}
use Rattle.names.specs.Layout.{lock_exclusive_at}
use Rattle.rules.specs.Words.{row, bit}
use Rattle.rules.specs.Tables.{Tables, txn_words, version_row, clock, txn, set_txn, no_txn, is_reader, by_start, live_relaxed, lock_row, lock_words, lock, holds_exclusive}
use Rattle.rules.specs.Tables.{a_relaxed, Reader, up_to, reader_in, readers, relaxed_in}
use Rattle.rules.specs.Versions.{Version, versions_in, versions_of, stamp_at, hidden_at, place, read_by_some, row_of, kept, rewritten, revealed}
use Rattle.rules.specs.Good.{Good, GoodVersions}
use Rattle.rules.proofs.Tests.{same?, eq_make, true_is}
use Rattle.rules.proofs.Counts.{some_mem}
use Rattle.rules.proofs.RowKinds.{start_not_relaxed, reads_up_to, relaxed-live, reads-outside}
use Rattle.rules.proofs.Notes.{Beside as Notes-as-Beside}
use Rattle.rules.proofs.Rows.{rows_mapped}
use Rattle.rules.proofs.Revealed.{revealed_none}
use Rattle.rules.proofs.Readers.{reader_in_lem}
use Rattle.rules.proofs.Ready.{gone-live, gone-reads, gone_how, gone-relaxed, gone-room}
use Rattle.rules.proofs.EqualVersions.{Good→read, relaxed→, →relaxed}
use Rattle.starts.specs.Starts.{starts, Split}
use Rattle.starts.specs.Ordered.{InOrder}
use Rattle.starts.specs.Beside.{Beside}
use Rattle.starts.proofs.Split.{readers-split}
use Rattle.choices.proofs.Lent.{length-row}
use Rattle.choices.proofs.Handed.{good-sound, good_start, good-outside}
use Rattle.rewrites.specs.Written.{TidyTable, Staying, Leavable, Showing, Revealable, Reading, Committable}

module _ (G : Tables) (g : Good base G) where
  abbrev t : List ℕ
  t = G.txns

  abbrev v : List ℕ
  v = G.versions

  good-tidy : TidyTable G.versions
  good-tidy =
      record {
        size = g.versions_exact;
        rows = λ x h.
            let w : GoodVersions base t (row (version_row base) x v) = g.versions_good x h in
            record {
              size = length-row x v g.versions_exact h;
              sound = good-sound t (row (version_row base) x v) w;
              unused = w.unused;
              unhidden = w.unhidden;
            };
      }

  good-low : (x : ℕ) → x < base.items → stamp_at (versions_of base G.versions x) 0 ≤ clock G.txns
  unfolding versions_of
  good-low x h = (g.versions_good x h).first

  -- ---- a reader leaves slot s; the other rows are as they were, but for their notes
  module _
      (s : ℕ) (inside : s < base.slots) (u : List ℕ) (size : length u ≡ txn_words base)
      (beside : (r : ℕ) → r ≢ s → Notes-as-Beside (txn G.txns r) (txn u r))
    where
      abbrev left : List ℕ
      left = set_txn u s no_txn

      -- who reads a version is the one that leaves, or stays
      left_or_stays :
          (x k : ℕ) → x < base.items → 0 < k → k < length (versions_of base G.versions x)
          → (place (reader_in G.txns s) (versions_of base G.versions x) ≡ k) ⊎ T (read_by_some (readers base left) (versions_of base G.versions x) k)
      unfolding versions_of read_by_some
      left_or_stays x k h z l =
          let m = ((g.versions_good x h).reads k z).0 l in
          who m.0 m.1 m.2 m.3 (same? m.0 s)
        where
          who :
              (r : ℕ) → r < base.slots → T (is_reader (txn t r)) → place (reader_in t r) (versions_of base v x) ≡ k → (r ≡ s) ⊎ (r ≢ s)
              → (place (reader_in t s) (versions_of base v x) ≡ k) ⊎ T (read_by_some (readers base left) (versions_of base v x) k)
          who r i a e (inl d) = inl (ap (λ (n : ℕ). place (reader_in t n) (versions_of base v x)) (sym d) ∙ e)
          who r i a e (inr d) =
              inr
              (some_mem (λ q. eqb (place q (versions_of base v x)) k)
              (reader_in_lem base left r i (subst T (sym (gone-reads base t u s inside size beside r d)) a))
              (eq_make (place (reader_in left r) (versions_of base v x)) k
              (ap (λ (q : Reader). place q (versions_of base v x)) (gone_how base t u s inside size beside r d) ∙ e)))

      -- from whom a version is hidden, but for the one that leaves, stays a relaxed query
      hidden-stays : (x i : ℕ) → x < base.items → i ≢ s → T (bit (hidden_at (versions_of base G.versions x) 0) i) → T (bit (relaxed_in base left) i)
      unfolding versions_of
      hidden-stays x i h d b =
          let k = (g.versions_good x h).from_relaxed 0 i b in
          →relaxed base left i k.0 (subst T (sym (gone-relaxed base t u s inside size beside i d)) k.1)

      -- ---- for forget_all: it reads by a start
      module _ (reader : T (by_start (txn G.txns s))) (below next : ℕ) where
        reads : reader_in t s ≡ up_to (txn t s).start
        reads = reads_up_to t s (start_not_relaxed (txn t s) reader)

        pub good-staying :
            Beside (starts base (set_txn u s no_txn)) (txn G.txns s).start below next
            → Staying G.versions (readers base (set_txn u s no_txn)) (txn G.txns s).start below next
        unfolding versions_of
        good-staying b =
            record {
              starts = starts base left;
              relaxed = relaxed_in base left;
              split = readers-split base left;
              beside = b;
              few = gone-room base t u s inside size beside;
              known = λ x i h b.
                  hidden-stays x i h
                  (λ e.
                  start_not_relaxed (txn t s) reader
                  (subst (λ (n : ℕ). (txn t n).kind ≡ a_relaxed) e (relaxed-live (txn t i) ((g.versions_good x h).from_relaxed 0 i b).1).1))
                  b;
              read = λ x k h z l.
                  subst (λ (q : Reader). (place q (versions_of base v x) ≡ k) ⊎ T (read_by_some (readers base left) (versions_of base v x) k)) reads
                  (left_or_stays x k h z l);
            }

        pub good-leaves :
            Beside (starts base (set_txn u s no_txn)) (txn G.txns s).start below next
            → Leavable G.versions (txn G.txns s).start below next
        good-leaves b =
            record {
              tidy = good-tidy;
              low = λ x h. let a = good-low x h in let c = g.clock_most in omega arith;
              found = λ x h. (good_start G g x s h inside reader).found;
              readers = readers base left;
              staying = good-staying b;
            }

      -- ---- for reveal_all: it is a relaxed query
      module _ (reader : T (live_relaxed (txn G.txns s))) (q : List ℕ) where
        pub good-showing : InOrder (starts base (set_txn u s no_txn)) q → Showing G.versions (readers base (set_txn u s no_txn)) s q
        good-showing o =
            record {
              starts = starts base left;
              relaxed = relaxed_in base left;
              split = readers-split base left;
              ordered = o;
              gone = λ b. gone-live base t u s inside size beside s (relaxed-live (txn left s) (relaxed→ base left s b).1).0 refl;
              few = gone-room base t u s inside size beside;
              known = hidden-stays;
              read = λ x k h z l.
                  subst (λ (q : Reader). (place q (versions_of base v x) ≡ k) ⊎ T (read_by_some (readers base left) (versions_of base v x) k))
                  (reads-outside t s (relaxed-live (txn t s) reader).1)
                  (left_or_stays x k h z l);
            }

        pub good_reveals : InOrder (starts base (set_txn u s no_txn)) q → Revealable G.versions s q
        good_reveals o =
            record {
              tidy = good-tidy;
              low = λ x h. let a = good-low x h in let c = g.clock_most in omega arith;
              inside = inside;
              found = λ x h. (good-outside G g x s h inside reader).found;
              wide = o.order.size;
              readers = readers base left;
              showing = good-showing o;
            }

  -- ---- for commit_all: the rows are trimmed for those who read
  module _
      (qs : List Reader) (same : qs ≡ readers base G.txns) (us : List ℕ) (w : ℕ) (split : Split qs us w) (few : length qs < base.places)
      (c m below next : ℕ) (b : Beside us c below next) (known : (i : ℕ) → T (bit m i) → T (bit w i))
    where
      pub good-reading : Reading G.versions qs c m below
      unfolding versions_of
      good-reading =
          record {
            starts = us;
            relaxed = w;
            split = split;
            next = next;
            beside = b;
            few = few;
            known = known;
            read = λ x h. rw same (Good→read base t (row (version_row base) x v) (g.versions_good x h));
          }

      pub good-commits :
          (l : List ℕ) → length l ≡ lock_words base → (s : ℕ) → s < base.slots
          → ((x : ℕ) → x < base.items → T (holds_exclusive (lock l x) s) → stamp_at (versions_of base G.versions x) 0 < c)
          → ((x : ℕ) → x < base.items → T (holds_exclusive (lock l x) s) → (i : ℕ) → T (bit (hidden_at (versions_of base G.versions x) 0) i) → T (bit m i))
          → Committable G.versions l s c m below
      unfolding holds_exclusive lock
      good-commits l e s h newer joined =
          record {
            tidy = good-tidy;
            locks = e;
            inside = h;
            newer = λ x i k. newer x i (subst (λ (n : ℕ). T (eqb (get_or l (lock_row * x + lock_exclusive_at) 0) n)) (add-one s) (true_is k));
            joined = λ x i k. joined x i (subst (λ (n : ℕ). T (eqb (get_or l (lock_row * x + lock_exclusive_at) 0) n)) (add-one s) (true_is k));
            readers = qs;
            reading = good-reading;
          }

  -- a stamp above the clock is newer than every version
  pub good-newer : (c x : ℕ) → clock G.txns < c → x < base.items → stamp_at (versions_of base G.versions x) 0 < c
  good-newer c x l i = let a = good-low x i in omega arith

  -- a query that reads by a start ends: nothing was hidden from it, so that nothing is shown
  pub good-unhidden :
      (s : ℕ) → T (by_start (txn G.txns s)) → (qs : List Reader)
      → rewritten base qs (λ x vs. revealed s vs) G.versions ≡ rewritten base qs (λ x vs. vs) G.versions
  unfolding rewritten
  good-unhidden s start qs =
      rows_mapped (version_row base) (λ x r. row_of base (kept qs (revealed s (versions_in base r)))) (λ x r. row_of base (kept qs (versions_in base r))) base.items 0 v v
      g.versions_exact
      g.versions_exact
      (λ x h.
      ap (λ (vs : List Version). row_of base (kept qs vs))
      (revealed_none s (versions_in base (row (version_row base) x v))
      (λ k b. start_not_relaxed (txn t s) start (relaxed-live (txn t s) ((g.versions_good x h).from_relaxed k s b).1).1)))
