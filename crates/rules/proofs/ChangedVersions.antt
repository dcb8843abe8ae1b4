-- Which words an update's commit and the ends of others change: the version row of an item that a committing update does not hold
-- exclusively keeps every word, and the end of a query that is not relaxed changes nothing but its row and what none but it read.
use Prim.Native.Nat.{ℕ, ◌+◌, ◌*◌, ◌≤◌, ◌<◌}
use mathlib.Core.Path.{◌≡◌, refl, sym, ap, ◌∙◌, subst}
use mathlib.Core.Logic.{◌≢◌, ◌⊎◌, inl, inr}
use mathlib.Core.Bool.{Bool, true, false}
use mathlib.Core.List.{List}
use native.Mathlib.Omega.{arith}
use native.Mathlib.Nat.{zero-add}
use lib.ListN.{length, set, length-set}
use lib.Dec.{T, ltb}
use borrow.Author.Tests.{ltb-true, ltb-false}
use Rattle.names.specs.declared.Sizes.{Sizes}
use Rattle.names.specs.Layout.{clock_at, txn_later_for_at, txn_row}
use Rattle.rules.specs.Words.{row}
use Rattle.rules.specs.Tables.{Tables, tables, txn_at, txn_words, version_row, clock, Txn, txn, set_txn, no_txn, live, live_update, live_settled, live_relaxed, is_reader, Reader}
use Rattle.rules.specs.Tables.{readers, lock, holds_exclusive, release}
use Rattle.rules.specs.Versions.{Version, versions_in, versions_of, row_of, kept, rewritten, revealed}
use Rattle.rules.specs.Good.{Good, GoodVersions}
use Rattle.rules.specs.Step.{forgotten, committed_under, committed, settled_committed, ended, settled_aborted, with_new}
use Rattle.rules.specs.Changed.{Committed, Ended, RelaxedEnded, SettledEnded}
use Rattle.rules.proofs.Tests.{same?, is_true, is_false}
use Rattle.rules.proofs.Rows.{rows_mapped}
use Rattle.rules.proofs.Views.{length-set_txn, outside-set_txn, txn-set_txn, txn-set_txn-other, txn-top}
use Rattle.rules.proofs.RowKinds.{update-live, settled-live, update_no_reader}
use Rattle.rules.proofs.Trim.{kept_fixed}
use Rattle.rules.proofs.Revealed.{revealed_none}
use Rattle.rules.proofs.Readers.{readers-same, same-reader, readers-lt}
use Rattle.rules.proofs.Rewrites.{length-rewritten, row-rewritten, versions-rewritten}
use Rattle.rules.proofs.EqualVersions.{Good→read}
use Rattle.rules.proofs.Joined.{forgotten-length, forgotten-row, forgotten-word, forgotten_none}
use Rattle.rules.proofs.RowBack.{row_of-versions_in, length-row, row_words}
use Rattle.rules.proofs.Changes.{set_txn-changes, top-changes, release-changes}

-- a free row is no reader
free_no_reader : is_reader no_txn ≡ false
unfolding is_reader live
free_no_reader = refl

-- an update that writes is none
writer_no_reader : (t : List ℕ) (s : ℕ) → T (live_update (txn t s)) → is_reader (txn t s) ≡ false
writer_no_reader t s u = is_false (is_reader (txn t s)) (update_no_reader (txn t s) u)

-- ---- the row of slot s goes from u: one reader less than there are slots is left at most
module _ (S : Sizes) (u : List ℕ) (size : length u ≡ txn_words S) (s : ℕ) (inside : s < S.slots) where
  pub left-readers : length (readers S (set_txn u s no_txn)) < S.slots
  left-readers =
      readers-lt S (set_txn u s no_txn) s inside (ap is_reader (txn-set_txn u s no_txn S size inside) ∙ free_no_reader)

-- ---- two ways to rewrite the same rows
pub rewritten-same :
    (S : Sizes) (qs : List Reader) (f h : ℕ → List Version → List Version) (v : List ℕ) → length v ≡ version_row S * S.items
    → ((x : ℕ) → x < S.items → f x (versions_of S v x) ≡ h x (versions_of S v x)) → rewritten S qs f v ≡ rewritten S qs h v
unfolding rewritten versions_of
rewritten-same S qs f h v e same =
    rows_mapped (version_row S) (λ x r. row_of S (kept qs (f x (versions_in S r)))) (λ x r. row_of S (kept qs (h x (versions_in S r)))) S.items 0 v v e e
    (λ k i.
    subst
    (λ (y : ℕ). row_of S (kept qs (f y (versions_in S (row (version_row S) k v)))) ≡ row_of S (kept qs (h y (versions_in S (row (version_row S) k v)))))
    (sym (zero-add k)) (ap (λ (vs : List Version). row_of S (kept qs vs)) (same k i)))

module _ (S : Sizes) (G : Tables) (g : Good S G) (enough : S.slots ≤ S.places) (s : ℕ) (inside : s < S.slots) where
  abbrev t : List ℕ
  t = G.txns

  abbrev v : List ℕ
  v = G.versions

  -- ---- a query's end, relaxed or not
  abbrev u : List ℕ
  u = forgotten S s t

  u_size : length u ≡ txn_words S
  u_size = forgotten-length S s t ∙ g.txns_exact

  pub ended-room : length (readers S (ended S s G).txns) < S.places
  unfolding ended
  ended-room = let a = left-readers S u u_size s inside in omega arith

  pub ended-versions :
      (x : ℕ) → x < S.items
      → versions_of S (ended S s G).versions x ≡ kept (readers S (ended S s G).txns) (revealed s (versions_of S G.versions x))
  unfolding ended
  ended-versions x known =
      versions-rewritten S (readers S (set_txn u s no_txn)) (λ x vs. revealed s vs) v ended-room g.versions_exact x known

  pub relaxed-ended-changes : RelaxedEnded S s G (ended S s G)
  unfolding ended versions_of
  relaxed-ended-changes =
      record {
        txns =
            record {
              size = length-set_txn u s no_txn ∙ forgotten-length S s t;
              here = txn-set_txn u s no_txn S u_size inside;
              words = λ q i d.
                  outside-set_txn u s no_txn (txn_at q + txn_later_for_at) (beside q d)
                  ∙ (unfold txn in (ap (λ (r : Txn). r.later_for) (forgotten-row S s t g.txns_exact q i)));
              others = λ j e n. outside-set_txn u s no_txn j e ∙ forgotten-word S s t j n;
            };
        locks = refl;
        size = length-rewritten S (readers S (set_txn u s no_txn)) (λ x vs. revealed s vs) v ended-room g.versions_exact ∙ sym g.versions_exact;
        each = row-rewritten S (readers S (set_txn u s no_txn)) (λ x vs. revealed s vs) v ended-room g.versions_exact;
      }
    where
      beside : (q : ℕ) → q ≢ s → (txn_at q + txn_later_for_at < txn_at s) ⊎ (txn_at s + txn_row ≤ txn_at q + txn_later_for_at)
      beside q d = go (ltb q s) refl
        where
          go : (b : Bool) → ltb q s ≡ b → (txn_at q + txn_later_for_at < txn_at s) ⊎ (txn_at s + txn_row ≤ txn_at q + txn_later_for_at)
          go true e = let l = ltb-true q s e in inl (omega arith)
          go false e = let l = ltb-false q s e in inr (omega arith)

  -- ---- the end of one that is not relaxed: nobody is in a set of its own, nothing is hidden from it
  module _ (strict : T (live_relaxed (txn G.txns s)) → ⊥) where
    forgets_nothing : u ≡ t
    forgets_nothing = forgotten_none S s t (λ r i b. strict (g.sets_good.of_relaxed r s i b).1)

    pub reveals_nothing : (x : ℕ) → x < S.items → revealed s (versions_of S G.versions x) ≡ versions_of S G.versions x
    unfolding versions_of
    reveals_nothing x i = revealed_none s (versions_in S (row (version_row S) x v)) (λ k b. strict ((g.versions_good x i).from_relaxed k s b).1)

    pub strict_ended :
        ended S s G ≡ tables (set_txn G.txns s no_txn) G.locks (rewritten S (readers S (set_txn G.txns s no_txn)) (λ x vs. vs) G.versions)
    unfolding ended
    strict_ended =
        ap (λ (w : List ℕ). tables (set_txn w s no_txn) G.locks (rewritten S (readers S (set_txn w s no_txn)) (λ x vs. revealed s vs) v)) forgets_nothing
        ∙ ap (tables (set_txn t s no_txn) G.locks)
        (rewritten-same S (readers S (set_txn t s no_txn)) (λ x vs. revealed s vs) (λ x vs. vs) v g.versions_exact reveals_nothing)

    strict_room : length (readers S (set_txn t s no_txn)) < S.places
    strict_room = let a = left-readers S t g.txns_exact s inside in omega arith

    pub ended-changes : Ended S s G (ended S s G)
    unfolding versions_of
    ended-changes =
        subst (Ended S s G) (sym strict_ended)
        (record {
          txns = set_txn-changes S t g.txns_exact s inside no_txn;
          locks = refl;
          size = length-rewritten S (readers S (set_txn t s no_txn)) (λ x vs. vs) v strict_room g.versions_exact ∙ sym g.versions_exact;
          each = row-rewritten S (readers S (set_txn t s no_txn)) (λ x vs. vs) v strict_room g.versions_exact;
        })

  -- ---- an update's commit
  module _ (update : T (live_update (txn G.txns s))) where
    abbrev c : ℕ
    c = clock t + 1

    abbrev m : ℕ
    m = (txn t s).later_for

    abbrev t' : List ℕ
    t' = set_txn (set t clock_at c) s no_txn

    abbrev l : List ℕ
    l = G.locks

    size' : length (set t clock_at c) ≡ txn_words S
    size' = length-set t clock_at c ∙ g.txns_exact

    -- the committer reads no versions, so the readers are those of before
    same-readers : readers S t' ≡ readers S t
    same-readers = readers-same t t' (λ r. same-reader t t' r (go r (same? r s))) S
      where
        go : (r : ℕ) → (r ≡ s) ⊎ (r ≢ s) → (txn t' r ≡ txn t r) ⊎ ((is_reader (txn t' r) ≡ false) × (is_reader (txn t r) ≡ false))
        go r (inl e) =
            inr (
              ap (λ (m : ℕ). is_reader (txn t' m)) e ∙ ap is_reader (txn-set_txn (set t clock_at c) s no_txn S size' inside) ∙ free_no_reader,
              ap (λ (m : ℕ). is_reader (txn t m)) e ∙ writer_no_reader t s update,
            )
        go r (inr d) = inl (txn-set_txn-other (set t clock_at c) s no_txn r d ∙ txn-top t clock_at c r (omega arith))

    pub committed-readers : readers S (committed S s G).txns ≡ readers S G.txns
    unfolding committed committed_under
    committed-readers = same-readers

    pub committed-room : length (readers S G.txns) < S.slots
    committed-room = readers-lt S t s inside (writer_no_reader t s update)

    room' : length (readers S t') < S.places
    room' = let a = committed-room in let b = left-readers S (set t clock_at c) size' s inside in omega arith

    pub committed-versions :
        (x : ℕ) → x < S.items
        → versions_of S (committed S s G).versions x
        ≡ kept (readers S G.txns) (with_new G.locks s (clock G.txns + 1) (txn G.txns s).later_for x (versions_of S G.versions x))
    unfolding committed committed_under
    committed-versions x known =
        versions-rewritten S (readers S t') (with_new l s c m) v room' g.versions_exact x known
        ∙ ap (λ (qs : List Reader). kept qs (with_new l s c m x (versions_of S v x))) same-readers

    rows : (x : ℕ) → x < S.items → row (version_row S) x (committed S s G).versions ≡ row_of S (kept (readers S t) (with_new l s c m x (versions_of S v x)))
    unfolding committed committed_under versions_of
    rows x known =
        row-rewritten S (readers S t') (with_new l s c m) v room' g.versions_exact x known
        ∙ ap (λ (qs : List Reader). row_of S (kept qs (with_new l s c m x (versions_in S (row (version_row S) x v))))) same-readers

    -- trimming a good row for the same readers takes nothing, and writing it back gives the same words
    row_kept : (x : ℕ) → x < S.items → (T (holds_exclusive (lock l x) s) → ⊥) → row (version_row S) x (committed S s G).versions ≡ row (version_row S) x v
    unfolding with_new versions_of
    row_kept x known n =
        let q : GoodVersions S t (row (version_row S) x v) = g.versions_good x known in
        let r = row (version_row S) x v in
        rows x known
        ∙ rw (is_false (holds_exclusive (lock l x) s) n)
        (ap (row_of S) (kept_fixed (readers S t) (versions_in S r) (Good→read S t r q))
        ∙ row_of-versions_in S r (length-row (version_row S) x S.items v g.versions_exact known) q.count_most q.unused q.unhidden)

    pub committed-changes : Committed S s G (committed S s G)
    unfolding committed committed_under with_new
    committed-changes =
        record {
          txns = top-changes S t g.txns_exact s inside clock_at c (omega arith) no_txn;
          locks = release-changes S s l g.locks_exact;
          size = length-rewritten S (readers S t') (with_new l s c m) v room' g.versions_exact ∙ sym g.versions_exact;
          written = λ x known a. rw (is_true (holds_exclusive (lock l x) s) a) at (rows x known);
          others = λ x j known b n. row_words (version_row S) x v (committed S s G).versions (row_kept x known n) j b;
        }

  -- ---- request E6: the end of one past its writing, f being what becomes of an item's versions before they are trimmed
  settled-room : length (readers S (set_txn t s no_txn)) < S.places
  settled-room = let a = left-readers S t g.txns_exact s inside in omega arith

  settled_end_changes :
      (f : ℕ → List Version → List Version)
      → SettledEnded S s (λ x. f x (versions_of S v x)) G
      (tables (set_txn t s no_txn) (release S s G.locks) (rewritten S (readers S (set_txn t s no_txn)) f v))
  unfolding versions_of
  settled_end_changes f =
      record {
        txns = set_txn-changes S t g.txns_exact s inside no_txn;
        locks = release-changes S s G.locks g.locks_exact;
        size = length-rewritten S (readers S (set_txn t s no_txn)) f v settled-room g.versions_exact ∙ sym g.versions_exact;
        each = row-rewritten S (readers S (set_txn t s no_txn)) f v settled-room g.versions_exact;
      }

  -- the versions that are left
  pub settled-abort-versions :
      (x : ℕ) → x < S.items
      → versions_of S (settled_aborted S s G).versions x ≡ kept (readers S (settled_aborted S s G).txns) (versions_of S G.versions x)
  unfolding settled_aborted
  settled-abort-versions x known = versions-rewritten S (readers S (set_txn t s no_txn)) (λ x vs. vs) v settled-room g.versions_exact x known

  pub settled-abort-changes : SettledEnded S s (λ x. versions_of S G.versions x) G (settled_aborted S s G)
  unfolding settled_aborted
  settled-abort-changes = settled_end_changes (λ x vs. vs)

  module _ (past : T (live_settled (txn G.txns s))) where
    -- it is in no set
    pub settled-alone : (txn G.txns s).later_for ≡ 0
    settled-alone =
        (g.txn_good s inside).notes_good.only_updates (λ a. let k = (update-live (txn t s) a).1 in let n = (settled-live (txn t s) past).1 in omega arith)

    pub settled-commit-changes :
        SettledEnded S s (λ x. with_new G.locks s (txn G.txns s).start 0 x (versions_of S G.versions x)) G (settled_committed S s G)
    unfolding settled_committed committed_under
    settled-commit-changes =
        subst (λ (w : ℕ). SettledEnded S s (λ x. with_new G.locks s (txn t s).start w x (versions_of S v x)) G (settled_committed S s G)) settled-alone
        (settled_end_changes (with_new G.locks s (txn t s).start (txn t s).later_for))

    pub settled-commit-versions :
        (x : ℕ) → x < S.items
        → versions_of S (settled_committed S s G).versions x
        ≡ kept (readers S (settled_committed S s G).txns) (with_new G.locks s (txn G.txns s).start 0 x (versions_of S G.versions x))
    unfolding settled_committed committed_under
    settled-commit-versions x known =
        versions-rewritten S (readers S (set_txn t s no_txn)) (with_new G.locks s (txn t s).start (txn t s).later_for) v settled-room g.versions_exact x known
        ∙ ap (λ (w : ℕ). kept (readers S (set_txn t s no_txn)) (with_new G.locks s (txn t s).start w x (versions_of S v x))) settled-alone
