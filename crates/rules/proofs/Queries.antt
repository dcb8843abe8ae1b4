-- What a read of a version is, and that trimming takes no version that somebody reads and leaves no other but the newest.
use Prim.Native.Nat.{ℕ, ◌+◌, ◌≤◌, ◌<◌}
use mathlib.Core.Path.{◌≡◌, refl, sym, ap, ◌∙◌, subst}
use mathlib.Core.Logic.{◌⊎◌, inl, inr}
use mathlib.Core.Bool.{Bool, true, false, cond}
use mathlib.Core.List.{List, ◌∷◌}
use native.Mathlib.Omega.{arith}
use lib.ListN.{length, get_or}
use lib.Dec.{T, leb→le}
use Rattle.names.specs.declared.Sizes.{Sizes}
use Rattle.rules.specs.Words.{row, bit}
use Rattle.rules.specs.Tables.{Tables, version_row, clock, txn, live_update, live_settled, is_reader, by_start, Reader, reader_in, readers, lock, holds_exclusive}
use Rattle.rules.specs.Versions.{Version, no_version, versions_in, versions_of, sees, place, choice, kept, revealed}
use Rattle.rules.specs.Good.{Good}
use Rattle.rules.specs.Tested.{all_read}
use Rattle.rules.specs.Step.{forgotten, committed_under, committed, settled_committed, ended, settled_aborted, with_new}
use Rattle.rules.specs.Promises.{VersionReads, TrimmedTo, EndTrims, SettledTrims, CommitTrims, CommitKeeps}
use Rattle.rules.proofs.Tests.{is_false, true_is, not_use}
use Rattle.rules.proofs.RowKinds.{reads_up_to, reads-outside, start_not_relaxed, relaxed-live}
use Rattle.rules.proofs.Choice.{choice_miss}
use Rattle.rules.proofs.Trim.{kept_top, kept-choice, kept_read, length-kept, reader}
use Rattle.rules.proofs.Readers.{reader_in_lem, in_reader}
use Rattle.rules.proofs.Looked.{looked-good, looked-chosen}
use Rattle.rules.proofs.Joined.{forgotten-length}
use Rattle.rules.proofs.Calls.{version_reads}
use Rattle.rules.proofs.ChangedVersions.{left-readers, ended-versions, committed-room, committed-readers, committed-versions, settled-commit-versions, settled-abort-versions}

-- ---- "The value is that of the newest version whose stamp is at most its start. ..": the place that `choice` finds
pub version_read : (S : Sizes) → VersionReads S
unfolding versions_of choice
version_read S G n s x g C reads known other free =
    let r = row (version_row S) x G.versions in
    let w = looked-chosen S G.txns r (g.versions_good x known) s C.inside reads in (
      place (reader_in G.txns s) (versions_in S r),
      record { there = w.0; seen = w.1; newest = w.2 },
      version_reads S G g n s C reads x known other free,
      looked-good S G.txns r (g.versions_good x known) (reader_in G.txns s),
    )

-- where every version behind the newest is read, it is read by one that lives
read_by_one :
    (S : Sizes) (t : List ℕ) (vs : List Version) → T (all_read (readers S t) vs 0 vs)
    → (k : ℕ) → 0 < k → k < length vs → (r : ℕ) × (r < S.slots) × T (is_reader (txn t r)) × (place (reader_in t r) vs ≡ k)
read_by_one S t vs h k pos there =
    let w = reader (readers S t) vs h k pos there in
    let r = in_reader S t w.0 w.1 in
    (r.0, r.1, r.2, ap (λ (q : Reader). place q vs) r.3 ∙ w.2)

-- ---- what is kept for the readers of H is trimmed to them: each of them chooses the very same version, and every version but the newest
-- is read by one of them
trims_to :
    (S : Sizes) (H : Tables) (x : ℕ) (vs : List Version) → length (readers S H.txns) < S.slots
    → versions_of S H.versions x ≡ kept (readers S H.txns) vs → TrimmedTo S vs H x
trims_to S H x vs few e =
    let qs = readers S H.txns in
    record {
      newest = ap (λ (l : List Version). get_or l 0 no_version) e ∙ kept_top qs vs;
      read = λ r i q. ap (choice (reader_in H.txns r)) e ∙ kept-choice qs vs (reader_in H.txns r) (reader_in_lem S H.txns r i q);
      no_other = λ k pos there. read_by_one S H.txns (versions_of S H.versions x) (subst (λ (vs : List Version). T (all_read qs vs 0 vs)) (sym e) (kept_read qs vs)) k pos there;
      places = rw e (let b = length-kept qs vs in omega arith);
    }

module _ (S : Sizes) (enough : S.slots ≤ S.places) (G : Tables) (s : ℕ) (g : Good S G) (inside : s < S.slots) where
  -- ---- after the end of the query in slot s
  end_trims_lem : (x : ℕ) → x < S.items → TrimmedTo S (revealed s (versions_of S G.versions x)) (ended S s G) x
  end_trims_lem x known =
      trims_to S (ended S s G) x _
      (unfold ended in (left-readers S (forgotten S s G.txns) (forgotten-length S s G.txns ∙ g.txns_exact) s inside))
      (ended-versions S G g enough s inside x known)

  -- ---- after the commit of the update in slot s
  module _ (update : T (live_update (txn G.txns s))) where
    abbrev new : ℕ → List Version
    new x = with_new G.locks s (clock G.txns + 1) (txn G.txns s).later_for x (versions_of S G.versions x)

    same-readers : readers S (committed S s G).txns ≡ readers S G.txns
    same-readers = committed-readers S G g enough s inside update

    commit_trims_lem : (x : ℕ) → x < S.items → TrimmedTo S (new x) (committed S s G) x
    commit_trims_lem x known =
        trims_to S (committed S s G) x (new x)
        (let a = committed-room S G g enough s inside update in let c = ap length same-readers in omega arith)
        (committed-versions S G g enough s inside update x known ∙ ap (λ (q : List Reader). kept q (new x)) (sym same-readers))

    -- who may not read the new version: it is above every start, and hidden from those in whose sets the committer is
    abbrev Passes : ℕ → ℕ → Type 0
    Passes r x =
        T (by_start (txn G.txns r))
        ⊎ (T (bit (txn G.txns s).later_for r)
        ⊎ ((T (holds_exclusive (lock G.locks x) s) → ⊥) ⊎ T (bit (txn G.txns r).items_read x)))

    fresh : ℕ → Version
    fresh x = record { stamp = clock G.txns + 1; value = (lock G.locks x).working; hidden = (txn G.txns s).later_for }

    unseen_by :
        (r : ℕ) → r < S.slots → T (is_reader (txn G.txns r)) → (x : ℕ) → x < S.items → T (holds_exclusive (lock G.locks x) s) → Passes r x
        → T (sees (reader_in G.txns r) (fresh x)) → ⊥
    unfolding sees fresh
    unseen_by r i reads x known held (inl a) h =
        let k = leb→le (clock G.txns + 1) (txn G.txns r).start
        (subst (λ (p : Reader). T (sees p (fresh x))) (reads_up_to G.txns r (start_not_relaxed (txn G.txns r) a)) h) in
        let m = (g.txn_good r i).reader_start a in
        omega arith
    unseen_by r i reads x known held (inr (inl a)) h =
        let q = (relaxed-live (txn G.txns r) (g.sets_good.of_relaxed s r inside a).1).1 in
        not_use (bit (txn G.txns s).later_for r) (subst (λ (p : Reader). T (sees p (fresh x))) (reads-outside G.txns r q) h) a
    unseen_by r i reads x known held (inr (inr (inl n))) h = n held
    unseen_by r i reads x known held (inr (inr (inr b))) h =
        let a = g.sets_good.holds_read x s r known i held b in
        let q = (relaxed-live (txn G.txns r) (g.sets_good.of_relaxed s r inside a).1).1 in
        not_use (bit (txn G.txns s).later_for r) (subst (λ (p : Reader). T (sees p (fresh x))) (reads-outside G.txns r q) h) a

    unseen :
        (r : ℕ) → r < S.slots → T (is_reader (txn G.txns r)) → (x : ℕ) → x < S.items → Passes r x
        → choice (reader_in G.txns r) (new x) ≡ choice (reader_in G.txns r) (versions_of S G.versions x)
    unfolding with_new fresh
    unseen r i reads x known p = go (holds_exclusive (lock G.locks x) s) refl
      where
        q : Reader
        q = reader_in G.txns r

        vs : List Version
        vs = versions_of S G.versions x

        go : (b : Bool) → holds_exclusive (lock G.locks x) s ≡ b → choice q (cond b (fresh x ∷ vs) vs) ≡ choice q vs
        go true e = choice_miss q (fresh x) vs (is_false (sees q (fresh x)) (unseen_by r i reads x known (true_is e) p))
        go false e = refl

    keeps-choice :
        (r : ℕ) → r < S.slots → T (is_reader (txn G.txns r)) → (x : ℕ) → x < S.items → Passes r x
        → choice (reader_in G.txns r) (versions_of S (committed S s G).versions x) ≡ choice (reader_in G.txns r) (versions_of S G.versions x)
    keeps-choice r i reads x known p =
        ap (choice (reader_in G.txns r)) (committed-versions S G g enough s inside update x known)
        ∙ kept-choice (readers S G.txns) (new x) (reader_in G.txns r) (reader_in_lem S G.txns r i reads)
        ∙ unseen r i reads x known p

  -- ---- request E6: after the end of one past its writing
  both_trim :
      T (live_settled (txn G.txns s)) → (x : ℕ) → x < S.items
      → TrimmedTo S (with_new G.locks s (txn G.txns s).start 0 x (versions_of S G.versions x)) (settled_committed S s G) x
      × TrimmedTo S (versions_of S G.versions x) (settled_aborted S s G) x
  both_trim past x known = (
    trims_to S (settled_committed S s G) x _ (unfold settled_committed committed_under in (left-readers S G.txns g.txns_exact s inside)) (settled-commit-versions S G g enough s inside past x known),
    trims_to S (settled_aborted S s G) x _ (unfold settled_aborted in (left-readers S G.txns g.txns_exact s inside)) (settled-abort-versions S G g enough s inside x known),
  )

pub settled_trims_lem : (S : Sizes) → S.slots ≤ S.places → SettledTrims S
settled_trims_lem S enough G s g inside past x known = both_trim S enough G s g inside past x known

pub ended_trims : (S : Sizes) → S.slots ≤ S.places → EndTrims S
ended_trims S enough G s g inside x known = end_trims_lem S enough G s g inside x known

pub committed_trims : (S : Sizes) → S.slots ≤ S.places → CommitTrims S
committed_trims S enough G s g inside update x known = commit_trims_lem S enough G s g inside update x known

pub committed-keeps : (S : Sizes) → S.slots ≤ S.places → CommitKeeps S
committed-keeps S enough G s r g inside update i reads x known p = keeps-choice S enough G s g inside update r i reads x known p
